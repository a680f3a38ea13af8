-- `weighing::degrees::earlier` meets its contract: the pair stands in the row of its greater bone, which is i.
-- Assumes nothing.
use Rattle.std.proofs.Common.{◌≡◌, ◌+◌, ◌*◌, ap, ◌∙◌, arith}
use Rattle.std.specs.Int.{from_bool}
use Rattle.links.specs.Table.{spot, held}
use Rattle.weighing.specs.Side.{heap_of}
use Rattle.weighing.specs.Degrees.{mate}
use Rattle.weighing.proofs.Noting.{product}
use Rattle.weighing.proofs.degrees.earlier.Goals as goal

pub returns : goal.returns
unfolding held spot
returns c =
    let a = c.args in
    let at : spot a.i a.j ≡ a.i * 128 + a.j = omega arith in
    rw at (product _ (mate (heap_of a.names.now) a.i a.j) (c.from.ensures ∙ ap from_bool c.alike.ensures))
