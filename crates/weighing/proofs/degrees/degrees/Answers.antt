-- `weighing::degrees::degrees` meets its contract. The invariant: the degrees among the bones below i are noted.
-- Assumes nothing.
use Rattle.std.proofs.Common.{◌≡◌, min, refl, arith}
use Rattle.links.specs.Table.{held}
use Rattle.weighing.specs.Side.{heap_of}
use Rattle.weighing.proofs.Noting.{noted_none}
use Rattle.weighing.proofs.degrees.degrees.Goals as goal

pub loop-i-init : goal.loop-i-init
loop-i-init c = noted_none (held c.args.table.now) (heap_of c.args.names.now) 128 refl

pub note-requires : goal.note-requires
note-requires c = (omega arith, c.loop-i.invariant)

pub returns : goal.returns
returns c = let done : c.loop-i.i ≡ min c.args.n 128 = omega arith in rw done at c.loop-i.invariant
