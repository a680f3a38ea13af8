-- `weighing::degrees::lone_side` meets its contract: by whether u names the pile.
-- Assumes nothing.
use Rattle.std.proofs.Common.{sym, ◌∙◌, arith, ne_eqb}
use Rattle.meaning.proofs.Tests.{fails}
use Rattle.weighing.specs.Side.{heap_of}
use Rattle.weighing.specs.Piles.{heap}
use Rattle.weighing.specs.Degrees.{moves}
use Rattle.weighing.proofs.Moving.{side_none}
use Rattle.weighing.proofs.Noting.{moves_apart, one_mark}
use Rattle.weighing.proofs.degrees.lone_side.Goals as goal

pub put-requires : goal.put-requires
put-requires c = (omega arith, fails (side_none 16 c.args.u))

pub returns-then-from-u : goal.returns-then-from-u
unfolding heap_of
returns-then-from-u c =
    let u = c.args.u in
    let named = sym c.from.ensures ∙ c.if-from-u.true in
    λ b. c.side_of.ensures b ∙ rw (moves_apart c.args.piles.now.bones (λ i j. 0) (heap c.args.piles.now) u c.requires b, named, one_mark u b 128 (omega arith), one_mark u u 128 (omega arith))

pub returns-else-from-u : goal.returns-else-from-u
unfolding heap_of moves
returns-else-from-u c = λ b. c.put.ensures.1 b ∙ rw (side_none 16 b, ne_eqb _ _ (λ e. c.if-from-u.false (c.from.ensures ∙ e)))
