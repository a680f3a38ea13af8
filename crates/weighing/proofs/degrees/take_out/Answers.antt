-- `weighing::degrees::take_out` meets its contract. The invariant: the total is the sum over the bones below c, each at most 2 ^ 32, and each of them has lost
-- its part. Assumes nothing.
use Rattle.std.proofs.Common.{◌≡◌, cond, sym, refl, zero-le, arith, le-ltb}
use Rattle.meaning.specs.Count.{sum}
use Rattle.links.specs.Table.{held}
use Rattle.weighing.specs.Piles.{heap}
use Rattle.weighing.specs.Degrees.{toward, others, share}
use Rattle.weighing.proofs.Noting.{toward_next, less_same, less_none, less_at, upto_next}
use Rattle.weighing.proofs.degrees.take_out.Goals as goal

pub loop-c-init : goal.loop-c-init
unfolding toward sum share
loop-c-init c = (refl, zero-le, λ notes. less_same (λ b. rw (le-ltb b 0 zero-le)) (less_none notes))

pub overflow_add-total : goal.overflow_add-total
overflow_add-total c = omega (arith, c.tally_with-tally.ensures.1)

pub loop-c-preserved : goal.loop-c-preserved
unfolding toward sum share
loop-c-preserved c =
    let x = c.tally_with-tally in
    let l = c.loop-c in
    let a = c.args in
    let w = held a.table.now in
    let S = others (heap a.piles.now) a.name a.b in (
      omega (arith, l.invariant.0, x.ensures.0, toward_next l.c w S a.b),
      omega (arith, x.ensures.1),
      λ notes. less_same (λ b. sym (upto_next (λ b. cond (S b) (w a.b b) 0) l.c b))
          (less_at l.c _ _ (omega arith) (omega arith) (omega (arith, x.ensures.0, x.ensures.1)) (l.invariant.2 notes)),
    )

pub returns : goal.returns
unfolding toward sum share
returns c =
    let l = c.loop-c in
    let done : l.c ≡ c.args.piles.now.bones = omega arith in
    record {
      value = rw done at l.invariant.0;
      loses = rw done at l.invariant.2;
    }
