-- `weighing::degrees::leave_from` meets its contract. The invariant: what the bones of x below b took is lost.
-- Assumes nothing.
use Rattle.std.proofs.Common.{◌≡◌, zero-le, arith, le-ltb, eq-eqb, ne_eqb}
use Rattle.meaning.specs.Count.{sum}
use Rattle.meaning.specs.Heap.{pile}
use Rattle.links.proofs.TableHeld.{held_symmetric}
use Rattle.links.specs.Table.{held}
use Rattle.weighing.specs.Side.{heap_of}
use Rattle.weighing.specs.Piles.{heap}
use Rattle.weighing.specs.Degrees.{toward, lost}
use Rattle.weighing.proofs.Listing.{cond_none}
use Rattle.weighing.proofs.Noting.{less_same, less_none, less_then, lost_next, lost_by}
use Rattle.weighing.proofs.degrees.leave_from.Goals as goal
use Rattle.weighing.proofs.degrees.leave_from.Goals.{then-piles-b, else-piles-b}

pub loop-b-init : goal.loop-b-init
unfolding heap_of lost_by lost pile toward sum
loop-b-init c = λ notes. less_same (λ b. rw (le-ltb b 0 zero-le, cond_none)) (less_none notes)

pub loop-b-preserved : goal.loop-b-preserved
unfolding heap_of lost_by lost pile toward sum
loop-b-preserved c =
    let a = c.args in
    let l = c.loop-b in
    let step = lost_next a.piles.now.bones (held a.table.now) (heap a.piles.now) a.x a.y (held_symmetric a.table.now) l.b in
    λ notes. let so = l.invariant notes in
    elim c.if-piles-b.branch [
      | then-piles-b w ↦ rw w.degrees-is (less_same (λ b. rw (eq-eqb _ _ w.if-piles-b.true) at (step b)) (less_then so (w.part.ensures so.notes)))
      | else-piles-b w ↦ rw w.degrees-is (less_same (λ b. omega (arith, rw (ne_eqb _ _ w.if-piles-b.false) at (step b))) so)
    ]

pub returns : goal.returns
unfolding heap_of lost_by lost pile toward sum
returns c =
    let done : c.loop-b.b ≡ c.args.piles.now.bones = omega arith in
    rw done at c.loop-b.invariant
