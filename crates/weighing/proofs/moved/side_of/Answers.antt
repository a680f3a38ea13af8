-- `weighing::moved::side_of` meets its contract. The invariant: the bones below b that move out are on the side. Assumes nothing.
use Rattle.std.proofs.Common.{◌≡◌, sym, refl, ◌∙◌, zero-le, le_refl, arith, le-ltb}
use mathlib.Core.Bool.{and_assoc}
use Rattle.meaning.specs.Heap.{pile}
use Rattle.meaning.proofs.Tests.{fails}
use Rattle.weighing.proofs.Moving.{side_none, side_next, side_skip}
use Rattle.weighing.proofs.moved.side_of.Invariants.{out}
use Rattle.weighing.proofs.moved.side_of.Goals as goal
use Rattle.weighing.proofs.moved.side_of.Goals.{then-moves_out, else-moves_out}

pub loop-b-init : goal.loop-b-init
unfolding pile
loop-b-init c = (refl, λ x. rw (le-ltb x 0 zero-le) (side_none 16 x))

pub put-requires : goal.put-requires
unfolding pile
put-requires c =
    let l = c.loop-b in
    (omega arith, fails (l.invariant.1 l.b ∙ rw (le-ltb l.b l.b (le_refl _))))

pub loop-b-preserved : goal.loop-b-preserved
unfolding pile
loop-b-preserved c =
    let a = c.args in
    let l = c.loop-b in
    let X = out a.piles.now.names.now a.p a.marks.now in
    let moves = c.moves_out.ensures in
    elim c.if-moves_out.branch [ then-moves_out v ↦ rw v.side-is (v.put.ensures.0, λ x. v.put.ensures.1 x ∙ rw (l.invariant.1 x) (side_next X l.b x (sym moves ∙ v.if-moves_out.true))) | else-moves_out v ↦ rw v.side-is (l.invariant.0, λ x. l.invariant.1 x ∙ side_skip X l.b x (sym moves ∙ v.if-moves_out.false)) ]

pub returns : goal.returns
unfolding pile
returns c =
    let a = c.args in
    let l = c.loop-b in
    let done : l.b ≡ a.piles.now.bones = omega arith in
    λ x. (rw done at l.invariant.1) x ∙ rw and_assoc
