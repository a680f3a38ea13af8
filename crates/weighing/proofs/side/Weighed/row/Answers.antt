-- `weighing::side::Weighed::row` meets its contract. Assumes nothing.
use Rattle.std.proofs.Common.{sym, ◌∙◌, arith, eq-eqb, ne_eqb}
use Rattle.weighing.specs.Side.{heap_of}
use Rattle.weighing.specs.Piles.{heap}
use Rattle.weighing.specs.Weigh.{row_of}
use Rattle.weighing.proofs.Sides.{on_side, pile_below}
use Rattle.weighing.proofs.side.Weighed.row.Goals as goal
use Rattle.weighing.proofs.side.Weighed.row.Goals.{else-self-i-via-then-self-i+else-in_side, else-self-i-via-else-self-i}

pub returns-then-in_side-clause-value : goal.returns-then-in_side-clause-value
unfolding row_of heap_of
returns-then-in_side-clause-value c =
    let s = c.args.self.now in
    let there = pile_below s.piles.bones (heap s.piles) s.name c.args.i (omega arith) ∙ eq-eqb _ _ c.if-self-i.true in
    let on = sym (on_side s.side.now c.args.i (omega arith) c.in_side.ensures) ∙ c.if-in_side.true in
    simp (there, on) c.off_side.ensures.value

pub returns-else-self-i-clause-value : goal.returns-else-self-i-clause-value
unfolding row_of heap_of
returns-else-self-i-clause-value c =
    let s = c.args.self.now in
    let named = pile_below s.piles.bones (heap s.piles) s.name c.args.i (omega arith) in
    elim c.else-self-i.branch [
      | else-self-i-via-then-self-i+else-in_side w ↦ simp (named ∙ eq-eqb _ _ w.if-self-i.true, sym (on_side s.side.now c.args.i (omega arith) w.in_side.ensures) ∙ w.if-in_side.false)
      | else-self-i-via-else-self-i w ↦ simp (named ∙ ne_eqb _ _ w.if-self-i.false)
    ]
