-- `weighing::side::Weighed::across` meets its contract. Assumes nothing.
use Rattle.std.proofs.Common.{◌≡◌, ◌%◌, sym, ◌∙◌, ap₂, arith, eq-eqb, ne_eqb}
use Rattle.weighing.specs.Side.{heap_of}
use Rattle.links.specs.Table.{held}
use Rattle.weighing.proofs.Sides.{on_side}
use Rattle.weighing.proofs.side.Weighed.across.Goals as goal
use Rattle.weighing.proofs.side.Weighed.across.Goals.{else-self-j-via-then-self-j+else-not-in_side, else-self-j-via-else-self-j}

pub returns-then-not-in_side-clause-value : goal.returns-then-not-in_side-clause-value
unfolding heap_of
returns-then-not-in_side-clause-value c =
    let s = c.args.self.now in
    let off = sym (on_side s.side.now c.args.j (omega arith) c.in_side.ensures) ∙ c.if-not-in_side.true in
    let one : c.args.i % 128 ≡ c.args.i = omega arith in
    let two : c.args.j % 128 ≡ c.args.j = omega arith in
    simp (eq-eqb _ _ c.if-self-j.true, off) (c.tally_between.ensures.0 ∙ ap₂ (held s.table.now) one two)

pub returns-else-self-j-clause-value : goal.returns-else-self-j-clause-value
unfolding heap_of
returns-else-self-j-clause-value c =
    let s = c.args.self.now in
    elim c.else-self-j.branch [
      | else-self-j-via-then-self-j+else-not-in_side w ↦ simp (eq-eqb _ _ w.if-self-j.true, sym (on_side s.side.now c.args.j (omega arith) w.in_side.ensures) ∙ w.if-not-in_side.false)
      | else-self-j-via-else-self-j w ↦ simp (ne_eqb _ _ w.if-self-j.false)
    ]
