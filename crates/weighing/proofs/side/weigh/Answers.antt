-- `weighing::side::weigh` meets its contract. The invariant: the total is what the bones below i add, each at most 128 * 2 ^ 32. Assumes nothing.
use Rattle.std.proofs.Common.{◌≡◌, ◌+◌, sym, ◌∙◌, ap₂, zero-le, arith}
use Rattle.weighing.proofs.Sides.{rows_none, rows_next, weight_rows}
use Rattle.weighing.proofs.side.weigh.Goals as goal

pub loop-i-init : goal.loop-i-init
loop-i-init c = (sym (rows_none _ _ _ _), zero-le)

pub overflow_add-total : goal.overflow_add-total
overflow_add-total c = omega (arith, c.row-total.ensures.upper_bound)

pub loop-i-preserved : goal.loop-i-preserved
loop-i-preserved c =
    let l = c.loop-i in (
      ap₂ ◌+◌ l.invariant.0 c.row-total.ensures.value ∙ sym (rows_next l.i _ _ _ _),
      omega (arith, c.row-total.ensures.upper_bound),
    )

pub returns : goal.returns
returns c =
    let l = c.loop-i in
    let s = c.new in
    let all : l.i ≡ s.result.bones = omega arith in
    rw (← s.ensures.0, ← s.ensures.1) (rw all at l.invariant.0 ∙ sym (weight_rows s.result.bones _ _ _))
