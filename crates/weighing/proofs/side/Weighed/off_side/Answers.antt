-- `weighing::side::Weighed::off_side` meets its contract. The invariant: the total is the sum over the bones below j, each at most 2 ^ 32. Assumes nothing.
use Rattle.weighing.proofs.Sides.{off_side_none, off_side_next}
use Rattle.std.proofs.Common.{◌≡◌, ◌+◌, sym, ◌∙◌, ap₂, zero-le, arith}
use Rattle.links.specs.Table.{held}
use Rattle.weighing.specs.Side.{side_of}
use Rattle.weighing.specs.Piles.{heap}
use Rattle.weighing.proofs.side.Weighed.off_side.Goals as goal

pub loop-j-init : goal.loop-j-init
loop-j-init c = (sym (off_side_none _ _ _ _), zero-le)

pub overflow_add-total : goal.overflow_add-total
overflow_add-total c = omega (arith, c.across-total.ensures.upper_bound)

pub loop-j-preserved : goal.loop-j-preserved
loop-j-preserved c =
    let s = c.args.self.now in
    let l = c.loop-j in (
      ap₂ ◌+◌ l.invariant.0 c.across-total.ensures.value
          ∙ sym (off_side_next s.piles.bones (held s.table.now) (heap s.piles) s.name (side_of s.side.now) c.args.i l.j (omega arith)),
      omega (arith, c.across-total.ensures.upper_bound),
    )

pub returns : goal.returns
returns c =
    let l = c.loop-j in
    let all : l.j ≡ c.args.self.now.piles.bones = omega arith in record {
      value = rw all at l.invariant.0;
      upper_bound = omega arith;
    }
