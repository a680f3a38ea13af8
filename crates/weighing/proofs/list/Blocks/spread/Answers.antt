-- `weighing::list::Blocks::spread` meets its contract: before the turn at j the marks are as it says of the bones before place j.
-- Assumes nothing.
use Rattle.std.proofs.Common.{arith}
use Rattle.weighing.proofs.Listing.{listed_low, once_less}
use Rattle.weighing.proofs.Rows.{before}
use Rattle.weighing.proofs.Moving.{spread_next}
use Rattle.weighing.proofs.list.Blocks.spread.Goals as goal

pub loop-j-init : goal.loop-j-init
loop-j-init c =
    (omega arith, c.requires.1.few, record { long = c.free-marks.ensures.0; led = λ b t. c.free-marks.ensures.1 b; same = λ j l h. absurd (omega arith) })

pub bounds-marks-from : goal.bounds-marks-from
bounds-marks-from c =
    let l = c.loop-j in
    omega (arith, c.from.ensures, listed_low (once_less c.requires.1.once l.invariant.1) _ (before c.requires.1 l.j l.invariant.0 c.loop-j-test.true))

pub bounds-marks-b : goal.bounds-marks-b
bounds-marks-b c = omega (arith, c.from-b.ensures, c.requires.1.once.low c.loop-j.j c.loop-j-test.true)

pub loop-j-preserved : goal.loop-j-preserved
loop-j-preserved c =
    let l = c.loop-j in (
      omega arith,
      omega arith,
      spread_next l.j _ _ c.requires.1.once (before c.requires.1) l.invariant.0 c.loop-j-test.true c.from-b.ensures
          (rw c.from.ensures) l.invariant.2,
    )

pub returns : goal.returns
returns c =
    let so = c.loop-j.invariant.2 in
    record { long = so.long; led = so.led; same = λ j l h. so.same j l (omega arith) }
