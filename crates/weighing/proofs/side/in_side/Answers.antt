-- `weighing::side::in_side` meets its contract. Assumes nothing.
use Rattle.std.proofs.Common.{le-ltb, lt-ltb}
use Rattle.weighing.specs.Side.{side_of}
use Rattle.weighing.proofs.side.in_side.Goals as goal

pub returns-then-b-lt128 : goal.returns-then-b-lt128
unfolding side_of
returns-then-b-lt128 c = simp (lt-ltb _ _ c.if-b-lt128.true)

pub returns-else-b-lt128 : goal.returns-else-b-lt128
unfolding side_of
returns-else-b-lt128 c = simp (le-ltb _ _ c.if-b-lt128.false)
