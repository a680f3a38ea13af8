-- `weighing::degrees::leave` meets its contract: it is the same which pile leaves which. Assumes nothing.
use Rattle.std.proofs.Common.{arith}
use Rattle.weighing.specs.Degrees.{lost}
use Rattle.weighing.proofs.Noting.{less_same}
use Rattle.weighing.proofs.degrees.leave.Goals as goal

pub returns-then-size : goal.returns-then-size
unfolding lost
returns-then-size c = λ notes. rw (← c.new-piles.ensures.0, ← c.new-piles.ensures.1) (less_same (λ b. omega arith) (c.leave_from.ensures notes))

pub returns-else-size : goal.returns-else-size
returns-else-size c = rw (← c.new-piles.ensures.0, ← c.new-piles.ensures.1) c.leave_from-else-size.ensures
