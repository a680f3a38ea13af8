use Rattle.std.proofs.Common.{length, ◌-◌, ◌≡◌, ◌≤◌}
use Rattle.shell.proofs.input.read_input.Given as goal

-- what was read stands in the room
abbrev pub invariant-loop-size : goal.invariant-loop-size
invariant-loop-size l = (l.size ≤ length l.room) × (length l.room ≡ length l.initial.room)

abbrev pub decreases-loop-size : goal.decreases-loop-size
decreases-loop-size l = length l.initial.room - l.size
