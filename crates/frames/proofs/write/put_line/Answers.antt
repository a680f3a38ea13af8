-- `write::put_line` meets its contract. Assumes nothing.
use Rattle.std.proofs.Common.{arith}
use Rattle.std.proofs.lemmas.Grind.{common_steps}
use Rattle.frames.specs.Placing.{placed, behind}
use Rattle.frames.proofs.Writes.{length-line}
use Rattle.frames.proofs.write.put_line.Goals as goal

pub returns-then-too_short : goal.returns-then-too_short
unfolding placed behind
returns-then-too_short c = record { next = grind (arith, common_steps, length-line); room_left = grind (arith, common_steps, length-line) }

pub returns : goal.returns
unfolding placed behind
returns c = record { next = grind (arith, common_steps, length-line); room_left = grind (arith, common_steps, length-line) }
