-- `write::put_byte` meets its contract. Assumes nothing.
use Rattle.std.proofs.Common.{arith}
use Rattle.std.proofs.lemmas.Grind.{common_steps}
use Rattle.frames.specs.Frame.{hex}
use Rattle.frames.proofs.Writes.{over-two}
use Rattle.frames.proofs.write.put_byte.Goals as goal

pub returns : goal.returns
unfolding hex
returns c = grind (arith, common_steps, over-two)
