-- `weighing::moved::moves_out` meets its contract: by whether the bone is of the pile. Assumes nothing.
use Rattle.std.proofs.Common.{arith}
use Rattle.std.proofs.lemmas.Bool.Decides.{nat_tests}
use Rattle.weighing.specs.Side.{heap_of}
use Rattle.weighing.specs.Lists.{marked}
use Rattle.weighing.proofs.moved.moves_out.Goals as goal

pub returns-then-from-p : goal.returns-then-from-p
unfolding heap_of marked
returns-then-from-p c = grind (arith, nat_tests)

pub returns-else-from-p : goal.returns-else-from-p
unfolding heap_of marked
returns-else-from-p c = grind (arith, nat_tests)
