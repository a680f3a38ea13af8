-- `weighing::degrees::is_other` meets its contract: by the two tests.
-- Assumes nothing.
use Rattle.std.proofs.Common.{arith}
use Rattle.std.proofs.lemmas.Bool.Decides.{nat_tests}
use Rattle.weighing.specs.Side.{heap_of}
use Rattle.weighing.specs.Degrees.{others}
use Rattle.weighing.proofs.degrees.is_other.Goals as goal

pub returns-then-c-b : goal.returns-then-c-b
unfolding heap_of others
returns-then-c-b c = grind (arith, nat_tests)

pub returns-else-c-b : goal.returns-else-c-b
unfolding heap_of others
returns-else-c-b c = grind (arith, nat_tests)
