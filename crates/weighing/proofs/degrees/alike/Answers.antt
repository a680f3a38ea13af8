-- `weighing::degrees::alike` meets its contract: a bone before another is another one.
-- Assumes nothing.
use Rattle.std.proofs.Common.{arith}
use Rattle.std.proofs.lemmas.Bool.Decides.{nat_tests}
use Rattle.weighing.specs.Side.{heap_of}
use Rattle.weighing.specs.Degrees.{mate, others}
use Rattle.weighing.proofs.degrees.alike.Goals as goal

pub returns : goal.returns
unfolding heap_of mate others
returns c = grind (arith, nat_tests)
