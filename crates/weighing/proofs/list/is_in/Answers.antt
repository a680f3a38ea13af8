-- `weighing::list::is_in` meets its contract: the bone is below n.
-- Assumes nothing.
use Rattle.std.proofs.Common.{arith}
use Rattle.std.proofs.lemmas.Bool.Decides.{nat_tests}
use Rattle.meaning.specs.Heap.{pile}
use Rattle.weighing.specs.Side.{heap_of}
use Rattle.weighing.proofs.list.is_in.Goals as goal

pub returns : goal.returns
unfolding heap_of pile
returns c = grind (arith, nat_tests)
