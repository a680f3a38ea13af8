-- `cutting::judging::Judging::stray` meets its contract. Assumes nothing.
use Rattle.std.proofs.Common.{arith}
use Rattle.std.proofs.lemmas.Bool.Decides.{nat_tests}
use Rattle.meaning.specs.Heap.{pile}
use Rattle.weighing.specs.Side.{heap_of}
use Rattle.cutting.proofs.judging.Judging.stray.Goals as goal

pub returns-then-self-b : goal.returns-then-self-b
unfolding pile heap_of
returns-then-self-b c = grind (arith, nat_tests)

pub returns-else-self-b : goal.returns-else-self-b
unfolding pile heap_of
returns-else-self-b c = grind (arith, nat_tests)
