-- `cutting::judging::Judging::stands` meets its contract. Assumes nothing.
use Rattle.std.proofs.Common.{arith}
use Rattle.std.proofs.lemmas.Bool.Decides.{nat_tests}
use Rattle.meaning.specs.Heap.{stands, pile}
use Rattle.weighing.specs.Side.{heap_of}
use Rattle.cutting.proofs.judging.Judging.stands.Goals as goal

pub returns-then-b-self : goal.returns-then-b-self
unfolding stands pile heap_of
returns-then-b-self c = grind (arith, nat_tests)

pub returns-else-b-self : goal.returns-else-b-self
unfolding stands pile heap_of
returns-else-b-self c = grind (arith, nat_tests)
