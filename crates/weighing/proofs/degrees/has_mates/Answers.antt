-- `weighing::degrees::has_mates` meets its contract: by the three tests on the way.
-- Assumes nothing.
use Rattle.std.proofs.Common.{arith}
use Rattle.std.proofs.lemmas.Bool.Decides.{nat_tests}
use Rattle.meaning.specs.Heap.{pile, stands}
use Rattle.weighing.specs.Side.{heap_of}
use Rattle.weighing.specs.Degrees.{joined}
use Rattle.weighing.proofs.degrees.has_mates.Goals as goal
use Rattle.weighing.proofs.degrees.has_mates.Goals.{then-p-piles, else-p-piles}

pub returns-then-piles-u : goal.returns-then-piles-u
unfolding heap_of joined stands pile
returns-then-piles-u c = grind (arith, nat_tests)

pub returns-then-from-p : goal.returns-then-from-p
unfolding heap_of joined stands pile
returns-then-from-p c = elim c.if-p-piles.branch [ then-p-piles w ↦ grind (arith, nat_tests) | else-p-piles w ↦ grind (arith, nat_tests) ]

pub returns-else-from-p : goal.returns-else-from-p
unfolding heap_of joined stands pile
returns-else-from-p c = elim c.if-p-piles.branch [ then-p-piles w ↦ grind (arith, nat_tests) | else-p-piles w ↦ grind (arith, nat_tests) ]
