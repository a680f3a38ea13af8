-- The heap and the piles that are lent to the inner functions, with how many bones there are.
use Rattle.std.specs.Prelude.{ℕ}
use Rattle.meaning.specs.Count.{Bones}
use Rattle.meaning.specs.Heap.{Heap, pile}
use Rattle.weighing.specs.Side.{heap_of}
use Rattle.weighing.specs.declared.piles.Piles.{Piles}

abbrev pub heap : Piles → Heap
heap s = heap_of s.names.now

-- the bones of the pile named p
abbrev pub pile_in : Piles → ℕ → Bones
pile_in s p = pile s.bones (heap s) p
