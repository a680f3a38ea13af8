-- Heaps and sides as bytes: a pile name for each bone, and a bit for each bone.
use Rattle.std.specs.Prelude.{ℕ, ◌/◌, ◌%◌, ◌^◌, List, ◌==◌, slice_index}
use Rattle.meaning.specs.Count.{Bones}
use Rattle.meaning.specs.Heap.{Heap}

-- the heap that a run of names means
unfoldable pub heap_of : List ℕ → Heap
heap_of names b = slice_index names b

-- the side that a run of bytes means: bone b stands in byte b div 8, as the bit worth 2 to the power b mod 8
unfoldable pub side_of : List ℕ → Bones
side_of bytes b = slice_index bytes (b / 8) / 2 ^ (b % 8) % 2 == 1
