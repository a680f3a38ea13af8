-- Names as bytes.
use Rattle.std.specs.Prelude.{ℕ, zero, suc, cond, ◌&&◌, List, [], ◌∷◌, ◌++◌, leb, ltb}
use Rattle.meaning.specs.Count.{Bones}
use Rattle.meaning.specs.Heap.{Heap}

-- the names of bones 0 to n − 1
unfoldable pub names : ℕ → Heap → List ℕ
names zero h = []
names (suc n) h = names n h ++ h n ∷ []

-- a heap once the bones of a set from one bone to before another have a new name
unfoldable pub renamed_in : ℕ → ℕ → Bones → ℕ → Heap → Heap
renamed_in from to X name h b = cond (leb from b && ltb b to && X b) name (h b)
