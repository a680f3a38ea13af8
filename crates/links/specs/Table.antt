-- The pair table: 128 by 128 tallies in one flat run. A pair's tally stands once, in the row of its greater bone, so that every table
-- holds a symmetric tally.
use Rattle.std.specs.Prelude.{ℕ, ◌+◌, ◌-◌, ◌*◌, ◌%◌, ◌^◌, min, max, List, [], ◌∷◌, take, slice_index, slice_set, Ok, Err}
use Rattle.meaning.specs.declared.Link.{Link}
use Rattle.meaning.specs.Judge.{Judged}
use Rattle.meaning.specs.Tally.{Tally}

-- where the tally of a pair stands
unfoldable pub spot : ℕ → ℕ → ℕ
spot i j = max i j * 128 + min i j

-- the tally that a table holds
unfoldable pub held : List ℕ → Tally
held t i j = slice_index t (spot i j)

-- the table after x was added to a pair's tally, and after it was taken away, the carry of 32 bits thrown away
unfoldable pub raised : List ℕ → ℕ → ℕ → ℕ → List ℕ
raised t i j x = slice_set t (spot i j) ((slice_index t (spot i j) + x) % 2 ^ 32)

unfoldable pub lowered : List ℕ → ℕ → ℕ → ℕ → List ℕ
lowered t i j x = raised t i j (2 ^ 32 - x)

-- the table after one link was added to it, and after a run of links
unfoldable pub added : List ℕ → Link → List ℕ
added t l = raised t l.a l.b l.tally

unfoldable pub tallied : List ℕ → List Link → List ℕ
tallied t [] = t
tallied t (l ∷ ls) = tallied (added t l) ls

-- the table that a call leaves which was to add a run of links: all are added, or those before the one that was refused
unfoldable pub filled : Judged → List ℕ → List Link → List ℕ
filled (Ok done) t links = tallied t links
filled (Err refusal) t links = tallied t (take refusal.place links)
