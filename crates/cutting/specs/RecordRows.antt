-- Rows 9 to 13 of the refusal table, which judge a record.
use Rattle.std.specs.Prelude.{ℕ, suc, ◌-◌, ◌/◌, ◌%◌, Bool, not, ◌&&◌, ◌||◌, List, [], ◌∷◌, ◌++◌, eqb, leb, ltb, length}
use Rattle.meaning.specs.declared.Row.TheVariants.{Record, Pile, Side, Weight, NotLight}
use Rattle.meaning.specs.Judge.{Judged, refuse}
use Rattle.meaning.specs.Count.{Bones, some}
use Rattle.meaning.specs.Tally.{Tally, weight}
use Rattle.meaning.specs.Heap.{Heap, start, pile, stands, Cut, parted}
use Rattle.cutting.specs.Record.{entry_size, cuts_of}

-- 9: the given record, of so many bytes, is not whole entries, or over n − 1 of them
unfoldable pub record_row : ℕ → ℕ → Judged
record_row n bytes = refuse (not (eqb (bytes % entry_size) 0) || ltb (n - 1) (bytes / entry_size)) Record 0

-- 11: the side is empty, holds the pile's least bone, or holds a bone outside the pile; a side has 128 bits
unfoldable pub astray : ℕ → Heap → ℕ → Bones → Bool
astray n h name side =
    not (some 128 side) || (side name || some 128 (λ b. side b && not (pile n h name b)))

-- 10 to 13 at the entry in place i, in the heap that those before it leave
unfoldable pub entry_rows : ℕ → Tally → ℕ → Heap → ℕ → Cut → List Judged
entry_rows n w k h i c =
    refuse (not (stands n h c.name)) Pile i
    ∷ refuse (astray n h c.name c.side) Side i
    ∷ refuse (not (eqb c.weighs (weight n w (pile n h c.name) c.side))) Weight i
    ∷ refuse (leb k c.weighs) NotLight i
    ∷ []

unfoldable pub entries_rows : ℕ → Tally → ℕ → Heap → ℕ → List Cut → List Judged
entries_rows n w k h i [] = []
entries_rows n w k h i (c ∷ cs) = entry_rows n w k h i c ++ entries_rows n w k (parted n h c) (suc i) cs

-- 9 to 13 on a record
unfoldable pub record_rows : ℕ → Tally → ℕ → List ℕ → List Judged
record_rows n w k bytes = record_row n (length bytes) ∷ entries_rows n w k start 0 (cuts_of bytes)
