-- What replaying a record on a heap gives: the first refusal of its rows; and where they accept, names that mean the heap that it leaves.
use Rattle.std.specs.Prelude.{ℕ, ◌≡◌, List, length}
use Rattle.meaning.specs.Judge.{Judged, Accepted, first}
use Rattle.meaning.specs.Tally.{Tally}
use Rattle.meaning.specs.Heap.{Heap, left}
use Rattle.weighing.specs.Side.{heap_of}
use Rattle.cutting.specs.Record.{cuts_of}
use Rattle.cutting.specs.RecordRows.{entries_rows}

pub record Replayed (rows : List Judged) (after : Heap) (names : List ℕ) (r : Judged) : Type 0 where
  pub judged : r ≡ first rows
  pub heap_left : r ≡ Accepted → heap_of names ≡ after
  pub long : length names ≡ 128

-- a record's cuts, on the heap that 128 names mean
abbrev pub ReplayedOn : ℕ → Tally → ℕ → List ℕ → List ℕ → List ℕ → Judged → Type 0
ReplayedOn n w k names bytes names' r =
    Replayed (entries_rows n w k (heap_of names) 0 (cuts_of bytes)) (left n (heap_of names) (cuts_of bytes)) names' r
