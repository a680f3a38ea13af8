-- What checking and grouping promise of any tally and any rows tried: the answer, and every lent byte afterwards.
use Rattle.std.specs.Prelude.{ℕ, ◌+◌, ◌*◌, ◌-◌, ◌/◌, ◌%◌, ◌≤◌, ◌≡◌, Bool, true, List, ◌∷◌, ◌++◌, Result, Ok, Err, T, length, take, drop}
use Rattle.meaning.specs.declared.Refusal.{Refusal}
use Rattle.meaning.specs.Judge.{Judged, answered, first}
use Rattle.meaning.specs.Room.{over, settled}
use Rattle.meaning.specs.Tally.{Tally}
use Rattle.meaning.specs.Firm.{label, groups}
use Rattle.meaning.specs.Heap.{Heap, start, piles, Cut, Lawful, LawfulRun, left, finished}
use Rattle.cutting.specs.declared.Answer.{Answer}
use Rattle.cutting.specs.Record.{entry_size, cuts_of}
use Rattle.cutting.specs.RecordRows.{entry_rows}
use Rattle.cutting.specs.Names.{names}

-- an answer: a number of groups or piles, and whether the run is finished
abbrev pub answer_of : ℕ → Bool → Answer
answer_of count finished = record { count = count; finished = finished }

-- the pile names that a record's cuts leave
abbrev pub names_left : ℕ → List ℕ → Heap
names_left n bytes = left n start (cuts_of bytes)

-- a record that may be handed on: whole entries, n − 1 at most, that are a lawful run
pub record Sound (n : ℕ) (w : Tally) (k : ℕ) (bytes : List ℕ) : Type 0 where
  pub whole : length bytes % entry_size ≡ 0
  pub few : length bytes / entry_size ≤ n - 1
  pub run : LawfulRun n w k start (cuts_of bytes)

-- cuts that are refused, the first of them in place i: a lawful run up to the one in the refusal's place, which is not lawful
pub record Stopped (n : ℕ) (w : Tally) (k : ℕ) (h : Heap) (i : ℕ) (cs : List Cut) (refusal : Refusal) : Type 0 where
  pub before : List Cut
  pub at : Cut
  pub after : List Cut
  pub whole : cs ≡ before ++ at ∷ after
  pub run : LawfulRun n w k h before
  pub wrong : Lawful n w k (left n h before) at → ⊥
  pub row : first (entry_rows n w k (left n h before) refusal.place at) ≡ Err refusal
  pub here : refusal.place ≡ i + length before

-- checking: the piles that the record leaves. `rows` is what is tried, and w the tally that the links make
pub record Checked (rows : List Judged) (n : ℕ) (w : Tally) (k : ℕ) (bytes labels labels' : List ℕ) (r : Result Answer Refusal) : Type 0 where
  pub answer : r ≡ answered (first rows) (answer_of (piles n (names_left n bytes)) (finished n w k (names_left n bytes)))
  pub names_after : labels' ≡ settled (first rows) labels (over labels 0 (names n (names_left n bytes)))

-- grouping's record: the given entries, then its own, a lawful run and finished; the rest stays
pub record Continued (n : ℕ) (w : Tally) (k : ℕ) (bytes space space' : List ℕ) : Type 0 where
  pub given : take (length bytes) space' ≡ bytes
  pub rest : drop (entry_size * (groups n w k - 1)) space' ≡ drop (entry_size * (groups n w k - 1)) space
  pub lawful : LawfulRun n w k start (cuts_of (take (entry_size * (groups n w k - 1)) space'))
  pub done : T (finished n w k (left n start (cuts_of (take (entry_size * (groups n w k - 1)) space'))))

unfoldable pub Recorded : Judged → ℕ → Tally → ℕ → List ℕ → List ℕ → List ℕ → Type 0
Recorded (Ok done) n w k bytes space space' = Continued n w k bytes space space'
Recorded (Err refusal) n w k bytes space space' = space' ≡ space

-- grouping: the groups, their labels, and the record
pub record Grouped (rows : List Judged) (n : ℕ) (w : Tally) (k : ℕ) (bytes labels labels' space space' : List ℕ) (r : Result Answer Refusal) : Type 0 where
  pub answer : r ≡ answered (first rows) (answer_of (groups n w k) true)
  pub labels_left : labels' ≡ settled (first rows) labels (over labels 0 (names n (label n w k)))
  pub record_left : Recorded (first rows) n w k bytes space space'
