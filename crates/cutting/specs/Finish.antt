-- What cutting to the end asks and gives: names and a record's first cuts that are one lawful run, and then a run that is finished.
use Rattle.std.specs.Prelude.{ℕ, ◌+◌, ◌*◌, ◌-◌, ◌≤◌, ◌<◌, ◌≡◌, List, T, length, take, drop}
use Rattle.meaning.specs.Tally.{Tally}
use Rattle.meaning.specs.Heap.{start, Lawful, LawfulRun, parted, left, finished}
use Rattle.weighing.specs.Side.{heap_of}
use Rattle.weighing.specs.declared.search.Split.{Split}
use Rattle.weighing.specs.Search.{FirmPiles, cut_of}
use Rattle.cutting.specs.Record.{entry_size, cuts_in}

-- the first cuts of the space are a lawful run that leaves the heap that the names mean; and there is room for all that may come
pub record Begun (n : ℕ) (w : Tally) (k : ℕ) (names space : List ℕ) (cuts : ℕ) : Type 0 where
  pub some_bones : 0 < n
  pub few_bones : n ≤ 128
  pub low_threshold : k ≤ 65535
  pub room : entry_size * (n - 1) ≤ length space
  pub run : LawfulRun n w k start (cuts_in cuts space)
  pub heap : heap_of names ≡ left n start (cuts_in cuts space)
  pub names_long : length names ≡ 128

-- the run goes on to cuts' cuts, and is finished; the given cuts and the space past the last one are as they were
pub record Ended (n : ℕ) (w : Tally) (k : ℕ) (space : List ℕ) (cuts : ℕ) (names' space' : List ℕ) (cuts' : ℕ) : Type 0 where
  pub more : cuts ≤ cuts'
  pub run : LawfulRun n w k start (cuts_in cuts' space')
  pub heap : heap_of names' ≡ left n start (cuts_in cuts' space')
  pub done : T (finished n w k (heap_of names'))
  pub front : take (cuts * entry_size) space' ≡ take (cuts * entry_size) space
  pub rest : drop (cuts' * entry_size) space' ≡ drop (cuts' * entry_size) space
  pub long : length space' ≡ length space

-- on the way, from cuts₀ cuts in space₀ to more of them: a lawful run so far, and the piles below `from` are firm
pub record Going (n : ℕ) (w : Tally) (k : ℕ) (space₀ : List ℕ) (cuts₀ : ℕ) (names space : List ℕ) (cuts from : ℕ) : Type 0 where
  pub some_bones : 0 < n
  pub room : entry_size * (n - 1) ≤ length space₀
  pub more : cuts₀ ≤ cuts
  pub run : LawfulRun n w k start (cuts_in cuts space)
  pub heap : heap_of names ≡ left n start (cuts_in cuts space)
  pub names_long : length names ≡ 128
  pub firm_below : FirmPiles n w k (heap_of names) 0 from
  pub front : take (cuts₀ * entry_size) space ≡ take (cuts₀ * entry_size) space₀
  pub rest : drop (cuts * entry_size) space ≡ drop (cuts * entry_size) space₀
  pub long : length space ≡ length space₀

-- one cut more: where it is lawful, the run goes on, with whatever piles are firm then
pub record Extended (n : ℕ) (names space : List ℕ) (cuts : ℕ) (split : Split) (names' space' : List ℕ) : Type 0 where
  pub on : (w : Tally) (k : ℕ) (space₀ : List ℕ) (cuts₀ from from' : ℕ) → Going n w k space₀ cuts₀ names space cuts from → Lawful n w k (heap_of names) (cut_of split)
      → FirmPiles n w k (parted n (heap_of names) (cut_of split)) 0 from' → Going n w k space₀ cuts₀ names' space' (cuts + 1) from'

-- up to m cuts more, each of which had room
pub record Peeled (n : ℕ) (w : Tally) (k : ℕ) (names space : List ℕ) (cuts : ℕ) (names' space' : List ℕ) (cuts' m : ℕ) : Type 0 where
  pub on : (space₀ : List ℕ) (cuts₀ from : ℕ) → Going n w k space₀ cuts₀ names space cuts from → Going n w k space₀ cuts₀ names' space' cuts' from
  pub more : cuts ≤ cuts'
  pub most : cuts' ≤ cuts + m
