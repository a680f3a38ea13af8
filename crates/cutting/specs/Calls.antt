-- What the calls promise: the answer, and every lent byte afterwards.
use Rattle.std.specs.Prelude.{ℕ, ◌/◌, ◌≡◌, Bool, true, List, Result, length}
use Rattle.meaning.specs.declared.Link.{Link}
use Rattle.meaning.specs.declared.Refusal.{Refusal}
use Rattle.meaning.specs.Judge.{Judged, answered, first}
use Rattle.meaning.specs.Room.{over, settled}
use Rattle.meaning.specs.Tally.{Tally, pair_tally}
use Rattle.meaning.specs.Firm.{label}
use Rattle.cutting.specs.declared.Answer.{Answer}
use Rattle.cutting.specs.Runs.{Checked, Grouped}
use Rattle.links.specs.Links.{whole, links_of, link_bytes}
use Rattle.links.specs.Records.{kept_links}
use Rattle.cutting.specs.Names.{names}
use Rattle.cutting.specs.Rows.{checking_rows, grouping_rows, thinning_rows}

-- checking and grouping, of the tally that the links make
abbrev pub Checking : ℕ → ℕ → Bool → List Link → List ℕ → List ℕ → List ℕ → Result Answer Refusal → Type 0
Checking n k good links bytes labels labels' r =
    Checked (checking_rows n k good links bytes (length labels)) n (pair_tally links) k bytes labels labels' r

abbrev pub Grouping : ℕ → ℕ → Bool → List Link → List ℕ → List ℕ → List ℕ → List ℕ → List ℕ → Result Answer Refusal → Type 0
Grouping n k good links bytes labels labels' space space' r =
    Grouped (grouping_rows n k good links bytes (length labels) (length space)) n (pair_tally links) k bytes labels labels' space space' r

-- with links lent as bytes
abbrev pub CheckingBytes : ℕ → ℕ → List ℕ → List ℕ → List ℕ → List ℕ → Result Answer Refusal → Type 0
CheckingBytes n k links = Checking n k (whole links) (links_of links)

abbrev pub GroupingBytes : ℕ → ℕ → List ℕ → List ℕ → List ℕ → List ℕ → List ℕ → List ℕ → Result Answer Refusal → Type 0
GroupingBytes n k links = Grouping n k (whole links) (links_of links)

-- the links whose ends share a group, in order: they carry the same label
abbrev pub kept : ℕ → Tally → ℕ → List Link → List Link
kept n w k links = kept_links (names 128 (label n w k)) links

-- thinning: the links kept, at the front of the room in the form of its elements; the rest stays
pub record Thins {A : Type 0} (form : List Link → List A) (rows : List Judged) (n : ℕ) (w : Tally) (k : ℕ) (links : List Link) (space space' : List A) (r : Result ℕ Refusal) : Type 0 where
  pub answer : r ≡ answered (first rows) (length (kept n w k links))
  pub links_after : space' ≡ settled (first rows) space (over space 0 (form (kept n w k links)))

-- of a run in any form: `links_in` reads links out of a run, `are_whole` says that it is whole links, and `written` writes them. The room counts in whole links
abbrev pub ThinningIn : {A : Type 0} → (List A → List Link) → (List A → Bool) → (List Link → List A) → ℕ → ℕ → List A → List A → List A → Result ℕ Refusal → Type 0
ThinningIn links_in are_whole written n k links space space' r =
    Thins written (thinning_rows n k (are_whole links) (links_in links) (length (links_in space))) n (pair_tally (links_in links)) k (links_in links) space space' r

-- with links lent as bytes, and as records
abbrev pub Thinning : ℕ → ℕ → Bool → List Link → List ℕ → List ℕ → Result ℕ Refusal → Type 0
Thinning n k good links space space' r =
    Thins link_bytes (thinning_rows n k good links (length space / 4)) n (pair_tally links) k links space space' r

abbrev pub ThinningBytes : ℕ → ℕ → List ℕ → List ℕ → List ℕ → Result ℕ Refusal → Type 0
ThinningBytes n k links = Thinning n k (whole links) (links_of links)

abbrev pub ThinningRecords : ℕ → ℕ → List Link → List Link → List Link → Result ℕ Refusal → Type 0
ThinningRecords n k links space space' r =
    Thins (λ ls. ls) (thinning_rows n k true links (length space)) n (pair_tally links) k links space space' r
