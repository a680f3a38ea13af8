-- What the calls' inner functions promise above a filled table: what was tried of the counts and the links stands before the rows of the room and the record.
use Rattle.std.specs.Prelude.{ℕ, ◌<◌, ◌≡◌, List, ◌∷◌, ◌++◌, Result, length}
use Rattle.meaning.specs.declared.Refusal.{Refusal}
use Rattle.meaning.specs.Judge.{Judged}
use Rattle.meaning.specs.Firm.{label}
use Rattle.links.specs.Table.{held}
use Rattle.weighing.specs.Side.{heap_of}
use Rattle.cutting.specs.declared.Answer.{Answer}
use Rattle.cutting.specs.RecordRows.{record_rows}
use Rattle.cutting.specs.Rows.{label_row, space_row}
use Rattle.cutting.specs.Runs.{Checked, Grouped}

-- checking tries 7 and 9 to 13
abbrev pub CheckedAbove : List Judged → ℕ → List ℕ → ℕ → List ℕ → List ℕ → List ℕ → Result Answer Refusal → Type 0
CheckedAbove tried n table k bytes labels labels' r =
    Checked (tried ++ label_row n (length labels) ∷ record_rows n (held table) k bytes) n (held table) k bytes labels labels' r

-- grouping 7 to 13
abbrev pub GroupedAbove : List Judged → ℕ → List ℕ → ℕ → List ℕ → List ℕ → List ℕ → List ℕ → List ℕ → Result Answer Refusal → Type 0
GroupedAbove tried n table k bytes labels labels' space space' r =
    Grouped (tried ++ label_row n (length labels) ∷ space_row n (length space) ∷ record_rows n (held table) k bytes) n (held table) k bytes labels labels' space space' r

-- the names of the bones are their labels
abbrev pub LabelsOf : ℕ → List ℕ → ℕ → List ℕ → Type 0
LabelsOf n table k names = (b : ℕ) → b < n → heap_of names b ≡ label n (held table) k b
