-- A call whose rows refuse gives that refusal, with its place, and leaves every lent byte as it was. Main cites these.
-- Assumes nothing.
use Rattle.std.proofs.Common.{ℕ, ◌<◌, ◌≡◌, refl, ◌∙◌, subst, Bool, List, [], ◌∷◌, ◌++◌, length, Result, Ok, Err, inl, inr}
use mathlib.Core.Logic.{◌⊎◌}
use Rattle.meaning.specs.declared.Link.{Link}
use Rattle.meaning.specs.declared.Refusal.{Refusal}
use Rattle.meaning.specs.Judge.{Judged, Accepted, first, number_of}
use Rattle.meaning.specs.Tally.{Tally, pair_tally, weight}
use Rattle.meaning.specs.Heap.{start, pile, Cut, LawfulRun, left}
use Rattle.meaning.proofs.Room.{settled_was}
use Rattle.meaning.proofs.Runs.{run_rest}
use Rattle.cutting.specs.declared.Answer.{Answer}
use Rattle.cutting.specs.Rows.{checking_rows, grouping_rows}
use Rattle.cutting.specs.Runs.{Recorded}
use Rattle.cutting.specs.Calls.{kept, Checking, Grouping, Thins}
use Rattle.texts.specs.declared.Reading.{Reading}
use Rattle.texts.specs.Lines.{lines_of}
use Rattle.texts.specs.Kinds.{refusal_line}
use Rattle.texts.specs.Reader.{links_in, entries_in, bones_in, threshold_in, reader_rows, Reads}
use Rattle.texts.specs.Writing.{Writes}
use Rattle.texts.specs.Inputs.{input_text}
use Rattle.texts.proofs.Rows.{answered_refused}
use Rattle.answering.specs.Prints.{program_rows, Printed, Answering}
use Rattle.answering.specs.ThinPrints.{thinned_text, thin_printed}

-- rows either accept or refuse, under a row of the table and with a place
pub accepts_or_refuses : (rows : List Judged) → (first rows ≡ Accepted) ⊎ ((refusal : Refusal) × (first rows ≡ Err refusal))
accepts_or_refuses rows = by_answer (first rows) refl
  where
    by_answer : (j : Judged) → first rows ≡ j → (first rows ≡ Accepted) ⊎ ((refusal : Refusal) × (first rows ≡ Err refusal))
    by_answer (Ok done) e = inl e
    by_answer (Err refusal) e = inr (refusal, e)

module _ (n k : ℕ) (good : Bool) (links : List Link) (bytes labels labels' : List ℕ) (r : Result Answer Refusal) (refusal : Refusal) where
  pub checking_refused : Checking n k good links bytes labels labels' r → first (checking_rows n k good links bytes (length labels)) ≡ Err refusal
      → (r ≡ Err refusal) × (labels' ≡ labels)
  checking_refused g e = (g.answer ∙ answered_refused _ e, g.names_after ∙ settled_was labels _ e)

  pub grouping_refused : (space space' : List ℕ) → Grouping n k good links bytes labels labels' space space' r → first (grouping_rows n k good links bytes (length labels) (length space)) ≡ Err refusal
      → (r ≡ Err refusal) × (labels' ≡ labels) × (space' ≡ space)
  unfolding Recorded
  grouping_refused space space' g e = (
    g.answer ∙ answered_refused _ e,
    g.labels_left ∙ settled_was labels _ e,
    subst (λ (j : Judged). Recorded j n (pair_tally links) k bytes space space') e g.record_left,
  )

pub thinning_refused : {A : Type 0} (form : List Link → List A) (rows : List Judged) (n : ℕ) (w : Tally) (k : ℕ) (links : List Link) (space space' : List A) (r : Result ℕ Refusal) (refusal : Refusal)
    → Thins form rows n w k links space space' r → first rows ≡ Err refusal → (r ≡ Err refusal) × (space' ≡ space)
thinning_refused form rows n w k links space space' r refusal g e = (g.answer ∙ answered_refused _ e, g.links_after ∙ settled_was space _ e)

pub reading_refused : (text : List ℕ) (links links' : List Link) (space space' : List ℕ) (r : Result Reading Refusal) (refusal : Refusal)
    → Reads text links links' space space' r → first (reader_rows text (length links) (length space)) ≡ Err refusal
    → (r ≡ Err refusal) × (links' ≡ links) × (space' ≡ space)
reading_refused text links links' space space' r refusal g e =
    (g.answer ∙ answered_refused _ e, g.links_after ∙ settled_was links _ e, g.record_left ∙ settled_was space _ e)

pub writing_refused : (rows : Judged) (text room room' : List ℕ) (r : Result ℕ Refusal) (refusal : Refusal) → Writes rows text room room' r → rows ≡ Err refusal
    → (r ≡ Err refusal) × (room' ≡ room)
writing_refused rows text room room' r refusal g e = (g.answer ∙ answered_refused _ e, g.text_left ∙ settled_was room _ e)

-- a cut of a lawful run states what its side weighs in the pile as it stands behind the cuts before it, and that is below k
module _ (n : ℕ) (w : Tally) (k : ℕ) where
  pub cut_shown : (cs : List Cut) (c : Cut) (ds : List Cut) → LawfulRun n w k start (cs ++ c ∷ ds)
      → (c.weighs ≡ weight n w (pile n (left n start cs) c.name) c.side) × (c.weighs < k)
  unfolding LawfulRun
  cut_shown cs c ds run = let lawful = (run_rest n w k cs (c ∷ ds) start run).0 in (lawful.true_weight, lawful.light)

-- the programs print the frame of the first refusal and nothing else
pub bones_refused : (input out out' : List ℕ) (r : Result ℕ Refusal) (a : Answering input out out' r) (refusal : Refusal) → first (program_rows input) ≡ Err refusal → a.text ≡ refusal_line (number_of refusal.row) refusal.place
unfolding Printed
bones_refused input out out' r a refusal e =
    subst (λ (j : Judged). Printed j (bones_in (lines_of input)) (threshold_in (lines_of input)) (links_in (lines_of input)) (entries_in (lines_of input)) a.text) e a.printed

pub thin_refused : (n k : ℕ) (links : List Link) (refusal : Refusal) → thin_printed (Err refusal) n k links ≡ refusal_line (number_of refusal.row) refusal.place
unfolding thin_printed
thin_refused n k links refusal = refl

pub thin_accepted : (n k : ℕ) (links : List Link) → thin_printed Accepted n k links ≡ input_text n k (kept n (pair_tally links) k links) []
unfolding thin_printed thinned_text
thin_accepted n k links = refl
