-- Of rows 7 and 8, which accept and which refuse; and from the first row that refuses, or from all that accept, to what is promised.
-- Assumes nothing.
use Prim.Native.Nat.{ℕ, ◌*◌, ◌-◌, ◌≤◌, ◌<◌}
use mathlib.Core.Path.{◌≡◌, refl, sym, ◌∙◌, ap, subst}
use mathlib.Core.Bool.{true}
use mathlib.Core.List.{List, ◌∷◌}
use native.Mathlib.Omega.{arith}
use lib.ListN.{length}
use borrow.Author.Tests.{lt-ltb, le-ltb}
use Rattle.meaning.specs.declared.Refusal.{Refusal}
use Rattle.meaning.specs.declared.Row.TheVariants.{LabelSpace, RecordSpace}
use Rattle.std.proofs.Common.{Result, Ok, Err}
use Rattle.std.specs.Prelude.{IsErrAnd}
use Rattle.std.proofs.lemmas.Result.{err_from_is_err_and}
use Rattle.meaning.specs.Judge.{Judged, Accepted, Refused, answered, refuse, first}
use Rattle.meaning.specs.Room.{over, fitted}
use Rattle.meaning.proofs.Room.{settled_new, settled_was, fitted_all}
use Rattle.meaning.specs.Tally.{Tally}
use Rattle.meaning.specs.Firm.{label, groups}
use Rattle.meaning.specs.Heap.{Heap, start, left, piles, finished}
use Rattle.cutting.specs.Record.{entry_size, cuts_of}
use Rattle.cutting.specs.Names.{names}
use Rattle.cutting.specs.declared.Answer.{Answer}
use Rattle.cutting.proofs.Names.{length-names}
use Rattle.cutting.specs.Rows.{label_row, space_row}
use Rattle.cutting.specs.Runs.{answer_of, Checked, Continued, Recorded, Grouped}

-- what `?` hands on is the refusal that it met
pub handed_on : {A : Type 0} (r : Result A Refusal) (refusal : Refusal) → IsErrAnd r (λ met. met ≡ refusal) → r ≡ Err refusal
handed_on r refusal h = let p = err_from_is_err_and r h in p.1 ∙ ap Err p.2

-- rows 7 and 8
module _ (n room : ℕ) (js : List Judged) where
  pub label_short : room < n → first (label_row n room ∷ js) ≡ Refused LabelSpace 0
  unfolding label_row refuse first
  label_short l = rw (lt-ltb room n l)

  pub label_fits : n ≤ room → first (label_row n room ∷ js) ≡ first js
  unfolding label_row refuse first
  label_fits l = rw (le-ltb room n l)

  pub space_short : room < entry_size * (n - 1) → first (space_row n room ∷ js) ≡ Refused RecordSpace 0
  unfolding space_row refuse first
  space_short l = rw (lt-ltb room (entry_size * (n - 1)) l)

  pub space_fits : entry_size * (n - 1) ≤ room → first (space_row n room ∷ js) ≡ first js
  unfolding space_row refuse first
  space_fits l = rw (le-ltb room (entry_size * (n - 1)) l)

-- ---- a refusal is the answer, and nothing is changed

module _ (rows : List Judged) (n : ℕ) (w : Tally) (k : ℕ) (bytes labels : List ℕ) {r : Result Answer Refusal} {refusal : Refusal} (q : r ≡ Err refusal) (e : first rows ≡ Err refusal) where
  pub checked_refused : Checked rows n w k bytes labels labels r
  unfolding answered
  checked_refused =
      record {
        answer = q ∙ ap (λ (j : Judged). answered j (answer_of (piles n (left n start (cuts_of bytes))) (finished n w k (left n start (cuts_of bytes))))) (sym e);
        names_after = sym (settled_was labels _ e);
      }

  pub grouped_refused : (space : List ℕ) → Grouped rows n w k bytes labels labels space space r
  unfolding answered Recorded
  grouped_refused space =
      record {
        answer = q ∙ ap (λ (j : Judged). answered j (answer_of (groups n w k) true)) (sym e);
        labels_left = sym (settled_was labels _ e);
        record_left = subst (λ (j : Judged). Recorded j n w k bytes space space) (sym e) refl;
      }

-- ---- accepted

module _ (rows : List Judged) (n : ℕ) (w : Tally) (k : ℕ) (bytes labels labels' : List ℕ) (e : first rows ≡ Accepted) where
  pub checked_accepted : (h : Heap) (r : Result Answer Refusal) → h ≡ left n start (cuts_of bytes) → r ≡ Ok (answer_of (piles n h) (finished n w k h)) → n ≤ length labels → labels' ≡ fitted labels 0 (names n h) → Checked rows n w k bytes labels labels' r
  unfolding answered
  checked_accepted h r p q f l =
      record {
        answer = q
            ∙ ap (λ (x : Heap). answered Accepted (answer_of (piles n x) (finished n w k x))) p
            ∙ ap (λ (j : Judged). answered j (answer_of (piles n (left n start (cuts_of bytes))) (finished n w k (left n start (cuts_of bytes))))) (sym e);
        names_after = l
            ∙ fitted_all labels 0 (names n h) (omega (arith, length-names n h))
            ∙ ap (λ (x : Heap). over labels 0 (names n x)) p
            ∙ sym (settled_new labels _ e);
      }

  pub grouped_accepted : (space space' : List ℕ) (r : Result Answer Refusal) → r ≡ Ok (answer_of (groups n w k) true) → n ≤ length labels → labels' ≡ fitted labels 0 (names n (label n w k)) → Continued n w k bytes space space' → Grouped rows n w k bytes labels labels' space space' r
  unfolding answered Recorded
  grouped_accepted space space' r q f l c =
      record {
        answer = q ∙ ap (λ (j : Judged). answered j (answer_of (groups n w k) true)) (sym e);
        labels_left = l ∙ fitted_all labels 0 (names n (label n w k)) (omega (arith, length-names n (label n w k))) ∙ sym (settled_new labels _ e);
        record_left = subst (λ (j : Judged). Recorded j n w k bytes space space') (sym e) c;
      }
