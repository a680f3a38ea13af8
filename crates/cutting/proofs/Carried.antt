-- From a table to the links that fill it: what a core promises of the table's tally is what the call promises of the links'.
-- Assumes nothing.
use Prim.Native.Nat.{ℕ, ◌*◌, ◌-◌}
use mathlib.Core.Path.{◌≡◌, refl, sym, ◌∙◌, ap, ap₂, subst}
use mathlib.Core.Bool.{Bool, true, not}
use mathlib.Core.List.{List, ◌∷◌}
use native.Mathlib.Omega.{arith}
use lib.Dec.{T, eqb}
use lib.ListN.{length, take, drop, replicate, length-replicate}
use borrow.Author.Tests.{le-ltb, ne_eqb}
use Rattle.meaning.specs.declared.Link.{Link}
use Rattle.meaning.specs.declared.Refusal.{Refusal}
use Rattle.std.proofs.Common.{Result, Ok, Err}
use Rattle.meaning.specs.Judge.{Judged, Accepted, answered, refuse, first}
use Rattle.meaning.specs.Tally.{Tally, pair_tally}
use Rattle.meaning.specs.Firm.{groups}
use Rattle.meaning.specs.Heap.{Heap, start, LawfulRun, left, piles, finished}
use Rattle.meaning.proofs.Totals.{total_same}
use Rattle.links.specs.Links.{count_rows, table_rows}
use Rattle.links.specs.Table.{held, filled}
use Rattle.links.proofs.LinksBytes.{Short}
use Rattle.links.proofs.LinksRows.{Counted, table_counted, table_proper, first_accepted, first-refused}
use Rattle.links.proofs.TableHeld.{table_holds}
use Rattle.weighing.specs.Search.{Small}
use Rattle.cutting.specs.declared.Answer.{Answer}
use Rattle.cutting.specs.Record.{entry_size, cuts_of}
use Rattle.cutting.specs.RecordRows.{record_row, record_rows}
use Rattle.cutting.specs.Rows.{label_row, space_row, checking_rows, grouping_rows}
use Rattle.meaning.specs.Room.{over, settled}
use Rattle.cutting.specs.Names.{names}
use Rattle.cutting.specs.Runs.{answer_of, Checked, Continued, Recorded, Grouped}
use Rattle.cutting.proofs.Small.{links_total, length-tallied}
use Rattle.cutting.proofs.Alike.{Alike, label_alike, groups_alike, finished_alike, entries_alike, run_alike}

module _ (n : ℕ) (v w : Tally) (alike : Alike n v w) (k : ℕ) where
  pub rows_alike : (bytes : List ℕ) → record_rows n v k bytes ≡ record_rows n w k bytes
  unfolding record_rows
  rows_alike bytes = ap (λ (js : List Judged). record_row n (length bytes) ∷ js) (entries_alike n v w alike k (cuts_of bytes) start 0)

  pub checked_alike : (rows rows' : List Judged) (bytes labels labels' : List ℕ) (r : Result Answer Refusal) → first rows ≡ first rows' → Checked rows n v k bytes labels labels' r → Checked rows' n w k bytes labels labels' r
  checked_alike rows rows' bytes labels labels' r e c =
      record {
        answer = c.answer ∙ ap₂ (λ (j : Judged) (t : Bool). answered j (answer_of (piles n (left n start (cuts_of bytes))) t)) e (finished_alike n v w alike k (left n start (cuts_of bytes)));
        names_after = c.names_after ∙ ap (λ (j : Judged). settled j labels (over labels 0 (names n (left n start (cuts_of bytes))))) e;
      }

  continued_alike : (bytes space space' : List ℕ) → Continued n v k bytes space space' → Continued n w k bytes space space'
  continued_alike bytes space space' c =
      let g = groups_alike n v w alike k in
      record {
        given = c.given;
        rest = subst (λ (m : ℕ). drop (entry_size * (m - 1)) space' ≡ drop (entry_size * (m - 1)) space) g c.rest;
        lawful = subst (λ (m : ℕ). LawfulRun n w k start (cuts_of (take (entry_size * (m - 1)) space'))) g (run_alike n v w alike k (cuts_of (take (entry_size * (groups n v k - 1)) space')) start c.lawful);
        done = subst (λ (m : ℕ). T (finished n w k (left n start (cuts_of (take (entry_size * (m - 1)) space'))))) g (subst T (finished_alike n v w alike k (left n start (cuts_of (take (entry_size * (groups n v k - 1)) space')))) c.done);
      }

  recorded_alike : (j : Judged) (bytes space space' : List ℕ) → Recorded j n v k bytes space space' → Recorded j n w k bytes space space'
  unfolding Recorded
  recorded_alike (Ok done) bytes space space' c = continued_alike bytes space space' c
  recorded_alike (Err refusal) bytes space space' c = c

  pub grouped_alike : (rows rows' : List Judged) (bytes labels labels' space space' : List ℕ) (r : Result Answer Refusal) → first rows ≡ first rows' → Grouped rows n v k bytes labels labels' space space' r → Grouped rows' n w k bytes labels labels' space space' r
  grouped_alike rows rows' bytes labels labels' space space' r e c =
      record {
        answer = c.answer ∙ ap₂ (λ (j : Judged) (m : ℕ). answered j (answer_of m true)) e (groups_alike n v w alike k);
        labels_left = c.labels_left ∙ ap₂ (λ (j : Judged) (h : Heap). settled j labels (over labels 0 (names n h))) e (label_alike n v w alike k);
        record_left = subst (λ (j : Judged). Recorded j n w k bytes space space') e (recorded_alike (first rows) bytes space space' c.record_left);
      }

-- ---- a table that was filled from nought

-- where the links are accepted, so are the counts: above the table rows 1 and 2 pass once more
pub counts_pass : (n k : ℕ) (good : Bool) (links : List Link) → first (table_rows n k good links) ≡ Accepted → first (count_rows n k true 0) ≡ Accepted
unfolding count_rows refuse first
counts_pass n k good links e =
    let c = table_counted n k good links e in
    simp
    (ne_eqb n 0 (omega (arith, c.some_bones)), le-ltb 128 n c.few_bones, ne_eqb k 0 (omega (arith, c.some_threshold)), le-ltb 65535 k c.low_threshold)

module _ (n k : ℕ) (good : Bool) (links : List Link) (r : Judged) (judged : r ≡ first (table_rows n k good links)) (accepted : r ≡ Accepted) where
  pub filled_counted : Counted n k good (length links)
  filled_counted = table_counted n k good links (sym judged ∙ accepted)

  pub filled_alike : (t : List ℕ) → t ≡ filled r (replicate 16384 0) links → Short links → Alike n (held t) (pair_tally links)
  unfolding filled
  filled_alike t e short i j hi hj =
      ap (λ (x : List ℕ). held x i j) (e ∙ ap (λ (x : Judged). filled x (replicate 16384 0) links) accepted)
      ∙ table_holds n k good links (sym judged ∙ accepted) short i j hi hj

  pub filled_small : (t : List ℕ) → t ≡ filled r (replicate 16384 0) links → Short links → Small n t
  unfolding filled
  filled_small t e short =
      record {
        long = ap length (e ∙ ap (λ (x : Judged). filled x (replicate 16384 0) links) accepted) ∙ length-tallied links (replicate 16384 0) ∙ length-replicate {A = ℕ} 16384 0;
        sums = omega (
          arith,
          total_same n (held t) (pair_tally links) (λ i j. not (eqb i j)) (λ i j. not (eqb i j)) (filled_alike t e short) (λ i j hi hj. refl),
          links_total n links (λ i j. not (eqb i j)) (table_proper n k good links (sym judged ∙ accepted)) short,
          filled_counted.few_links,
        );
      }

-- ---- the rows of a call: those of the links, and then those of a core

module _ (n k : ℕ) (good : Bool) (links : List Link) (bytes : List ℕ) (label_room : ℕ) where
  pub checking_core : (v : Tally) → Alike n v (pair_tally links) → first (table_rows n k good links) ≡ Accepted
      → first (label_row n label_room ∷ record_rows n v k bytes) ≡ first (checking_rows n k good links bytes label_room)
  unfolding checking_rows
  checking_core v alike accepted =
      ap (λ (js : List Judged). first (label_row n label_room ∷ js)) (rows_alike n v (pair_tally links) alike k bytes)
      ∙ sym (first_accepted (table_rows n k good links) (label_row n label_room ∷ record_rows n (pair_tally links) k bytes) accepted)

  pub checking_stop : (refusal : Refusal) → first (table_rows n k good links) ≡ Err refusal → first (checking_rows n k good links bytes label_room) ≡ Err refusal
  unfolding checking_rows
  checking_stop refusal e =
      first-refused (table_rows n k good links) (label_row n label_room ∷ record_rows n (pair_tally links) k bytes) refusal e

  module _ (record_room : ℕ) where
    pub grouping_core : (v : Tally) → Alike n v (pair_tally links) → first (table_rows n k good links) ≡ Accepted
        → first (label_row n label_room ∷ space_row n record_room ∷ record_rows n v k bytes) ≡ first (grouping_rows n k good links bytes label_room record_room)
    unfolding grouping_rows
    grouping_core v alike accepted =
        ap (λ (js : List Judged). first (label_row n label_room ∷ space_row n record_room ∷ js)) (rows_alike n v (pair_tally links) alike k bytes)
        ∙ sym (first_accepted (table_rows n k good links) (label_row n label_room ∷ space_row n record_room ∷ record_rows n (pair_tally links) k bytes) accepted)

    pub grouping_stop : (refusal : Refusal) → first (table_rows n k good links) ≡ Err refusal → first (grouping_rows n k good links bytes label_room record_room) ≡ Err refusal
    unfolding grouping_rows
    grouping_stop refusal e =
        first-refused (table_rows n k good links) (label_row n label_room ∷ space_row n record_room ∷ record_rows n (pair_tally links) k bytes) refusal e
