-- The result writer above checking: the names that it leaves, and the rows that it tried.
-- Assumes nothing.
use Rattle.std.proofs.Common.{◌≡◌, ℕ, true, List, ◌++◌, length, get_or, Err, sym, ap, ◌∙◌, arith, le-ltb, [], ◌∷◌, ap₂}
use Rattle.meaning.specs.declared.Link.{Link}
use Rattle.meaning.specs.declared.Refusal.{Refusal}
use Rattle.meaning.specs.Judge.{Judged, Accepted, refuse, first}
use Rattle.meaning.proofs.Judge.{first_last}
use Rattle.meaning.specs.Room.{over, settled}
use Rattle.meaning.proofs.Room.{settled_new, over_front}
use Rattle.meaning.specs.Tally.{pair_tally}
use Rattle.links.specs.Links.{table_rows}
use Rattle.links.proofs.LinksRows.{table_counted, accepted_left, accepted_right, first_accepted, first-refused}
use Rattle.weighing.specs.Side.{heap_of}
use Rattle.cutting.specs.Names.{names}
use Rattle.cutting.proofs.Names.{names_at}
use Rattle.cutting.specs.RecordRows.{record_rows}
use Rattle.cutting.specs.Rows.{label_row, checking_rows}
use Rattle.cutting.specs.Runs.{names_left}
use Rattle.cutting.proofs.Continuing.{record_sound}
use Rattle.texts.specs.Writing.{text_row}
use Rattle.texts.specs.Writers.{result_text, result_rows}
use Rattle.texts.specs.ResultSteps.{Named}
use Rattle.texts.proofs.Rows.{first_without, first_both}
use Rattle.std.specs.Result.{result_and}

-- the result writer's rows: 1 to 6, 9 to 13, and 20
pub result_rows_lem : (n k : ℕ) (links : List Link) (bytes : List ℕ) (room : ℕ)
    → first (result_rows n k links bytes room)
    ≡ result_and (result_and (first (table_rows n k true links)) (first (record_rows n (pair_tally links) k bytes))) (text_row (result_text n k bytes) room)
unfolding result_rows
result_rows_lem n k links bytes room =
    let last : Judged = text_row (result_text n k bytes) room in
    first_both (table_rows n k true links ++ record_rows n (pair_tally links) k bytes) (last ∷ [])
    ∙ ap₂ (λ (i j : Judged). result_and i j) (first_both (table_rows n k true links) (record_rows n (pair_tally links) k bytes)) (first_last last)

module _ (n k : ℕ) (links : List Link) (bytes labels : List ℕ) (long : length labels ≡ 128) where
  abbrev judged : Judged
  judged = first (checking_rows n k true links bytes (length labels))

  -- there is a label for every bone, so that row 7 never refuses
  rows_are : judged ≡ first (table_rows n k true links ++ record_rows n (pair_tally links) k bytes)
  unfolding checking_rows label_row refuse
  rows_are =
      first_without (table_rows n k true links) (label_row n (length labels)) (record_rows n (pair_tally links) k bytes)
      (λ e. rw (le-ltb (length labels) n (omega (arith, long, (table_counted n k true links e).few_bones))))

  -- where checking refuses, so does the result writer; otherwise row 20 is left
  pub result_refused : (room : ℕ) (refusal : Refusal) → judged ≡ Err refusal → first (result_rows n k links bytes room) ≡ Err refusal
  unfolding result_rows
  result_refused room refusal e =
      first-refused (table_rows n k true links ++ record_rows n (pair_tally links) k bytes) _ refusal (sym rows_are ∙ e)

  module _ (accepted : judged ≡ Accepted) where
    pub result_left : (room : ℕ) → first (result_rows n k links bytes room) ≡ text_row (result_text n k bytes) room
    unfolding result_rows
    result_left room =
        first_accepted (table_rows n k true links ++ record_rows n (pair_tally links) k bytes) _ (sym rows_are ∙ accepted) ∙ first_last _

    pub result_named : (labels' : List ℕ) → labels' ≡ settled judged labels (over labels 0 (names n (names_left n bytes))) → Named n k bytes labels'
    unfolding heap_of
    result_named labels' e =
        let rows = sym rows_are ∙ accepted in
        let counted = table_counted n k true links (accepted_left (table_rows n k true links) _ rows) in
        let sound = record_sound n (pair_tally links) k bytes (accepted_right (table_rows n k true links) _ rows) in
        record {
          bones = counted.few_bones;
          threshold = omega (arith, counted.low_threshold);
          cuts = omega (arith, sound.few, counted.few_bones);
          names_of = λ b l. ap (λ (x : List ℕ). get_or x b 0) (e ∙ settled_new labels _ accepted ∙ over_front labels (names n (names_left n bytes)))
              ∙ names_at n (names_left n bytes) _ b l;
        }
