-- From grouping's promise to that of the program: the record that grouping left is finished, and its result text, or grouping's refusal, is what is printed.
-- Assumes nothing.
use Rattle.std.proofs.Common.{ℕ, ◌+◌, ◌*◌, ◌-◌, ◌/◌, ◌≤◌, ◌<◌, ◌≡◌, refl, sym, ◌∙◌, ap, ap₂, subst, arith, true, List, [], ◌∷◌, ◌++◌, length, take, length-append, take-take, T, eqb, Result, Ok, Err}
use Rattle.meaning.specs.declared.Link.{Link}
use Rattle.meaning.specs.declared.Refusal.{Refusal}
use Rattle.meaning.specs.Bytes.{Bytes}
use Rattle.meaning.specs.Judge.{Judged, Accepted, answered, first, number_of}
use Rattle.meaning.specs.Tally.{Tally, pair_tally}
use Rattle.meaning.specs.Firm.{label, groups}
use Rattle.meaning.specs.Heap.{Cut, start, LawfulRun, left, finished}
use Rattle.meaning.proofs.Bytes.{bytes_take}
use Rattle.meaning.proofs.Judge.{first_last}
use Rattle.meaning.proofs.Sums.{count_most}
use Rattle.meaning.proofs.Theorems.{links_symmetric, can_finish, cuts_and_groups}
use Rattle.links.specs.Links.{table_rows}
use Rattle.links.proofs.LinksRows.{table_counted, first_accepted, accepted_left, accepted_right}
use Rattle.cutting.specs.declared.Answer.{Answer}
use Rattle.cutting.specs.Record.{entry_size, cuts_of}
use Rattle.cutting.specs.RecordRows.{record_rows}
use Rattle.cutting.specs.Rows.{label_row, space_row, grouping_rows}
use Rattle.cutting.specs.Runs.{answer_of, Recorded, Continued, Sound}
use Rattle.cutting.specs.Calls.{Grouping}
use Rattle.cutting.proofs.Cuts.{length_cuts}
use Rattle.cutting.proofs.Continuing.{record_sound}
use Rattle.cutting.proofs.Demands.{own, own_sound}
use Rattle.cutting.proofs.Lawful.{record_fits, lawful_entries}
use Rattle.texts.specs.Kinds.{refusal_line}
use Rattle.texts.specs.Writing.{text_row, Writes, Refuses}
use Rattle.texts.specs.Writers.{result_text, result_rows, WritingResult}
use Rattle.texts.proofs.Rows.{told_accepted, told_refused}
use Rattle.answering.specs.Prints.{grouped_rows, Finishes, Printed, Answers}
use Rattle.answering.specs.Steps.{Framed}
use Rattle.answering.proofs.Fitting.{Fits, grouping_fits}

-- a lawful run has at most as many cuts as one fewer than groups
cuts_below : (n : ℕ) (k : ℕ) (links : List Link) (cs : List Cut) → 0 < n → LawfulRun n (pair_tally links) k start cs → length cs + 1 ≤ groups n (pair_tally links) k
cuts_below n k links cs some run =
    let more = can_finish n (pair_tally links) k some (links_symmetric links) cs run in
    omega (arith, cuts_and_groups n (pair_tally links) k some (cs ++ more.0) more.1 more.2, length-append cs more.0)

module _ (n k : ℕ) (links : List Link) (given : List ℕ) where
  abbrev w : Tally
  w = pair_tally links

  abbrev rows : List Judged
  rows = grouping_rows n k true links given 128 (entry_size * 127)

  -- the record that grouping leaves, of one cut fewer than groups
  abbrev left_in : List ℕ → List ℕ
  left_in space = take ((groups n w k - 1) * entry_size) space

  module _ (accepted : first rows ≡ Accepted) where
    judged : first (table_rows n k true links) ≡ Accepted
    unfolding grouping_rows
    judged = accepted_left (table_rows n k true links) _ accepted

    some_bones : 0 < n
    some_bones = (table_counted n k true links judged).some_bones

    few_bones : n ≤ 128
    few_bones = (table_counted n k true links judged).few_bones

    few_groups : (groups n w k - 1) * entry_size ≤ entry_size * 127
    unfolding groups
    few_groups = omega (arith, count_most n (λ b. eqb (label n w k b) b), few_bones)

    given_sound : Sound n w k given
    unfolding grouping_rows
    given_sound =
        record_sound n w k given
        (accepted_right (label_row n 128 ∷ space_row n (entry_size * 127) ∷ []) (record_rows n w k given) (accepted_right (table_rows n k true links) _ accepted))

    given_below : length given ≤ (groups n w k - 1) * entry_size
    unfolding cuts_of
    given_below =
        omega (arith, cuts_below n k links (cuts_of given) some_bones given_sound.run, length_cuts (length given / entry_size) given, given_sound.whole)

    module _ (space space' : List ℕ) (are_bytes : Bytes space') (c : Continued n w k given space space') where
      turn : entry_size * (groups n w k - 1) ≡ (groups n w k - 1) * entry_size
      turn = omega arith

      sound : Sound n w k (left_in space')
      unfolding own
      sound = subst (λ (m : ℕ). Sound n w k (take m space')) turn (own_sound n k true links judged given space space' c)

      finishes : Finishes n k links given (left_in space')
      finishes =
          record {
            are_bytes = λ i. omega (arith, bytes_take ((groups n w k - 1) * entry_size) space' are_bytes i);
            whole = sound.whole;
            kept = take-take (length given) ((groups n w k - 1) * entry_size) space' given_below ∙ c.given;
            lawful = sound.run;
            done = subst (λ (m : ℕ). T (finished n w k (left n start (cuts_of (take m space'))))) turn c.done;
          }

      -- the result writer accepts it
      only-room : (room : ℕ) → first (result_rows n k links (left_in space') room) ≡ text_row (result_text n k (left_in space')) room
      unfolding result_rows
      only-room room =
          first_accepted (table_rows n k true links ++ record_rows n w k (left_in space')) _
          (first_accepted (table_rows n k true links) _ judged ∙ record_fits n w k (left_in space') sound.whole sound.few ∙ lawful_entries n w k (cuts_of (left_in space')) start 0 few_bones sound.run)
          ∙ first_last _

  module _ {labels labels' space space' : List ℕ} {g : Result Answer Refusal} (many : length labels ≡ 128) (wide : length space ≡ entry_size * 127) (grouped : Grouping n k true links given labels labels' space space' g) where
    same : first (grouping_rows n k true links given (length labels) (length space)) ≡ first rows
    same = ap first (ap₂ (grouping_rows n k true links given) many wide)

    says : g ≡ answered (first rows) (answer_of (groups n w k) true)
    says = grouped.answer ∙ ap (λ (j : Judged). answered j (answer_of (groups n w k) true)) same

    module _ {refusal : Refusal} (e : g ≡ Err refusal) where
      refused : first rows ≡ Err refusal
      refused = told_refused (first rows) (answer_of (groups n w k) true) refusal (sym e ∙ says)

      pub grouping_framed : Framed refusal
      unfolding Fits
      grouping_framed = subst Fits refused (grouping_fits n k links given 128 (entry_size * 127))

      pub grouping_refused : {out out' : List ℕ} {r : Result ℕ Refusal} → Refuses (number_of refusal.row) refusal.place out out' r → Answers (first (grouped_rows n k links given)) n k links given out out' r
      unfolding grouped_rows Printed
      grouping_refused {out = out} {out' = out'} {r = r} a =
          subst (λ (j : Judged). Answers j n k links given out out' r) (sym refused)
          (record { text = refusal_line (number_of refusal.row) refusal.place; printed = refl; writes = a })

    module _ {answer : Answer} (e : g ≡ Ok answer) where
      told : (first rows ≡ Accepted) × (answer ≡ answer_of (groups n w k) true)
      told = told_accepted (first rows) (answer_of (groups n w k) true) answer (sym e ∙ says)

      counted : answer.count ≡ groups n w k
      counted = ap (λ (x : Answer). x.count) told.1

      pub record_held : (answer.count - 1) * entry_size ≤ length space
      record_held = omega (arith, few_groups told.0, counted, wide)

      pub grouping_answers : {out out' : List ℕ} {r : Result ℕ Refusal} → Bytes space' → WritingResult n k links (take ((answer.count - 1) * entry_size) space') out out' r
          → Answers (first (grouped_rows n k links given)) n k links given out out' r
      unfolding grouped_rows Printed Recorded
      grouping_answers {out = out} {out' = out'} {r = r} are_bytes a =
          let c : Continued n w k given space space' = subst (λ (j : Judged). Recorded j n w k given space space') (same ∙ told.0) grouped.record_left in
          subst (λ (j : Judged). Answers j n k links given out out' r) (sym told.0)
          (record {
            text = result_text n k (left_in space');
            printed = record { bytes = left_in space'; finishes = finishes told.0 space space' are_bytes c; result = refl };
            writes = subst (λ (j : Judged). Writes j (result_text n k (left_in space')) out out' r) (only-room told.0 space space' are_bytes c (length out))
                (subst (λ (m : ℕ). WritingResult n k links (take ((m - 1) * entry_size) space') out out' r) counted a);
          })
