-- From thinning's promise to that of the program `thin`: the links kept fit the space, and their input text, or thinning's refusal, is what is printed.
-- Assumes nothing.
use Rattle.std.proofs.Common.{ℕ, ◌-◌, ◌≤◌, ◌≡◌, refl, sym, ◌∙◌, ap, subst, arith, Bool, true, false, cond, List, [], ◌∷◌, length, take, le-ltb, ne_eqb, Result, Ok, Err}
use Rattle.meaning.specs.declared.Link.{Link}
use Rattle.meaning.specs.declared.Refusal.{Refusal}
use Rattle.meaning.specs.Judge.{Judged, Accepted, answered, refuse, first, number_of}
use Rattle.meaning.specs.Tally.{Tally, pair_tally}
use Rattle.meaning.specs.Firm.{label}
use Rattle.meaning.proofs.Judge.{first_last}
use Rattle.meaning.proofs.Room.{settled_new, take_front}
use Rattle.links.specs.Links.{count_rows, links_rows, table_rows}
use Rattle.links.specs.Records.{same_label, kept_links}
use Rattle.links.proofs.LinksRows.{Propers, first_accepted, links_proper, accepted_left, table_counted, table_proper}
use Rattle.links.proofs.RecordsKept.{kept_few}
use Rattle.cutting.specs.Names.{names}
use Rattle.cutting.specs.RecordRows.{record_row}
use Rattle.cutting.specs.Rows.{thinning_rows}
use Rattle.cutting.specs.Calls.{kept, ThinningRecords}
use Rattle.texts.specs.Writing.{text_row, Writes, Refuses}
use Rattle.texts.specs.Inputs.{input_text, input_rows, WritingInput}
use Rattle.texts.proofs.Rows.{told_accepted, told_refused}
use Rattle.answering.specs.Steps.{Framed}
use Rattle.answering.specs.ThinPrints.{thinned_rows, thinned_text, thin_printed, ThinAnswers}
use Rattle.answering.proofs.Fitting.{Fits, thinning_fits}

-- what holds of each link of a list holds of each that is kept
pub kept_holds : (Each : List Link → Type 0) → ((l : Link) (ls : List Link) → Each (l ∷ ls) → Each ls × ((ks : List Link) → Each ks → Each (l ∷ ks)))
    → (labels : List ℕ) (ls : List Link) → Each ls → Each (kept_links labels ls)
unfolding kept_links
kept_holds Each apart labels [] all = all
kept_holds Each apart labels (l ∷ ls) all =
    let parts = apart l ls all in
    go (same_label labels l) (parts.1 (kept_links labels ls)) (kept_holds Each apart labels ls parts.0)
  where
    go : (b : Bool) → (Each (kept_links labels ls) → Each (l ∷ kept_links labels ls)) → Each (kept_links labels ls) → Each (cond b (l ∷ kept_links labels ls) (kept_links labels ls))
    go true with_it rest = with_it rest
    go false with_it rest = rest

kept_proper : (n : ℕ) (labels : List ℕ) (ls : List Link) → Propers n ls → Propers n (kept_links labels ls)
unfolding Propers
kept_proper n = kept_holds (Propers n) (λ l ls p. (p.1, λ ks q. (p.0, q)))

-- rows 1 to 3 accept fewer links where they accept a list
fewer_counted : (n k : ℕ) (links : List Link) (count : ℕ) → count ≤ length links → first (table_rows n k true links) ≡ Accepted → first (count_rows n k true count) ≡ Accepted
unfolding count_rows refuse first
fewer_counted n k links count few e =
    let c = table_counted n k true links e in
    simp
    (ne_eqb n 0 (omega (arith, c.some_bones)), le-ltb 128 n c.few_bones, ne_eqb k 0 (omega (arith, c.some_threshold)), le-ltb 65535 k c.low_threshold, le-ltb 4096 count (omega (arith, c.few_links)))

-- row 9 accepts the empty record
none_accepted : (n : ℕ) → record_row n 0 ≡ Accepted
unfolding record_row refuse
none_accepted n = rw (le-ltb (n - 1) 0 (omega arith)) refl

module _ (n k : ℕ) (links : List Link) where
  abbrev w : Tally
  w = pair_tally links

  abbrev rows : List Judged
  rows = thinning_rows n k true links 4096

  abbrev stay : List Link
  stay = kept n w k links

  most_kept : length stay ≤ length links
  most_kept = kept_few (names 128 (label n w k)) links

  module _ (accepted : first rows ≡ Accepted) where
    judged : first (table_rows n k true links) ≡ Accepted
    unfolding thinning_rows
    judged = accepted_left (table_rows n k true links) _ accepted

    pub few_kept : length stay ≤ 4096
    few_kept = omega (arith, most_kept, (table_counted n k true links judged).few_links)

    -- the writer's rows 1 to 6 accept what is kept
    pub kept_judged : first (table_rows n k true stay) ≡ Accepted
    unfolding table_rows
    kept_judged =
        first_accepted (count_rows n k true (length stay)) (links_rows n 0 stay) (fewer_counted n k links (length stay) most_kept judged)
        ∙ links_proper n 0 stay (kept_proper n (names 128 (label n w k)) links (table_proper n k true links judged))

    -- so only row 20 is left
    pub only-room : (room : ℕ) → first (input_rows n k stay [] room) ≡ text_row (input_text n k stay []) room
    unfolding input_rows
    only-room room =
        first_accepted (table_rows n k true stay) _ kept_judged ∙ first_accepted (record_row n 0 ∷ []) _ (first_last (record_row n 0) ∙ none_accepted n) ∙ first_last _

  module _ {space space' : List Link} {g : Result ℕ Refusal} (many : length space ≡ 4096) (thins : ThinningRecords n k links space space' g) where
    same : first (thinning_rows n k true links (length space)) ≡ first rows
    same = ap (λ (m : ℕ). first (thinning_rows n k true links m)) many

    says : g ≡ answered (first rows) (length stay)
    says = thins.answer ∙ ap (λ (j : Judged). answered j (length stay)) same

    module _ {refusal : Refusal} (e : g ≡ Err refusal) where
      refused : first rows ≡ Err refusal
      refused = told_refused (first rows) (length stay) refusal (sym e ∙ says)

      pub thinning_framed : Framed refusal
      unfolding Fits
      thinning_framed = subst Fits refused (thinning_fits n k links 4096)

      pub thinning_refused : {out out' : List ℕ} {r : Result ℕ Refusal} → Refuses (number_of refusal.row) refusal.place out out' r → ThinAnswers (first (thinned_rows n k links)) n k links out out' r
      unfolding thinned_rows thin_printed
      thinning_refused {out = out} {out' = out'} {r = r} a = subst (λ (j : Judged). ThinAnswers j n k links out out' r) (sym refused) a

    module _ {count : ℕ} (e : g ≡ Ok count) where
      told : (first rows ≡ Accepted) × (count ≡ length stay)
      told = told_accepted (first rows) (length stay) count (sym e ∙ says)

      pub kept_held : count ≤ length space
      kept_held = omega (arith, told.1, few_kept told.0, many)

      front : take count space' ≡ stay
      front = ap (take count) (thins.links_after ∙ settled_new space _ (same ∙ told.0)) ∙ take_front space stay count told.1

      pub thinning_answers : {out out' : List ℕ} {r : Result ℕ Refusal} → WritingInput n k (take count space') [] out out' r → ThinAnswers (first (thinned_rows n k links)) n k links out out' r
      unfolding thinned_rows thin_printed thinned_text
      thinning_answers {out = out} {out' = out'} {r = r} a =
          subst (λ (j : Judged). ThinAnswers j n k links out out' r) (sym told.0)
          (subst (λ (j : Judged). Writes j (input_text n k stay []) out out' r) (only-room told.0 (length out))
          (subst (λ (ls : List Link). WritingInput n k ls [] out out' r) front a))
