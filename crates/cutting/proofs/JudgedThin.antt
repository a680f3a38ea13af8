-- From judged links, their table and the labels to thinning over link records: a refusal, or the links kept.
-- Assumes nothing.
use Rattle.std.proofs.Common.{◌≡◌, ℕ, ◌<◌, ◌≤◌, ◌^◌, Bool, true, List, [], ◌∷◌, Ok, Err, length, replicate, sym, refl, ◌∙◌, subst, arith, ltb-false}
use Rattle.meaning.specs.declared.Link.{Link}
use Rattle.meaning.specs.declared.Row.TheVariants.{LinkSpace}
use Rattle.meaning.specs.declared.Refusal.{Refusal}
use Rattle.meaning.specs.Judge.{Judged, Accepted, answered, first}
use Rattle.meaning.specs.Firm.{label}
use Rattle.meaning.specs.Room.{fitted}
use Rattle.meaning.proofs.Room.{fitted_all}
use Rattle.links.specs.Links.{table_rows}
use Rattle.links.specs.Records.{kept_links}
use Rattle.links.specs.Table.{held, filled}
use Rattle.links.proofs.LinksBytes.{Short}
use Rattle.links.proofs.LinksRows.{never_both, table_counted, table_proper}
use Rattle.links.proofs.RecordsKept.{kept_few}
use Rattle.weighing.specs.Side.{heap_of}
use Rattle.cutting.specs.Rows.{link_row, thinning_rows}
use Rattle.cutting.specs.Calls.{ThinningRecords}
use Rattle.cutting.proofs.Lawful.{row_accepted}
use Rattle.cutting.proofs.Carried.{filled_alike}
use Rattle.cutting.proofs.Keeping.{kept_same, thins_refused, thins_accepted, thins_alike, thinning_core, thinning_stop}

-- what was judged of the links, and then row 14, are thinning's rows
judged_rows : (n k : ℕ) (good : Bool) (links : List Link) (j : Judged) (room : ℕ) → j ≡ first (table_rows n k good links)
    → first (j ∷ link_row (length links) room ∷ []) ≡ first (thinning_rows n k good links room)
unfolding first
judged_rows n k good links (Ok done) room e = thinning_core n k good links room (sym e)
judged_rows n k good links (Err refusal) room e = sym (thinning_stop n k good links room refusal (sym e))

-- the first of two rows that are accepted, and the room that row 14 accepts
first_of-two : (j row : Judged) → first (j ∷ row ∷ []) ≡ Accepted → (j ≡ Accepted) × (first (row ∷ []) ≡ Accepted)
unfolding first
first_of-two (Ok done) row e = (refl, e)
first_of-two (Err refusal) row e = absurd (never_both (Err refusal) refusal e refl)

room_accepted : (links room : ℕ) → first (link_row links room ∷ []) ≡ Accepted → links ≤ room
unfolding link_row
room_accepted links room e = ltb-false room links (row_accepted _ LinkSpace 0 [] e).0

module _ (n k : ℕ) (links : List Link) (j : Judged) (judged : j ≡ first (table_rows n k true links)) (space : List Link) (r : Judged) (rows : r ≡ first (j ∷ link_row (length links) (length space) ∷ [])) where
  all_rows : first (thinning_rows n k true links (length space)) ≡ r
  all_rows = sym (rows ∙ judged_rows n k true links j (length space) judged)

  -- a refusal, of the links or of the room
  pub records_refused : {refusal : Refusal} → r ≡ Err refusal → ThinningRecords n k links space space (Err refusal)
  records_refused q = thins_refused (λ ls. ls) _ n _ k links space refl (all_rows ∙ q)

  module _ (accepted : r ≡ Accepted) where
    pub judged_both : (j ≡ Accepted) × (first (link_row (length links) (length space) ∷ []) ≡ Accepted)
    judged_both = first_of-two j (link_row (length links) (length space)) (sym rows ∙ accepted)

    table_accepted : first (table_rows n k true links) ≡ Accepted
    table_accepted = sym judged ∙ judged_both.0

    pub kept_fits : (labels : List ℕ) → length (kept_links labels links) < 2 ^ 32
    kept_fits labels = omega (arith, kept_few labels links, (table_counted n k true links table_accepted).few_links)

    pub records_kept : Short links → (labels : List ℕ) → ((b : ℕ) → b < n → heap_of labels b ≡ label n (held (filled j (replicate 16384 0) links)) k b)
        → (space' : List Link) (count : ℕ) → count ≡ length (kept_links labels links) → space' ≡ fitted space 0 (kept_links labels links) → ThinningRecords n k links space space' (answered r count)
    unfolding answered
    records_kept short labels are space' count q p =
        let alike = filled_alike n k true links j judged judged_both.0 (filled j (replicate 16384 0) links) refl short in
        let few = (table_counted n k true links table_accepted).few_bones in
        let room = room_accepted (length links) (length space) judged_both.1 in
        subst (λ (i : Judged). ThinningRecords n k links space space' (answered i count)) (sym accepted)
        (thins_alike (λ ls. ls) n _ _ alike k _ _ links space space' _ refl
        (thins_accepted (λ ls. ls) _ n _ k links space labels space' count (all_rows ∙ accepted)
        (kept_same n _ k labels links few are (table_proper n k true links table_accepted)) q
        (p ∙ fitted_all space 0 (kept_links labels links) (omega (arith, kept_few labels links, room)))))
