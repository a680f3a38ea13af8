-- A table that accepted links filled from nought: what the functions above it ask holds of it, and what they promise of its tally is promised of the links.
-- Assumes nothing.
use Rattle.std.proofs.Common.{◌≡◌, ℕ, suc, ◌<◌, ◌^◌, Bool, true, List, [], ◌∷◌, Result, sym, ◌∙◌, length, replicate, arith, subst, Ok, Err, refl, ap, get_or}
use Rattle.std.specs.Prelude.{OnOk, EachIndex, slice_index_or}
use Rattle.meaning.specs.declared.Link.{Link}
use Rattle.meaning.specs.declared.Refusal.{Refusal}
use Rattle.meaning.specs.Judge.{Judged, Accepted, first, answered}
use Rattle.meaning.specs.Tally.{pair_tally}
use Rattle.links.specs.Links.{count_rows, table_rows}
use Rattle.links.specs.Forms.{no_link}
use Rattle.links.specs.Table.{held, filled}
use Rattle.links.proofs.LinksBytes.{Short}
use Rattle.links.proofs.LinksRows.{first_accepted}
use Rattle.weighing.specs.Search.{Small}
use Rattle.cutting.specs.declared.Answer.{Answer}
use Rattle.cutting.specs.Calls.{Checking, Grouping}
use Rattle.cutting.specs.Above.{CheckedAbove, GroupedAbove}
use Rattle.cutting.proofs.Alike.{Alike}
use Rattle.cutting.proofs.Carried.{counts_pass, filled_alike, filled_small, checked_alike, checking_core, grouped_alike, grouping_core, checking_stop, grouping_stop}
use Rattle.meaning.specs.Room.{over, settled}
use Rattle.meaning.specs.Heap.{start, left, piles, finished}
use Rattle.meaning.specs.Firm.{label, groups}
use Rattle.cutting.specs.Record.{cuts_of}
use Rattle.cutting.specs.RecordRows.{record_rows}
use Rattle.cutting.specs.Rows.{label_row, space_row}
use Rattle.cutting.specs.Names.{names}
use Rattle.cutting.specs.Runs.{answer_of, Checked, Recorded, Grouped}

-- links are short where each of them is
pub short_each : (links : List Link) (d : Link) → ((i : ℕ) → i < length links → (get_or links i d).tally < 65536) → Short links
unfolding Short
short_each [] d h = tt
short_each (l ∷ ls) d h = (h 0 (omega arith), short_each ls d (λ i g. h (suc i) (omega arith)))

pub record Filled (n k : ℕ) (good : Bool) (links : List Link) (t : List ℕ) : Type 0 where
  pub accepted : first (table_rows n k good links) ≡ Accepted
  pub counts : first (count_rows n k true 0) ≡ Accepted
  pub alike : Alike n (held t) (pair_tally links)
  pub small : Small n t

pub filled_with : {n k : ℕ} {good : Bool} {links : List Link} {r : Judged} {t : List ℕ} → r ≡ first (table_rows n k good links) → r ≡ Accepted → t ≡ filled r (replicate 16384 0) links
    → OnOk r (EachIndex links (λ i. (slice_index_or links i no_link).tally < 2 ^ 16)) → Filled n k good links t
filled_with {n} {k} {good} {links} {r} {t} judged accepted table tallies =
    let short = short_each links no_link (subst (λ (x : Judged). OnOk x (EachIndex links (λ i. (slice_index_or links i no_link).tally < 2 ^ 16))) accepted tallies) in
    record {
      accepted = sym judged ∙ accepted;
      counts = counts_pass n k good links (sym judged ∙ accepted);
      alike = filled_alike n k good links r judged accepted t table short;
      small = filled_small n k good links r judged accepted t table short;
    }

module _ {n k : ℕ} {good : Bool} {links : List Link} {t : List ℕ} (f : Filled n k good links t) {bytes labels labels' : List ℕ} {r : Result Answer Refusal} where
  pub checking_filled : CheckedAbove (count_rows n k true 0) n t k bytes labels labels' r → Checking n k good links bytes labels labels' r
  checking_filled c =
      checked_alike n _ _ f.alike k _ _ _ _ _ _ (first_accepted _ _ f.counts ∙ checking_core n k good links bytes (length labels) _ f.alike f.accepted) c

  pub grouping_filled : {space space' : List ℕ} → GroupedAbove (count_rows n k true 0) n t k bytes labels labels' space space' r → Grouping n k good links bytes labels labels' space space' r
  grouping_filled {space} c =
      grouped_alike n _ _ f.alike k _ _ _ _ _ _ _ _ (first_accepted _ _ f.counts ∙ grouping_core n k good links bytes (length labels) (length space) _ f.alike f.accepted) c

-- ---- what was judged, accepted or refused, stands before the rows of the core

-- a refusal of the links is checking's, whatever the table holds
checking_refused : (n k : ℕ) (good : Bool) (links : List Link) (refusal : Refusal) → first (table_rows n k good links) ≡ Err refusal → (table bytes labels labels' : List ℕ) (r : Result Answer Refusal)
    → Checked (Err refusal ∷ label_row n (length labels) ∷ record_rows n (held table) k bytes) n (held table) k bytes labels labels' r → Checking n k good links bytes labels labels' r
unfolding first answered settled
checking_refused n k good links refusal e table bytes labels labels' r c =
    let stop = sym (checking_stop n k good links bytes (length labels) refusal e) in
    record {
      answer = c.answer ∙ ap (λ (i : Judged). answered i (answer_of (piles n (left n start (cuts_of bytes))) (finished n (pair_tally links) k (left n start (cuts_of bytes))))) stop;
      names_after = c.names_after ∙ ap (λ (i : Judged). settled i labels (over labels 0 (names n (left n start (cuts_of bytes))))) stop;
    }

pub judged_checking : (n k : ℕ) (good : Bool) (links : List Link) (j : Judged) → j ≡ first (table_rows n k good links) → Short links → (bytes labels labels' : List ℕ) (r : Result Answer Refusal)
    → Checked (j ∷ label_row n (length labels) ∷ record_rows n (held (filled j (replicate 16384 0) links)) k bytes) n (held (filled j (replicate 16384 0) links)) k bytes labels labels' r → Checking n k good links bytes labels labels' r
unfolding first answered settled
judged_checking n k good links (Ok done) e short bytes labels labels' r c =
    let alike = filled_alike n k good links (Ok done) e refl (filled (Ok done) (replicate 16384 0) links) refl short in
    checked_alike n _ _ alike k (Ok done ∷ label_row n (length labels) ∷ record_rows n (held (filled (Ok done) (replicate 16384 0) links)) k bytes) _ _ _ _ _
    (checking_core n k good links bytes (length labels) _ alike (sym e)) c
judged_checking n k good links (Err refusal) e short bytes labels labels' r c = checking_refused n k good links refusal (sym e) _ bytes labels labels' r c

-- a refusal of the links is grouping's
grouping_refused : (n k : ℕ) (good : Bool) (links : List Link) (refusal : Refusal) → first (table_rows n k good links) ≡ Err refusal → (table bytes labels labels' space space' : List ℕ) (r : Result Answer Refusal)
    → Grouped (Err refusal ∷ label_row n (length labels) ∷ space_row n (length space) ∷ record_rows n (held table) k bytes) n (held table) k bytes labels labels' space space' r
    → Grouping n k good links bytes labels labels' space space' r
unfolding first answered settled Recorded
grouping_refused n k good links refusal e table bytes labels labels' space space' r c =
    let stop = sym (grouping_stop n k good links bytes (length labels) (length space) refusal e) in
    record {
      answer = c.answer ∙ ap (λ (i : Judged). answered i (answer_of (groups n (pair_tally links) k) true)) stop;
      labels_left = c.labels_left ∙ ap (λ (i : Judged). settled i labels (over labels 0 (names n (label n (pair_tally links) k)))) stop;
      record_left = subst (λ (i : Judged). Recorded i n (pair_tally links) k bytes space space') stop c.record_left;
    }

pub judged_grouping : (n k : ℕ) (good : Bool) (links : List Link) (j : Judged) → j ≡ first (table_rows n k good links) → Short links → (bytes labels labels' space space' : List ℕ) (r : Result Answer Refusal)
    → Grouped (j ∷ label_row n (length labels) ∷ space_row n (length space) ∷ record_rows n (held (filled j (replicate 16384 0) links)) k bytes) n (held (filled j (replicate 16384 0) links)) k bytes labels labels' space space' r
    → Grouping n k good links bytes labels labels' space space' r
unfolding first answered settled Recorded
judged_grouping n k good links (Ok done) e short bytes labels labels' space space' r c =
    let alike = filled_alike n k good links (Ok done) e refl (filled (Ok done) (replicate 16384 0) links) refl short in
    grouped_alike n _ _ alike k (Ok done ∷ label_row n (length labels) ∷ space_row n (length space) ∷ record_rows n (held (filled (Ok done) (replicate 16384 0) links)) k bytes) _ _ _ _ _ _ _
    (grouping_core n k good links bytes (length labels) (length space) _ alike (sym e)) c
judged_grouping n k good links (Err refusal) e short bytes labels labels' space space' r c =
    grouping_refused n k good links refusal (sym e) _ bytes labels labels' space space' r c

-- links lent as records are known to be short once they are accepted, and the table that was filled stands for what it is filled with
module _ (n k : ℕ) (links : List Link) where
  pub filled_asked : (j : Judged) → j ≡ first (table_rows n k true links) → (j ≡ Accepted → Short links) → (t : List ℕ) → t ≡ filled j (replicate 16384 0) links
      → j ≡ Accepted → (first (count_rows n k true 0) ≡ Accepted) × Small n t
  filled_asked j e short t f a = (counts_pass n k true links (sym e ∙ a), filled_small n k true links j e a t f (short a))

  pub filled_checking : (j : Judged) → j ≡ first (table_rows n k true links) → (j ≡ Accepted → Short links) → (t : List ℕ) → t ≡ filled j (replicate 16384 0) links
      → (bytes labels labels' : List ℕ) (r : Result Answer Refusal)
      → Checked (j ∷ label_row n (length labels) ∷ record_rows n (held t) k bytes) n (held t) k bytes labels labels' r → Checking n k true links bytes labels labels' r
  filled_checking (Ok done) e short t f bytes labels labels' r c =
      judged_checking n k true links (Ok done) e (short refl) bytes labels labels' r
      (subst (λ (u : List ℕ). Checked (Ok done ∷ label_row n (length labels) ∷ record_rows n (held u) k bytes) n (held u) k bytes labels labels' r) f c)
  filled_checking (Err refusal) e short t f bytes labels labels' r c = checking_refused n k true links refusal (sym e) t bytes labels labels' r c

  pub filled_grouping : (j : Judged) → j ≡ first (table_rows n k true links) → (j ≡ Accepted → Short links) → (t : List ℕ) → t ≡ filled j (replicate 16384 0) links
      → (bytes labels labels' space space' : List ℕ) (r : Result Answer Refusal)
      → Grouped (j ∷ label_row n (length labels) ∷ space_row n (length space) ∷ record_rows n (held t) k bytes) n (held t) k bytes labels labels' space space' r
      → Grouping n k true links bytes labels labels' space space' r
  filled_grouping (Ok done) e short t f bytes labels labels' space space' r c =
      judged_grouping n k true links (Ok done) e (short refl) bytes labels labels' space space' r
      (subst (λ (u : List ℕ). Grouped (Ok done ∷ label_row n (length labels) ∷ space_row n (length space) ∷ record_rows n (held u) k bytes) n (held u) k bytes labels labels' space space' r) f c)
  filled_grouping (Err refusal) e short t f bytes labels labels' space space' r c =
      grouping_refused n k true links refusal (sym e) t bytes labels labels' space space' r c
