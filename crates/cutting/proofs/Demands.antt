-- The theorems that close demand 3, over the promises of checking and grouping alone: a lawful run is kept, continued and ends at the
-- labels; grouping's own record is found finished and stays as it is; and checking refuses exactly the runs that are not lawful.
-- Assumes nothing.
use Prim.Native.Nat.{ℕ, ◌+◌, ◌*◌, ◌-◌, ◌/◌, ◌%◌, ◌≤◌, ◌<◌}
use mathlib.Core.Path.{◌≡◌, refl, sym, ◌∙◌, ap, ap₂, subst}
use mathlib.Core.Logic.{◌⊎◌, inl, inr}
use mathlib.Core.Bool.{Bool, true}
use mathlib.Core.List.{List}
use native.Mathlib.Omega.{arith}
use lib.ListN.{length, take, length-take}
use Rattle.meaning.specs.declared.Link.{Link}
use Rattle.meaning.specs.declared.Refusal.{Refusal}
use Rattle.std.proofs.Common.{Result, Ok, Err}
use Rattle.meaning.specs.Judge.{Judged, Accepted, answered, first}
use Rattle.meaning.specs.Tally.{pair_tally}
use Rattle.meaning.specs.Firm.{label, groups}
use Rattle.meaning.specs.Heap.{start, piles, LawfulRun, left, weights, between, finished}
use Rattle.meaning.proofs.Tallies.{pair_tally_symmetric}
use Rattle.meaning.proofs.Ends.{weights-between}
use Rattle.links.specs.Links.{table_rows}
use Rattle.links.proofs.LinksRows.{Counted, table_counted}
use Rattle.cutting.specs.declared.Answer.{Answer}
use Rattle.cutting.specs.Record.{entry_size, cuts_of}
use Rattle.cutting.specs.RecordRows.{record_rows, entries_rows}
use Rattle.cutting.specs.Rows.{checking_rows, grouping_rows}
use Rattle.meaning.specs.Room.{over}
use Rattle.meaning.proofs.Room.{settled_new}
use Rattle.cutting.specs.Names.{names}
use Rattle.cutting.specs.Runs.{answer_of, Recorded, Continued, Sound, Stopped}
use Rattle.cutting.specs.Calls.{Checking, Grouping}
use Rattle.cutting.proofs.Names.{names_same}
use Rattle.cutting.proofs.Cuts.{length_cuts}
use Rattle.cutting.proofs.Narrow.{narrow_cuts}
use Rattle.cutting.proofs.Lawful.{entries_lawful, lawful_entries, entries_stop, record_fits}
use Rattle.cutting.proofs.Finish.{cuts_most, run_labels, run_groups, run_cuts}
use Rattle.cutting.proofs.Answers.{label_fits, space_fits}
use Rattle.cutting.proofs.Carried.{checking_core, grouping_core}

module _ (n k : ℕ) (good : Bool) (links : List Link) (judged : first (table_rows n k good links) ≡ Accepted) where
  counted : Counted n k good (length links)
  counted = table_counted n k good links judged

  -- rows 9 to 13 accept a sound record
  record_accepted : (bytes : List ℕ) → Sound n (pair_tally links) k bytes → first (record_rows n (pair_tally links) k bytes) ≡ Accepted
  record_accepted bytes s = record_fits n (pair_tally links) k bytes s.whole s.few ∙ lawful_entries n (pair_tally links) k (cuts_of bytes) start 0 counted.few_bones s.run

  grouping_accepted : (bytes : List ℕ) (label_room record_room : ℕ) → n ≤ label_room → entry_size * (n - 1) ≤ record_room → Sound n (pair_tally links) k bytes
      → first (grouping_rows n k good links bytes label_room record_room) ≡ Accepted
  grouping_accepted bytes label_room record_room l r s =
      sym (grouping_core n k good links bytes label_room record_room (pair_tally links) (λ i j hi hj. refl) judged)
      ∙ label_fits n label_room _ l
      ∙ space_fits n record_room _ r
      ∙ record_accepted bytes s

  checking_accepted : (bytes : List ℕ) (label_room : ℕ) → n ≤ label_room → Sound n (pair_tally links) k bytes → first (checking_rows n k good links bytes label_room) ≡ Accepted
  checking_accepted bytes label_room l s =
      sym (checking_core n k good links bytes label_room (pair_tally links) (λ i j hi hj. refl) judged) ∙ label_fits n label_room _ l ∙ record_accepted bytes s

  -- any lawful run is kept, continued and ends at the labels
  pub kept_and_continued : (bytes labels labels' space space' : List ℕ) (r : Result Answer Refusal) → n ≤ length labels → entry_size * (n - 1) ≤ length space → Sound n (pair_tally links) k bytes
      → Grouping n k good links bytes labels labels' space space' r
      → (r ≡ Ok (answer_of (groups n (pair_tally links) k) true)) × (labels' ≡ over labels 0 (names n (label n (pair_tally links) k))) × Continued n (pair_tally links) k bytes space space'
  unfolding answered Recorded
  kept_and_continued bytes labels labels' space space' r l m s g =
      let e = grouping_accepted bytes (length labels) (length space) l m s in (
        g.answer ∙ ap (λ (j : Judged). answered j (answer_of (groups n (pair_tally links) k) true)) e,
        g.labels_left ∙ settled_new labels _ e,
        subst (λ (j : Judged). Recorded j n (pair_tally links) k bytes space space') e g.record_left,
      )

  module _ (bytes space space' : List ℕ) (c : Continued n (pair_tally links) k bytes space space') where
    -- grouping's own record
    unfoldable pub own : List ℕ
    own = take (entry_size * (groups n (pair_tally links) k - 1)) space'

    own_cuts : length (cuts_of own) + 1 ≡ groups n (pair_tally links) k
    unfolding own
    own_cuts = omega (arith, run_cuts n (pair_tally links) k counted.some_bones (cuts_of own) c.lawful c.done, groups-some)
      where
        groups-some : 0 < groups n (pair_tally links) k
        groups-some = subst (λ (x : ℕ). 0 < x) (run_groups n (pair_tally links) k counted.some_bones (cuts_of own) c.lawful c.done) (omega (arith, Rattle.cutting.proofs.Finish.piles_run n (pair_tally links) k counted.some_bones (cuts_of own) c.lawful))

    pub own_length : length own ≡ entry_size * (groups n (pair_tally links) k - 1)
    unfolding own cuts_of
    own_length = omega (arith, own_cuts, length_cuts (length own / entry_size) own, length-take (entry_size * (groups n (pair_tally links) k - 1)) space')

    pub own_sound : Sound n (pair_tally links) k own
    unfolding own
    own_sound =
        record {
          whole = omega (arith, own_length);
          few = omega (arith, own_length, own_cuts, cuts_most n (pair_tally links) k counted.some_bones (cuts_of own) c.lawful);
          run = c.lawful;
        }

    -- one cut fewer than groups, and the weights add up to the tally between bones of different groups
    pub own_count : length (cuts_of own) + 1 ≡ groups n (pair_tally links) k
    own_count = own_cuts

    pub own_weights : weights (cuts_of own) ≡ between n (pair_tally links) (label n (pair_tally links) k)
    unfolding own
    own_weights = weights-between n (pair_tally links) k (pair_tally_symmetric links) (cuts_of own) c.lawful c.done

    -- handed to checking it is finished, with the same count and labels
    pub own_checked : (labels labels' : List ℕ) (r : Result Answer Refusal) → n ≤ length labels → Checking n k good links own labels labels' r
        → (r ≡ Ok (answer_of (groups n (pair_tally links) k) true)) × (labels' ≡ over labels 0 (names n (label n (pair_tally links) k)))
    unfolding answered own
    own_checked labels labels' r l g =
        let e = checking_accepted own (length labels) l own_sound in
        let p = run_groups n (pair_tally links) k counted.some_bones (cuts_of own) c.lawful c.done in
        let h = names_same n (left n start (cuts_of own)) (label n (pair_tally links) k) (run_labels n (pair_tally links) k counted.some_bones (cuts_of own) c.lawful c.done) in (
          g.answer ∙ ap (λ (j : Judged). answered j (answer_of (piles n (left n start (cuts_of own))) (finished n (pair_tally links) k (left n start (cuts_of own))))) e
              ∙ ap₂ (λ (m : ℕ) (t : Bool). answered Accepted (answer_of m t)) p (Rattle.meaning.proofs.Tests.is_true (finished n (pair_tally links) k (left n start (cuts_of own))) c.done),
          g.names_after ∙ settled_new labels _ e ∙ ap (over labels 0) h,
        )

    -- grouped again, nothing is added to it
    pub own_stays : (labels labels' room room' : List ℕ) (r : Result Answer Refusal) → n ≤ length labels → entry_size * (n - 1) ≤ length room
        → Grouping n k good links own labels labels' room room' r → take (entry_size * (groups n (pair_tally links) k - 1)) room' ≡ own
    own_stays labels labels' room room' r l m g =
        ap (λ (x : ℕ). take x room') (sym own_length) ∙ (kept_and_continued own labels labels' room room' r l m own_sound g).2.given

  -- a whole record of at most n − 1 entries is refused by checking exactly if its run is not lawful, at the first entry that is not
  pub judged_by_checking : (bytes labels labels' : List ℕ) (r : Result Answer Refusal) → n ≤ length labels → length bytes % entry_size ≡ 0 → length bytes / entry_size ≤ n - 1
      → Checking n k good links bytes labels labels' r
      → (LawfulRun n (pair_tally links) k start (cuts_of bytes) × (r ≡ Ok (answer_of (piles n (left n start (cuts_of bytes))) (finished n (pair_tally links) k (left n start (cuts_of bytes))))))
      ⊎ ((refusal : Refusal) × (r ≡ Err refusal) × Stopped n (pair_tally links) k start 0 (cuts_of bytes) refusal)
  unfolding answered cuts_of
  judged_by_checking bytes labels labels' r l whole few g = go (first (entries_rows n (pair_tally links) k start 0 (cuts_of bytes))) refl
    where
      rows : first (checking_rows n k good links bytes (length labels)) ≡ first (entries_rows n (pair_tally links) k start 0 (cuts_of bytes))
      rows =
          sym (checking_core n k good links bytes (length labels) (pair_tally links) (λ i j hi hj. refl) judged)
          ∙ label_fits n (length labels) _ l
          ∙ record_fits n (pair_tally links) k bytes whole few

      go : (j : Judged) → first (entries_rows n (pair_tally links) k start 0 (cuts_of bytes)) ≡ j
          → (LawfulRun n (pair_tally links) k start (cuts_of bytes) × (r ≡ Ok (answer_of (piles n (left n start (cuts_of bytes))) (finished n (pair_tally links) k (left n start (cuts_of bytes))))))
          ⊎ ((refusal : Refusal) × (r ≡ Err refusal) × Stopped n (pair_tally links) k start 0 (cuts_of bytes) refusal)
      go (Ok done) e =
          inl (
            entries_lawful n (pair_tally links) k (cuts_of bytes) start 0 (narrow_cuts (length bytes / entry_size) bytes) e,
            g.answer ∙ ap (λ (j : Judged). answered j (answer_of (piles n (left n start (cuts_of bytes))) (finished n (pair_tally links) k (left n start (cuts_of bytes))))) (rows ∙ e),
          )
      go (Err refusal) e =
          inr (
            refusal,
            g.answer ∙ ap (λ (j : Judged). answered j (answer_of (piles n (left n start (cuts_of bytes))) (finished n (pair_tally links) k (left n start (cuts_of bytes))))) (rows ∙ e),
            entries_stop n (pair_tally links) k (cuts_of bytes) start 0 refusal counted.few_bones (narrow_cuts (length bytes / entry_size) bytes) e,
          )
