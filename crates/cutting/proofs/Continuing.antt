-- From a record that is accepted to one that is finished: what the given entries begin, and what the promise says of the end.
-- Assumes nothing.
use Prim.Native.Nat.{ℕ, ◌+◌, ◌*◌, ◌-◌, ◌/◌, ◌%◌, ◌≤◌, ◌<◌}
use mathlib.Core.Path.{◌≡◌, refl, sym, ◌∙◌, ap, ap₂, subst}
use mathlib.Core.Bool.{Bool, true, false, not, ◌||◌}
use mathlib.Core.List.{List, ◌++◌}
use native.Mathlib.Omega.{arith}
use lib.Dec.{T, eqb, ltb}
use lib.ListN.{length, take, drop}
use lib.Seq.{take_at, drop-drop, drop-append-add}
use borrow.Author.Tests.{eqb-true, ltb-false, not-false}
use Rattle.meaning.specs.declared.Row.TheVariants.{Record}
use Rattle.meaning.specs.Judge.{Accepted, first}
use Rattle.meaning.specs.Tally.{Tally}
use Rattle.meaning.specs.Firm.{label, groups}
use Rattle.meaning.specs.Heap.{Heap, start, LawfulRun, left, piles, finished}
use Rattle.weighing.specs.Side.{heap_of}
use Rattle.cutting.specs.Record.{entry_size, cuts_in, cuts_of}
use Rattle.cutting.specs.RecordRows.{record_row, record_rows}
use Rattle.cutting.specs.Finish.{Begun, Ended}
use Rattle.meaning.specs.Room.{over, fitted}
use Rattle.meaning.proofs.Room.{over_front, length_over, fitted_all}
use Rattle.cutting.specs.Names.{names}
use Rattle.cutting.specs.Runs.{Sound, Continued}
use Rattle.cutting.proofs.Names.{names_same}
use Rattle.cutting.proofs.Cuts.{length_cuts, cuts_front, cuts_of_lem}
use Rattle.cutting.proofs.Narrow.{narrow_cuts}
use Rattle.cutting.proofs.Lawful.{row_accepted, entries_lawful}
use Rattle.cutting.proofs.Finish.{cuts_most, run_labels, run_groups, run_cuts}

-- the names at the end are the labels
ended_label : (n : ℕ) (w : Tally) (k : ℕ) (space : List ℕ) (cuts : ℕ) (names' space' : List ℕ) (cuts' : ℕ) → 0 < n → Ended n w k space cuts names' space' cuts' → (b : ℕ) → b < n → heap_of names' b ≡ label n w k b
ended_label n w k space cuts names' space' cuts' some_bones e b l =
    ap (λ (h : Heap). h b) e.heap
    ∙ run_labels n w k some_bones (cuts_in cuts' space') e.run (subst (λ (h : Heap). T (finished n w k h)) e.heap e.done) b l

neither : (a b : Bool) → a || b ≡ false → (a ≡ false) × (b ≡ false)
neither true b e = (e, absurd (subst T e tt))
neither false b e = (refl, e)

pub record_sound : (n : ℕ) (w : Tally) (k : ℕ) (bytes : List ℕ) → first (record_rows n w k bytes) ≡ Accepted → Sound n w k bytes
unfolding record_rows record_row cuts_of
record_sound n w k bytes e =
    let nine = row_accepted _ Record 0 _ e in
    let fits = neither (not (eqb (length bytes % entry_size) 0)) (ltb (n - 1) (length bytes / entry_size)) nine.0 in
    record {
      whole = eqb-true (length bytes % entry_size) 0 (not-false _ fits.0);
      few = ltb-false (n - 1) (length bytes / entry_size) fits.1;
      run = entries_lawful n w k (cuts_of bytes) start 0 (narrow_cuts (length bytes / entry_size) bytes) nine.1;
    }

module _ (n : ℕ) (w : Tally) (k : ℕ) (bytes space : List ℕ) (s : Sound n w k bytes) (some_bones : 0 < n) (room : entry_size * (n - 1) ≤ length space) where
  -- the space with the given entries at its front
  begun : List ℕ
  begun = over space 0 bytes

  fits : length bytes ≤ length space
  fits = omega (arith, s.whole, s.few)

  -- they are put there whole
  pub given_whole : {copied : List ℕ} → copied ≡ fitted space 0 bytes → copied ≡ over space 0 bytes
  given_whole e = e ∙ fitted_all space 0 bytes (omega (arith, fits))

  begun_is : begun ≡ bytes ++ drop (length bytes) space
  unfolding begun
  begun_is = over_front space bytes

  begun_cuts : cuts_in (length bytes / entry_size) begun ≡ cuts_of bytes
  unfolding cuts_of
  begun_cuts =
      ap (cuts_in (length bytes / entry_size)) begun_is
      ∙ cuts_front (length bytes / entry_size) bytes (drop (length bytes) space) (omega arith)

  begun_long : length begun ≡ length space
  unfolding begun
  begun_long = length_over space 0 bytes (omega (arith, fits))

  pub given_begins : (names : List ℕ) → n ≤ 128 → k ≤ 65535 → heap_of names ≡ left n start (cuts_of bytes) → length names ≡ 128 → Begun n w k names (over space 0 bytes) (length bytes / entry_size)
  unfolding begun
  given_begins names few low e long =
      record {
        some_bones = some_bones;
        few_bones = few;
        low_threshold = low;
        room = omega (arith, begun_long);
        run = subst (LawfulRun n w k start) (sym begun_cuts) s.run;
        heap = e ∙ ap (left n start) (sym begun_cuts);
        names_long = long;
      }

  module _ (names' space' : List ℕ) (cuts' : ℕ) (e : Ended n w k (over space 0 bytes) (length bytes / entry_size) names' space' cuts') where
    done : T (finished n w k (left n start (cuts_in cuts' space')))
    done = subst (λ (h : Heap). T (finished n w k h)) e.heap e.done

    all : entry_size * (groups n w k - 1) ≡ cuts' * entry_size
    all = omega (arith, run_cuts n w k some_bones (cuts_in cuts' space') e.run done, length_cuts cuts' space')

    inside : cuts' * entry_size ≤ length space
    inside = omega (arith, cuts_most n w k some_bones (cuts_in cuts' space') e.run, length_cuts cuts' space')

    cuts_all : cuts_of (take (entry_size * (groups n w k - 1)) space') ≡ cuts_in cuts' space'
    unfolding begun
    cuts_all =
        let turn : entry_size * (groups n w k - 1) ≡ entry_size * cuts' = omega (arith, all) in
        ap (λ (m : ℕ). cuts_of (take m space')) turn ∙ cuts_of_lem cuts' space' (omega (arith, e.long, begun_long, inside))

    pub ended_continued : Continued n w k bytes space space'
    unfolding begun
    ended_continued =
        let whole : length bytes / entry_size * entry_size ≡ length bytes = omega (arith, s.whole) in
        record {
          given = ap (λ (m : ℕ). take m space') (sym whole) ∙ e.front ∙ ap₂ take whole begun_is ∙ take_at bytes (drop (length bytes) space) (length bytes) refl;
          rest = ap (λ (m : ℕ). drop m space') all ∙ e.rest ∙ rest_same ∙ ap (λ (m : ℕ). drop m space) (sym all);
          lawful = subst (LawfulRun n w k start) (sym cuts_all) e.run;
          done = subst (λ (h : Heap). T (finished n w k h)) (ap (left n start) (sym cuts_all)) done;
        }
      where
        rest_same : drop (cuts' * entry_size) begun ≡ drop (cuts' * entry_size) space
        rest_same =
            let more : length bytes + (cuts' * entry_size - length bytes) ≡ cuts' * entry_size = omega (arith, s.whole, e.more) in
            ap₂ drop (sym more) begun_is
            ∙ drop-append-add bytes (drop (length bytes) space) (cuts' * entry_size - length bytes)
            ∙ drop-drop (cuts' * entry_size - length bytes) (length bytes) space
            ∙ ap (λ (m : ℕ). drop m space) more

    pub ended_labels : names n (heap_of names') ≡ names n (label n w k)
    ended_labels = names_same n (heap_of names') (label n w k) (ended_label n w k _ _ names' space' cuts' some_bones e)

    pub ended_groups : piles n (heap_of names') ≡ groups n w k
    ended_groups = ap (piles n) e.heap ∙ run_groups n w k some_bones (cuts_in cuts' space') e.run done
