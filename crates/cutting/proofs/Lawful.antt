-- Rows 10 to 13 and lawful cuts: the rows accept an entry exactly if its cut is lawful, they accept a record exactly if it is a lawful run,
-- and a refusal's place is the first entry that is not lawful.
-- Assumes nothing.
use Prim.Native.Nat.{ℕ, suc, ◌+◌, ◌-◌, ◌/◌, ◌%◌, ◌≤◌, ◌<◌, min}
use mathlib.Core.Path.{◌≡◌, refl, sym, ◌∙◌, ap, subst}
use mathlib.Core.Logic.{⊎_elim}
use mathlib.Core.Bool.{Bool, true, false, not, ◌&&◌, ◌||◌}
use mathlib.Core.List.{List, [], ◌∷◌}
use native.Mathlib.Numerals.{add-one}
use native.Mathlib.Omega.{arith}
use lib.Dec.{T, T_not, not_T}
use lib.ListN.{length}
use borrow.Author.Tests.{le-ltb, eq-eqb, lt-leb, leb-false, eqb-true, not-false, lt-ltb, ne_eqb, le-leb}
use Rattle.meaning.specs.declared.Row.{Row}
use Rattle.meaning.specs.declared.Row.TheVariants.{Pile, Side, Weight, NotLight, Record}
use Rattle.meaning.specs.declared.Refusal.{Refusal}
use Rattle.std.proofs.Common.{Ok, Err}
use Rattle.meaning.specs.Judge.{Judged, Accepted, Refused, refuse, first}
use Rattle.meaning.specs.Count.{Bones, some}
use Rattle.meaning.specs.Tally.{Tally, weight}
use Rattle.meaning.specs.Heap.{Heap, start, Cut, Lawful, LawfulRun, parted, pile, stands, left}
use Rattle.meaning.proofs.Tests.{both, left_of, right_of, decide, holds, fails, is_true, is_false, taut, so, ◌⊃◌}
use Rattle.meaning.proofs.Sets.{some_intro, some_elim}
use Rattle.meaning.proofs.Heaps.{pile_bone}
use Rattle.cutting.specs.Record.{entry_size, cuts_of}
use Rattle.cutting.proofs.Narrow.{Narrow, Narrows}
use Rattle.cutting.specs.Runs.{Stopped}
use Rattle.cutting.specs.RecordRows.{astray, entry_rows, entries_rows, record_row, record_rows}
use Rattle.links.proofs.LinksRows.{never_both, first_accepted, first-refused, accepted_left, accepted_right}

-- a pile that stands has the name of a bone
pub stands_bone : (n : ℕ) (h : Heap) (name : ℕ) → stands n h name ≡ true → name < n
unfolding stands
stands_bone n h name e = pile_bone n h name name (holds e)

-- weighing takes no more than 128 bones
pub weighed : {r : ℕ} (n : ℕ) (w : Tally) (h : Heap) (name : ℕ) (side : Bones) → n ≤ 128 → r ≡ weight (min n 128) w (pile (min n 128) h name) side → r ≡ weight n w (pile n h name) side
weighed {r} n w h name side few e =
    let same : min n 128 ≡ n = omega arith in
    subst (λ (m : ℕ). r ≡ weight m w (pile m h name) side) same e

-- ---- one entry

-- what a row accepts, and the rows behind it
pub row_accepted : (b : Bool) (row : Row) (place : ℕ) (js : List Judged) → first (refuse b row place ∷ js) ≡ Accepted → (b ≡ false) × (first js ≡ Accepted)
unfolding refuse first
row_accepted true row place js e = absurd (never_both (Refused row place) (record { row = row; place = place }) e refl)
row_accepted false row place js e = (refl, e)

pub first_none : first [] ≡ Accepted
unfolding first
first_none = refl

-- where a list refuses at a place, its first row does or those behind it do
row-place : (i : ℕ) (refusal : Refusal) (b : Bool) (row : Row) (js : List Judged) → first (refuse b row i ∷ js) ≡ Err refusal → (first js ≡ Err refusal → refusal.place ≡ i) → refusal.place ≡ i
unfolding refuse first
row-place i refusal true row js e f = cc
row-place i refusal false row js e f = f e

module _ (n : ℕ) (w : Tally) (k : ℕ) (h : Heap) (c : Cut) where
  -- the side holds a bone outside the pile
  strays : Bool
  strays = some 128 (λ b. c.side b && not (pile n h c.name b))

  pub entry_lawful : (i : ℕ) → Narrow c → first (entry_rows n w k h i c) ≡ Accepted → Lawful n w k h c
  unfolding entry_rows astray strays
  entry_lawful i narrow e =
      let ten = row_accepted (not (stands n h c.name)) Pile i _ e in
      let eleven = row_accepted _ Side i _ ten.1 in
      let twelve = row_accepted _ Weight i _ eleven.1 in
      let thirteen = row_accepted _ NotLight i _ twelve.1 in
      let sound : T (not (not (some 128 c.side) || (c.side c.name || strays))) = fails eleven.0 in
      let inside : (b : ℕ) → T (c.side b) → T (pile n h c.name b) = λ b t.
      ⊎_elim (λ u. u)
      (λ u. absurd
      (T_not strays (taut 3 (λ s p o. not (not s || (p || o)) ⊃ so (not o)) tt (some 128 c.side) (c.side c.name) strays sound)
      (some_intro 128 (λ b. c.side b && not (pile n h c.name b)) b (narrow b t) (both (c.side b) (not (pile n h c.name b)) t u))))
      (decide (pile n h c.name b)) in
      let moved = some_elim 128 c.side (taut 3 (λ s p o. not (not s || (p || o)) ⊃ so s) tt (some 128 c.side) (c.side c.name) strays sound) in
      record {
        standing = holds (not-false (stands n h c.name) ten.0);
        moving = some_intro n c.side moved.0 (pile_bone n h c.name moved.0 (inside moved.0 moved.2)) moved.2;
        staying = taut 3 (λ s p o. not (not s || (p || o)) ⊃ so (not p)) tt (some 128 c.side) (c.side c.name) strays sound;
        within = inside;
        true_weight = eqb-true c.weighs _ (not-false _ twelve.0);
        light = leb-false k c.weighs thirteen.0;
      }

  pub lawful_entry : (i : ℕ) → n ≤ 128 → Lawful n w k h c → first (entry_rows n w k h i c) ≡ Accepted
  unfolding entry_rows astray refuse first
  lawful_entry i few law =
      let moved = some_elim n c.side law.moving in
      let stray : T (not (some 128 (λ b. c.side b && not (pile n h c.name b)))) =
      not_T (some 128 (λ b. c.side b && not (pile n h c.name b))) (λ t. let r = some_elim 128 (λ b. c.side b && not (pile n h c.name b)) t in
      T_not (pile n h c.name r.0) (right_of (c.side r.0) (not (pile n h c.name r.0)) r.2) (law.within r.0 (left_of (c.side r.0) (not (pile n h c.name r.0)) r.2))) in
      simp
      (is_true (stands n h c.name) law.standing, is_true (some 128 c.side) (some_intro 128 c.side moved.0 (omega (arith, moved.1)) moved.2), is_false (c.side c.name) law.staying, is_false (some 128 (λ b. c.side b && not (pile n h c.name b))) stray, eq-eqb c.weighs _ law.true_weight, lt-leb k c.weighs law.light)

  -- the rows, tried in turn
  pub entry_twelve : (i : ℕ) → stands n h c.name ≡ true → astray n h c.name c.side ≡ false → (c.weighs ≡ weight n w (pile n h c.name) c.side → ⊥) → Refused Weight i ≡ first (entry_rows n w k h i c)
  unfolding entry_rows refuse first
  entry_twelve i e f g = rw (e, f, ne_eqb c.weighs (weight n w (pile n h c.name) c.side) g)

  pub entry_thirteen : (i : ℕ) → stands n h c.name ≡ true → astray n h c.name c.side ≡ false → c.weighs ≡ weight n w (pile n h c.name) c.side → k ≤ c.weighs → Refused NotLight i ≡ first (entry_rows n w k h i c)
  unfolding entry_rows refuse first
  entry_thirteen i e f g l = rw (e, f, eq-eqb c.weighs (weight n w (pile n h c.name) c.side) g, le-leb k c.weighs l)

  pub entry_sound : (i : ℕ) → stands n h c.name ≡ true → astray n h c.name c.side ≡ false → c.weighs ≡ weight n w (pile n h c.name) c.side → c.weighs < k → Accepted ≡ first (entry_rows n w k h i c)
  unfolding entry_rows refuse first
  entry_sound i e f g l = rw (e, f, eq-eqb c.weighs (weight n w (pile n h c.name) c.side) g, lt-leb k c.weighs l)

  -- a refusal's place is the entry's own
  pub entry_place : (i : ℕ) (refusal : Refusal) → first (entry_rows n w k h i c) ≡ Err refusal → refusal.place ≡ i
  unfolding entry_rows
  entry_place i refusal e =
      row-place i refusal _ _ _ e
      (λ e. row-place i refusal _ _ _ e (λ e. row-place i refusal _ _ _ e (λ e. row-place i refusal _ _ _ e (λ e. absurd (never_both (first []) refusal first_none e)))))

-- ---- a record

module _ (n : ℕ) (w : Tally) (k : ℕ) where
  pub entries_lawful : (cs : List Cut) (h : Heap) (i : ℕ) → Narrows cs → first (entries_rows n w k h i cs) ≡ Accepted → LawfulRun n w k h cs
  unfolding entries_rows LawfulRun
  entries_lawful [] h i narrow e = tt
  entries_lawful (c ∷ cs) h i narrow e = (
    entry_lawful n w k h c i narrow.0 (accepted_left (entry_rows n w k h i c) _ e),
    entries_lawful cs (parted n h c) (suc i) narrow.1 (accepted_right (entry_rows n w k h i c) _ e),
  )

  pub lawful_entries : (cs : List Cut) (h : Heap) (i : ℕ) → n ≤ 128 → LawfulRun n w k h cs → first (entries_rows n w k h i cs) ≡ Accepted
  unfolding entries_rows LawfulRun first
  lawful_entries [] h i few run = refl
  lawful_entries (c ∷ cs) h i few run =
      first_accepted (entry_rows n w k h i c) _ (lawful_entry n w k h c i few run.0) ∙ lawful_entries cs (parted n h c) (suc i) few run.1

  pub entries_stop : (cs : List Cut) (h : Heap) (i : ℕ) (refusal : Refusal) → n ≤ 128 → Narrows cs → first (entries_rows n w k h i cs) ≡ Err refusal → Stopped n w k h i cs refusal
  unfolding entries_rows LawfulRun left
  entries_stop [] h i refusal few narrow e = absurd (never_both (first []) refusal first_none e)
  entries_stop (c ∷ cs) h i refusal few narrow e =
      go (first (entry_rows n w k h i c)) refl (λ a. entries_stop cs (parted n h c) (suc i) refusal few narrow.1 (sym (first_accepted (entry_rows n w k h i c) _ a) ∙ e))
    where
      go : (r : Judged) → first (entry_rows n w k h i c) ≡ r → (first (entry_rows n w k h i c) ≡ Accepted → Stopped n w k (parted n h c) (suc i) cs refusal) → Stopped n w k h i (c ∷ cs) refusal
      go (Ok done) a f =
          let s = f a in
          record {
            before = c ∷ s.before;
            at = s.at;
            after = s.after;
            whole = ap (λ (ds : List Cut). c ∷ ds) s.whole;
            run = (entry_lawful n w k h c i narrow.0 a, s.run);
            wrong = s.wrong;
            row = s.row;
            here = omega (arith, s.here);
          }
      go (Err q) a f =
          let same : Err q ≡ Err refusal = sym (first-refused (entry_rows n w k h i c) _ q a) ∙ e in
          let here = entry_place n w k h c i refusal (a ∙ same) in
          record {
            before = [];
            at = c;
            after = cs;
            whole = refl;
            run = tt;
            wrong = λ law. never_both _ q (lawful_entry n w k h c i few law) a;
            row = subst (λ (x : ℕ). first (entry_rows n w k h x c) ≡ Err refusal) (sym here) (a ∙ same);
            here = omega (arith, here);
          }

-- ---- replaying a record: past an entry that is accepted, at one that is refused, and behind the last

module _ (n : ℕ) (w : Tally) (k : ℕ) (h : Heap) (c : Cut) (cs : List Cut) {rest : List Cut} (r : rest ≡ c ∷ cs) where
  pub entries_next : (h' : Heap) (i : ℕ) → h' ≡ parted n h c → first (entry_rows n w k h i c) ≡ Accepted → first (entries_rows n w k h i rest) ≡ first (entries_rows n w k h' (i + 1) cs)
  unfolding entries_rows
  entries_next h' i p e = rw (r, add-one i, p) (first_accepted (entry_rows n w k h i c) (entries_rows n w k (parted n h c) (suc i) cs) e)

  pub entries_halt : (i : ℕ) (refusal : Refusal) → first (entry_rows n w k h i c) ≡ Err refusal → first (entries_rows n w k h i rest) ≡ Err refusal
  unfolding entries_rows
  entries_halt i refusal e =
      rw r (first-refused (entry_rows n w k h i c) (entries_rows n w k (parted n h c) (suc i) cs) refusal e)

  pub left_next : (h' : Heap) → h' ≡ parted n h c → left n h rest ≡ left n h' cs
  unfolding left
  left_next h' p = rw (r, p)

pub entries_none : (n : ℕ) (w : Tally) (k : ℕ) (h : Heap) (i : ℕ) {rest : List Cut} → rest ≡ [] → first (entries_rows n w k h i rest) ≡ Accepted
unfolding entries_rows first
entries_none n w k h i r = rw r

pub left_none : (n : ℕ) (h : Heap) {rest : List Cut} → rest ≡ [] → left n h rest ≡ h
unfolding left
left_none n h r = rw r

-- a bone count over 128 means 128
pub few_rows : {r : Judged} (n : ℕ) (w : Tally) (k : ℕ) (bytes : List ℕ) → n ≤ 128 → r ≡ first (record_rows (min n 128) w k bytes) → r ≡ first (record_rows n w k bytes)
few_rows n w k bytes few e =
    let all : min n 128 ≡ n = omega arith in
    e ∙ ap (λ (m : ℕ). first (record_rows m w k bytes)) all

-- ---- row 9

module _ (n : ℕ) (w : Tally) (k : ℕ) (bytes : List ℕ) where
  pub record_broken : (length bytes % entry_size ≡ 0 → ⊥) → Refused Record 0 ≡ first (record_rows n w k bytes)
  unfolding record_rows record_row refuse first
  record_broken f = rw (ne_eqb (length bytes % entry_size) 0 f)

  pub record_long : length bytes % entry_size ≡ 0 → n - 1 < length bytes / entry_size → Refused Record 0 ≡ first (record_rows n w k bytes)
  unfolding record_rows record_row refuse first
  record_long e l = rw (eq-eqb (length bytes % entry_size) 0 e, lt-ltb (n - 1) (length bytes / entry_size) l)

  pub record_fits : length bytes % entry_size ≡ 0 → length bytes / entry_size ≤ n - 1 → first (record_rows n w k bytes) ≡ first (entries_rows n w k start 0 (cuts_of bytes))
  unfolding record_rows record_row refuse first
  record_fits e l = rw (eq-eqb (length bytes % entry_size) 0 e, le-ltb (n - 1) (length bytes / entry_size) l)
