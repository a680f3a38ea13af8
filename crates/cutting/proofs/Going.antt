-- Laws of the loop that cuts to the end: what holds before each search, and that a cut keeps it.
-- Assumes nothing.
use Prim.Native.Nat.{ℕ, ◌+◌, ◌*◌, ◌-◌, ◌/◌, ◌≤◌, ◌<◌, zero-le, min}
use mathlib.Core.Path.{◌≡◌, refl, sym, ◌∙◌, ap, subst}
use mathlib.Core.Logic.{⊎_elim}
use mathlib.Core.List.{List, [], ◌∷◌, ◌++◌}
use native.Mathlib.Nat.{le_refl, not-suc-le-zero}
use native.Mathlib.Omega.{arith}
use lib.Dec.{ltb, ltb→lt, nltb→le}
use lib.ListN.{length, take, drop}
use lib.Seq.{take-take, drop-drop}
use Rattle.meaning.specs.Tally.{Tally}
use Rattle.meaning.specs.Heap.{Heap, start, Cut, Lawful, LawfulRun, parted, left}
use Rattle.meaning.proofs.Tests.{decide}
use Rattle.meaning.proofs.Heaps.{Named}
use Rattle.meaning.proofs.Runs.{left_append, run_append}
use Rattle.weighing.specs.Side.{heap_of}
use Rattle.std.specs.Prelude.{Option, Some, None}
use Rattle.links.specs.Table.{held}
use Rattle.weighing.specs.declared.search.Split.{Split}
use Rattle.weighing.specs.Degrees.{Loosed}
use Rattle.weighing.specs.Search.{Small, FirmPiles, Searched, cut_of}
use Rattle.cutting.specs.declared.record.Entry.{Entry}
use Rattle.cutting.specs.Record.{entry_size, entry_put, entry_cut, cuts_in}
use Rattle.cutting.specs.Finish.{Begun, Ended, Going, Peeled}
use Rattle.cutting.proofs.Entries.{length_put, put_before, put_behind}
use Rattle.cutting.proofs.Cuts.{length_cuts, cuts_put}
use Rattle.cutting.proofs.Finish.{firm-finished, firm-stays, firm-kept, reached, cuts_most, cuts_room, searched_few}

-- a lawful cut, of the first pile named `from` or more that has one
abbrev pub Found : ℕ → Tally → ℕ → Heap → ℕ → Cut → Type 0
Found n w k h from c = Lawful n w k h c × (from ≤ c.name) × FirmPiles n w k h from c.name

pub going_start : {n : ℕ} {w : Tally} {k : ℕ} {names space : List ℕ} {cuts : ℕ} → Begun n w k names space cuts → Going n w k space cuts names space cuts 0
unfolding FirmPiles
going_start {cuts = cuts} b =
    record {
      some_bones = b.some_bones;
      room = b.room;
      more = le_refl cuts;
      run = b.run;
      heap = b.heap;
      names_long = b.names_long;
      firm_below = λ p l m. absurd (not-suc-le-zero m);
      front = refl;
      rest = refl;
      long = refl;
    }

module _ {n : ℕ} {w : Tally} {k : ℕ} {space₀ : List ℕ} {cuts₀ : ℕ} {names space : List ℕ} {cuts from : ℕ} (g : Going n w k space₀ cuts₀ names space cuts from) where
  -- a run has fewer cuts than there are bones
  pub going_few : cuts < n
  going_few = omega (arith, cuts_most n w k g.some_bones (cuts_in cuts space) g.run, length_cuts cuts space, g.some_bones)

  -- a lawful cut of the heap as it stands finds room in the space
  pub going_room : (c : Cut) → Lawful n w k (heap_of names) c → cuts < n - 1
  going_room c law =
      let fits = cuts_room n w k g.some_bones (cuts_in cuts space) g.run c (subst (λ (h : Heap). Lawful n w k h c) g.heap law) in
      omega (arith, fits, length_cuts cuts space)

  -- each pile bears the name of its least bone
  going_named : Named n (heap_of names)
  going_named = subst (Named n) (sym g.heap) (reached n w k g.some_bones (cuts_in cuts space) g.run).named

  -- the piles that are firm after a cut: those before the pile that a search found, or those that were
  pub firm_found : (c : Cut) → Found n w k (heap_of names) from c → FirmPiles n w k (parted n (heap_of names) c) 0 c.name
  firm_found c found = firm-stays n w k (heap_of names) c found.0 going_named from found.1 g.firm_below found.2

  pub firm_peeled : (c : Cut) → Lawful n w k (heap_of names) c → FirmPiles n w k (parted n (heap_of names) c) 0 from
  firm_peeled c law = firm-kept n w k (heap_of names) c law going_named from g.firm_below

  pub going_next : (e : Entry) (names' : List ℕ) (from' : ℕ) → length e.side ≡ 16 → Lawful n w k (heap_of names) (entry_cut e) → heap_of names' ≡ parted n (heap_of names) (entry_cut e) → length names' ≡ 128
      → FirmPiles n w k (parted n (heap_of names) (entry_cut e)) 0 from' → Going n w k space₀ cuts₀ names' (entry_put space cuts e) (cuts + 1) from'
  unfolding LawfulRun left
  going_next e names' from' wide law p long firm =
      let cs : List Cut = cuts_in cuts space in
      let fits = going_room (entry_cut e) law in
      let inside : cuts < length space / entry_size = omega (arith, g.long, g.room) in
      let grown : cuts_in (cuts + 1) (entry_put space cuts e) ≡ cs ++ entry_cut e ∷ [] = cuts_put cuts space e inside wide in
      let here : Lawful n w k (left n start cs) (entry_cut e) = subst (λ (h : Heap). Lawful n w k h (entry_cut e)) g.heap law in
      record {
        some_bones = g.some_bones;
        room = g.room;
        more = omega (arith, g.more);
        run = subst (LawfulRun n w k start) (sym grown) (run_append n w k cs (entry_cut e ∷ []) start g.run (here, tt));
        heap = p ∙ ap (λ (h : Heap). parted n h (entry_cut e)) g.heap ∙ sym (left_append n w k cs (entry_cut e ∷ []) start) ∙ ap (left n start) (sym grown);
        names_long = long;
        firm_below = subst (λ (h : Heap). FirmPiles n w k h 0 from') (sym p) firm;
        front = front_put e inside ∙ g.front;
        rest = rest_put e inside wide;
        long = length_put space cuts e wide ∙ g.long;
      }
    where
      front_put : (e : Entry) → cuts < length space / entry_size → take (cuts₀ * entry_size) (entry_put space cuts e) ≡ take (cuts₀ * entry_size) space
      front_put e inside =
          let below : cuts₀ * entry_size ≤ cuts * entry_size = omega (arith, g.more) in
          sym (take-take (cuts₀ * entry_size) (cuts * entry_size) (entry_put space cuts e) below)
          ∙ ap (take (cuts₀ * entry_size)) (put_before space cuts e inside)
          ∙ take-take (cuts₀ * entry_size) (cuts * entry_size) space below

      rest_put : (e : Entry) → cuts < length space / entry_size → length e.side ≡ 16 → drop ((cuts + 1) * entry_size) (entry_put space cuts e) ≡ drop ((cuts + 1) * entry_size) space₀
      rest_put e inside wide =
          let step : (cuts + 1) * entry_size ≡ cuts * entry_size + entry_size = omega arith in
          ap (λ (m : ℕ). drop m (entry_put space cuts e)) step
          ∙ put_behind space cuts e inside wide
          ∙ sym (drop-drop entry_size (cuts * entry_size) space)
          ∙ ap (drop entry_size) g.rest
          ∙ drop-drop entry_size (cuts * entry_size) space₀
          ∙ ap (λ (m : ℕ). drop m space₀) (sym step)

  -- no light split is left
  pub going_end : FirmPiles n w k (heap_of names) from n → Ended n w k space₀ cuts₀ names space cuts
  unfolding FirmPiles
  going_end above =
      record {
        more = g.more;
        run = g.run;
        heap = g.heap;
        done = firm-finished n w k (heap_of names) (λ p z l t. ⊎_elim (λ u. g.firm_below p zero-le (ltb→lt p from u) t) (λ u. above p (nltb→le p from u) l t) (decide (ltb p from)));
        front = g.front;
        rest = g.rest;
        long = g.long;
      }

-- nothing was cut; one after the other
pub peeled_none : (n : ℕ) (w : Tally) (k : ℕ) (names space : List ℕ) (cuts m : ℕ) → Peeled n w k names space cuts names space cuts m
peeled_none n w k names space cuts m = record { on = λ s c f g. g; more = le_refl cuts; most = omega arith }

pub peeled_on : {n : ℕ} {w : Tally} {k : ℕ} {names names' names'' space space' space'' : List ℕ} {cuts cuts' cuts'' m m' : ℕ} → Peeled n w k names space cuts names' space' cuts' m → Peeled n w k names' space' cuts' names'' space'' cuts'' m' → Peeled n w k names space cuts names'' space'' cuts'' (m + m')
peeled_on a b =
    record {
      on = λ s c f g. b.on s c f (a.on s c f g);
      more = omega (arith, a.more, b.more);
      most = omega (arith, a.most, b.most);
    }

-- the run goes on over a table that is as it came
pub peeled_going : {n : ℕ} {t t₀ : List ℕ} {k : ℕ} {names names' space space' space₀ : List ℕ} {cuts cuts' cuts₀ m from : ℕ} → t ≡ t₀ → Peeled n (held t) k names space cuts names' space' cuts' m
    → Going n (held t₀) k space₀ cuts₀ names space cuts from → Going n (held t₀) k space₀ cuts₀ names' space' cuts' from
peeled_going {n} {t} {t₀} {k} {names} {names'} {space} {space'} {space₀} {cuts} {cuts'} {cuts₀} {m} {from} e p g =
    (subst (λ (x : List ℕ). Peeled n (held x) k names space cuts names' space' cuts' m) e p).on space₀ cuts₀ from g

-- a split that a search found, none that it found, and one that parts a bone from the rest, among no more than 128 bones
module _ {n : ℕ} {t t₀ : List ℕ} (k : ℕ) (h : Heap) (from : ℕ) {r : Option Split} (few : n ≤ 128) (small : Small n t₀) (e : t ≡ t₀) (s : Small (min n 128) t → Searched (min n 128) (held t) k h from r) where
  pub found_split : {split : Split} → r ≡ Some split → Found n (held t₀) k h from (cut_of split)
  unfolding Searched cut_of
  found_split found = subst (Searched n (held t₀) k h from) found (searched_few n t t₀ k h from r few small e s)

  pub none_found : r ≡ None → FirmPiles n (held t₀) k h from n
  unfolding Searched
  none_found none = subst (Searched n (held t₀) k h from) none (searched_few n t t₀ k h from r few small e s)

pub loosed_lawful : {n : ℕ} {w : Tally} {k : ℕ} {h : Heap} (u : ℕ) {r : Option Split} {split : Split} → n ≤ 128 → Loosed (min n 128) w k h u r → r ≡ Some split → Lawful n w k h (cut_of split)
unfolding Loosed
loosed_lawful {n} {w} {k} {h} u {r} {split} few l e =
    let all : min n 128 ≡ n = omega arith in
    subst (λ (m : ℕ). Lawful m w k h (cut_of split)) all (subst (Loosed (min n 128) w k h u) e l).0
