-- Laws of cutting to the end: when a search shows that a run is finished, which piles stay firm after a cut, and that the cuts never
-- outgrow the record space.
-- Assumes nothing.
use Prim.Native.Nat.{ℕ, ◌+◌, ◌-◌, ◌≤◌, ◌<◌, zero-le, min}
use mathlib.Core.Path.{◌≡◌, sym, ◌∙◌, ap, subst}
use mathlib.Core.Logic.{⊎_elim}
use mathlib.Core.Bool.{Bool, true, false, not, ◌||◌}
use mathlib.Core.List.{List}
use native.Mathlib.Omega.{arith}
use lib.Dec.{T, ltb, ltb→lt, nltb→le, T_not, not_T}
use lib.ListN.{length}
use Rattle.std.specs.Prelude.{Option, Some, None, is_some}
use Rattle.meaning.specs.Count.{least}
use Rattle.meaning.specs.Tally.{Tally}
use Rattle.meaning.specs.Firm.{firm, label, groups}
use Rattle.meaning.specs.Heap.{Heap, start, Cut, Lawful, LawfulRun, parted, pile, stands, piles, left, finished}
use Rattle.meaning.proofs.Tests.{decide, is_true, is_false, same_test, taut, so, ◌⊃◌}
use Rattle.meaning.proofs.Sums.{count_most}
use Rattle.meaning.proofs.Sets.{some_elim, every_intro, every_elim, least_in}
use Rattle.meaning.proofs.Firm.{firm_same}
use Rattle.meaning.proofs.Heaps.{lawful_not_firm, Named, pile_intro, pile_bone, pile_name, parted_moved, parted-stays, named_start, piles-parted}
use Rattle.meaning.proofs.Runs.{Reached, reached_start, reached_left, piles-left, piles-start, piles-groups, finished_labels}
use Rattle.weighing.specs.declared.search.Split.{Split}
use Rattle.links.specs.Table.{held}
use Rattle.weighing.specs.Search.{Small, FirmPiles, Searched, cut_of}

module _ (n : ℕ) (w : Tally) (k : ℕ) (h : Heap) where
  -- every pile is firm
  pub firm-finished : FirmPiles n w k h 0 n → T (finished n w k h)
  unfolding finished FirmPiles
  firm-finished f =
      every_intro n (λ p. not (stands n h p) || firm n w k (pile n h p))
      (λ p l. ⊎_elim
      (λ t. taut 2 (λ a b. b ⊃ so (not a || b)) tt (stands n h p) (firm n w k (pile n h p)) (f p zero-le l t))
      (λ t. taut 2 (λ a b. not a ⊃ so (not a || b)) tt (stands n h p) (firm n w k (pile n h p)) t)
      (decide (stands n h p)))

  module _ (c : Cut) (law : Lawful n w k h c) where
    in_pile : T (pile n h c.name c.name)
    unfolding stands
    in_pile = law.standing

    name_bone : c.name < n
    name_bone = pile_bone n h c.name c.name in_pile

    pub not-firm : T (firm n w k (pile n h c.name)) → ⊥
    not-firm = lawful_not_firm n w k h c law

    pub lawful_unfinished : T (not (finished n w k h))
    unfolding finished
    lawful_unfinished =
        not_T (finished n w k h)
        (λ t. not-firm (taut 2 (λ a b. (not a || b) ⊃ a ⊃ so b) tt (stands n h c.name) (firm n w k (pile n h c.name))
        (every_elim n (λ p. not (stands n h p) || firm n w k (pile n h p)) t c.name name_bone) law.standing))

    -- the new pile's name is above that of the pile that is cut
    name_above : Named n h → c.name < least n c.side
    name_above d =
        let moved = some_elim n c.side law.moving in
        let new = (least_in n c.side moved.0 moved.1 moved.2).0 in
        let inside = law.within (least n c.side) new in
        let at_most = (d (least n c.side) (pile_bone n h c.name (least n c.side) inside)).0 in
        let same = pile_name n h c.name (least n c.side) inside in
        ⊎_elim (ltb→lt c.name (least n c.side))
        (λ t. let e : least n c.side ≡ c.name = omega (arith, nltb→le c.name (least n c.side) t) in
        absurd (T_not (c.side c.name) law.staying (subst (λ (x : ℕ). T (c.side x)) e new)))
        (decide (ltb c.name (least n c.side)))

    -- the piles below it are as they were
    pile_below : Named n h → (p : ℕ) → p < c.name → (b : ℕ) → pile n h p b ≡ pile n (parted n h c) p b
    pile_below d p l b =
        same_test (pile n h p b) (pile n (parted n h c) p b)
        (λ t. let stays = not_T (c.side b) (λ s. absurd (omega (arith, pile_name n h p b t, pile_name n h c.name b (law.within b s)))) in
        pile_intro n (parted n h c) p b (pile_bone n h p b t) (parted-stays n h c b stays ∙ pile_name n h p b t))
        (λ t. let e = pile_name n (parted n h c) p b t in
        let stays = not_T (c.side b) (λ s. absurd (omega (arith, e, parted_moved n h c b s, name_above d))) in
        pile_intro n h p b (pile_bone n (parted n h c) p b t) (sym (parted-stays n h c b stays) ∙ e))

    -- so those of them that are firm stay so
    pub firm-kept : Named n h → (from : ℕ) → FirmPiles n w k h 0 from → FirmPiles n w k (parted n h c) 0 from
    unfolding FirmPiles stands
    firm-kept d from below p z m t =
        let above : from ≤ c.name = ⊎_elim (λ u. absurd (not-firm (below c.name zero-le (ltb→lt c.name from u) in_pile))) (λ u. nltb→le c.name from u) (decide (ltb c.name from)) in
        let same = pile_below d p (omega (arith, above, m)) in
        firm_same n w k (pile n h p) (pile n (parted n h c) p) (λ b q. same b) (below p z m (subst T (sym (same p)) t))

    pub firm-stays : Named n h → (from : ℕ) → from ≤ c.name → FirmPiles n w k h 0 from → FirmPiles n w k h from c.name → FirmPiles n w k (parted n h c) 0 c.name
    unfolding FirmPiles stands
    firm-stays d from l below above p z m t =
        let same = pile_below d p m in
        let stood = subst T (sym (same p)) t in
        firm_same n w k (pile n h p) (pile n (parted n h c) p) (λ b q. same b)
        (⊎_elim (λ u. below p zero-le (ltb→lt p from u) stood) (λ u. above p (nltb→le p from u) m stood) (decide (ltb p from)))

module _ (n : ℕ) (w : Tally) (k : ℕ) (some_bones : 0 < n) (cs : List Cut) (run : LawfulRun n w k start cs) where
  pub reached : Reached n w k (left n start cs)
  reached = reached_left n w k cs start run (reached_start n w k)

  -- so many cuts, and one pile more
  pub piles_run : piles n (left n start cs) ≡ 1 + length cs
  piles_run = piles-left n w k cs start run (named_start n) ∙ ap (λ (x : ℕ). x + length cs) (piles-start n some_bones)

  pub cuts_most : length cs ≤ n - 1
  unfolding piles
  cuts_most = omega (arith, piles_run, count_most n (stands n (left n start cs)))

  -- where a lawful cut is left, there is room for it
  pub cuts_room : (c : Cut) → Lawful n w k (left n start cs) c → length cs < n - 1
  unfolding piles
  cuts_room c law =
      omega (arith, piles_run, piles-parted n w k (left n start cs) c law reached.named, count_most n (stands n (parted n (left n start cs) c)))

  -- a finished run's names are the labels, and its cuts one less than the groups
  pub run_labels : T (finished n w k (left n start cs)) → (b : ℕ) → b < n → left n start cs b ≡ label n w k b
  run_labels t = finished_labels n w k (left n start cs) reached t

  pub run_groups : T (finished n w k (left n start cs)) → piles n (left n start cs) ≡ groups n w k
  run_groups t = piles-groups n w k (left n start cs) (run_labels t)

  pub run_cuts : T (finished n w k (left n start cs)) → groups n w k - 1 ≡ length cs
  run_cuts t = omega (arith, run_groups t, piles_run)

-- what a search of a small table says, among no more than 128 bones
pub searched_few : (n : ℕ) (t t₀ : List ℕ) (k : ℕ) (h : Heap) (from : ℕ) (r : Option Split) → n ≤ 128 → Small n t₀ → t ≡ t₀ → (Small (min n 128) t → Searched (min n 128) (held t) k h from r) → Searched n (held t₀) k h from r
searched_few n t t₀ k h from r few small e s =
    let all : min n 128 ≡ n = omega arith in
    subst (λ (m : ℕ). Small m t₀ → Searched m (held t₀) k h from r) all (subst (λ (x : List ℕ). Small (min n 128) x → Searched (min n 128) (held x) k h from r) e s) small

-- and from 0 on of the run: it is finished where nothing is found
pub searched_finished : (n : ℕ) (w : Tally) (k : ℕ) (h : Heap) (r : Option Split) (b : Bool) → Searched n w k h 0 r → is_some r ≡ not b → b ≡ finished n w k h
unfolding Searched
searched_finished n w k h (Some r) true s e = absurd (subst T e tt)
searched_finished n w k h (Some r) false s e = sym (is_false (finished n w k h) (lawful_unfinished n w k h (cut_of r) s.0))
searched_finished n w k h None true s e = sym (is_true (finished n w k h) (firm-finished n w k h s))
searched_finished n w k h None false s e = absurd (subst T (sym e) tt)
