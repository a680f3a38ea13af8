-- A pile searched pass by pass: its bones stand in a list, the first `count` places of which lead a block, and all others were merged. What is known
-- before each pass, and what a pass makes of it: a light split of the pile, that the pile is firm, or fewer leaders.
-- Assumes nothing.
use Rattle.std.proofs.Common.{◌≡◌, ℕ, zero, suc, ◌+◌, ◌-◌, ◌^◌, ◌<◌, ◌≤◌, Bool, true, false, cond, Option, Some, None, not, ◌&&◌, T, eqb, ltb, List, get_or, sym, refl, ap, ◌∙◌, subst, ⊎_elim, le_refl, not-suc-le-zero, add-one, arith, eqb→eq, ltb→lt, nltb→le, T_not}
use mathlib.Core.Path.{fun_ext}
use lib.Dec.{eqb_refl}
use Rattle.meaning.specs.Count.{Bones, count}
use Rattle.meaning.specs.Tally.{Tally, weight}
use Rattle.meaning.specs.Firm.{splits, firm}
use Rattle.meaning.proofs.Tests.{taut, so, ◌⊃◌, decide, left_of}
use Rattle.meaning.proofs.Sums.{sum_term}
use Rattle.meaning.proofs.Firm.{weight_inside, splits_intro, splits_elim, firm_intro}
use Rattle.links.specs.Table.{held}
use Rattle.weighing.specs.Lists.{listed, Once, marked}
use Rattle.weighing.specs.Scan.{Tied, Passed}
use Rattle.weighing.specs.declared.scan.Pass.{Pass}
use Rattle.weighing.specs.Merge.{but_for, Merges, none, more, Folded, unmarked, Laid}
use Rattle.weighing.specs.Moved.{Spread}
use Rattle.weighing.proofs.Listing.{with_one, cond_yes, listed_at, listed_by, listed-place, listed_more, listed_low, listed_less, listed-not, once_less, unmarked_most, unmarked_less}
use Rattle.weighing.proofs.Rows.{merges_low}
use Rattle.weighing.proofs.Contracting.{weight_wide, bulk, Fresh, merged_weight, merged_fits}

-- a split is the same for each bone that was merged and its head
abbrev pub Even : List ℕ → List ℕ → ℕ → ℕ → Bones → Type 0
Even list into lo hi d = (j : ℕ) → lo ≤ j → j < hi → d (get_or into j 0) ≡ d (get_or list j 0)

-- two sets of bones that agree
abbrev pub Agree : Bones → Bones → Type 0
Agree X Y = (b : ℕ) → X b ≡ Y b

-- a place is below m, or not
by_place : {A : Type 0} (i m : ℕ) → (i < m → A) → (m ≤ i → A) → A
by_place i m below from = ⊎_elim (λ t. below (ltb→lt i m t)) (λ t. from (nltb→le i m t)) (decide (ltb i m))

-- ---- merges keep weights

-- where no place is unmarked, every one is marked
all_marked : (joins : List Bool) (m : ℕ) → unmarked joins m ≡ 0 → (i : ℕ) → i < m → T (marked joins i)
unfolding unmarked count
all_marked joins m e i h =
    ⊎_elim (λ t. t)
    (λ f. absurd (omega (arith, sum_term m (λ b. cond (not (marked joins b)) 1 0) i h, cond_yes (not (marked joins i)) 1 0 f)))
    (decide (marked joins i))

module _ (list into start : List ℕ) (lo hi : ℕ) (once : Once list hi) (folded : Folded list into start lo hi) where
  -- the bone in place j, merged into its head, is new to those before it
  fresh_at : (j : ℕ) → lo ≤ j → j < hi → Fresh (listed list j) (but_for (listed list (get_or start j 0)) (get_or into j 0)) (get_or into j 0) (get_or list j 0)
  fresh_at j h l =
      let a_in = listed_less list (get_or start j 0) j (get_or into j 0) (folded j h l).upto (folded j h l).stands in
      record {
        a_low = listed_low (once_less once (omega arith)) (get_or into j 0) a_in;
        b_low = once.low j l;
        a_in = a_in;
        b_out = listed-not once j j (le_refl j) l;
        a_off = taut 2 (λ r e. e ⊃ so (not (r && not e))) tt (listed list (get_or start j 0) (get_or into j 0)) (eqb (get_or into j 0) (get_or into j 0)) (eqb_refl (get_or into j 0));
        within = λ c r. listed_less list (get_or start j 0) j c (folded j h l).upto (left_of (listed list (get_or start j 0) c) _ r);
      }

  -- the bones before it that are of no other block are of the head's
  group_side : (d : Bones) → Even list into lo hi d → (j : ℕ) → lo ≤ j → j < hi → (c : ℕ) → T (listed list j c) → T (not (but_for (listed list (get_or start j 0)) (get_or into j 0) c)) → d c ≡ d (get_or into j 0)
  group_side d even j h l c t f =
      let (x, below, is) = listed-place list j c t in
      by_place x (get_or start j 0)
      (λ q. ap d (eqb→eq c _ (taut 2 (λ r e. not (r && not e) ⊃ r ⊃ so e) tt (listed list (get_or start j 0) c) (eqb c (get_or into j 0)) f (listed_by list (get_or start j 0) x c q is))))
      (λ late. ap d (sym is) ∙ sym (even x (omega (arith, (folded j h l).from)) (omega arith)) ∙ ap d ((folded j h l).alike x late below))

  -- all that were merged: the leaders' tallies fit, and weigh what all weigh
  merges_keep : {t t' : List ℕ} {j : ℕ} → lo ≤ j → bulk (held t) (listed list hi) < 2 ^ 32 → Merges list into start hi t j t'
      → (bulk (held t') (listed list j) < 2 ^ 32) × ((d : Bones) → Even list into lo hi d → weight 128 (held t') (listed list j) d ≡ weight 128 (held t) (listed list hi) d)
  merges_keep h fits none = (fits, λ d even. refl)
  merges_keep h fits (more {lo = j} {t' = t₁} {t'' = t₂} m row) =
      let less : j < hi = omega (arith, merges_low m) in
      let fresh = fresh_at j h less in
      let (room, same) = merges_keep (omega arith) fits m in
      let one : bulk (held t₁) (with_one (listed list j) (get_or list j 0)) < 2 ^ 32 = rw (← listed_more list j) room in (
        merged_fits t₁ t₂ (listed list j) _ (get_or into j 0) _ fresh row one,
        λ d even. merged_weight t₁ t₂ (listed list j) _ (get_or into j 0) _ fresh row one d (even j h less) (group_side d even j h less) ∙ (rw (← listed_more list j) (same d even)),
      )

-- ---- a pile in the midst of its passes

-- t₀ is the table as it was, t as it is
pub record Contracted (k : ℕ) (t₀ t list into start : List ℕ) (count size : ℕ) : Type 0 where
  pub some_bones : 0 < count
  pub few : count ≤ size
  pub once : Once list size
  pub folded : Folded list into start count size
  pub merges : Merges list into start size t₀ count t
  pub kept : bulk (held t₀) (listed list size) < 2 ^ 32 → (d : Bones) → weight 128 (held t₀) (listed list size) d < k → Even list into count size d

-- sides that agree on S
pub weight_on : (n : ℕ) (w : Tally) (S A B : Bones) → ((b : ℕ) → T (S b) → A b ≡ B b) → weight n w S A ≡ weight n w S B
weight_on n w S A B e =
    weight_inside n w S A
    ∙ ap (weight n w S) (fun_ext (λ b. on (S b) (A b) (B b) (e b)))
    ∙ sym (weight_inside n w S B)
  where
    on : (s a c : Bool) → (T s → a ≡ c) → (s && a) ≡ (s && c)
    on true a c f = f tt
    on false a c f = refl

-- a light split of the bones of S
pub record Light (n k : ℕ) (w : Tally) (S d : Bones) (weighs : ℕ) : Type 0 where
  pub true_weight : weighs ≡ weight n w S d
  pub is_light : weighs < k
  pub parts : T (splits n S d)

merges_on : {list into start : List ℕ} {hi mid : ℕ} {t t₁ : List ℕ} {lo : ℕ} {t₂ : List ℕ} → Merges list into start hi t mid t₁ → Merges list into start mid t₁ lo t₂ → Merges list into start hi t lo t₂
merges_on m none = m
merges_on m (more n row) = more (merges_on m n) row

-- lists with the same bones in their first `count` places, and from there on the same in each place
listed_on : (xs ys : List ℕ) (count : ℕ) → listed xs count ≡ listed ys count → ((j : ℕ) → count ≤ j → get_or ys j 0 ≡ get_or xs j 0) → (m : ℕ) → count ≤ m → listed xs m ≡ listed ys m
listed_on xs ys count e rest zero h = let all : count ≡ 0 = omega arith in rw all at e
listed_on xs ys count e rest (suc m) h =
    by_place m count (λ l. let all : count ≡ suc m = omega arith in rw all at e)
    (λ g. rw (← add-one m, listed_more xs m, listed_more ys m, rest m g, listed_on xs ys count e rest m g))

module _ {k : ℕ} {t₀ t list into start : List ℕ} {count size : ℕ} (s : Contracted k t₀ t list into start count size) where
  -- a split that is even weighs what it weighs among the leaders
  leaders_weigh : bulk (held t₀) (listed list size) < 2 ^ 32 → (d : Bones) → Even list into count size d → weight 128 (held t) (listed list count) d ≡ weight 128 (held t₀) (listed list size) d
  leaders_weigh fits = (merges_keep list into start count size s.once s.folded (le_refl count) fits s.merges).1

  -- where an even split is the same for all leaders, it is the same for all bones
  spreads : (d : Bones) (v : Bool) → Even list into count size d → ((i : ℕ) → i < count → d (get_or list i 0) ≡ v) → (m i : ℕ) → i < m → i < size → d (get_or list i 0) ≡ v
  spreads d v even all zero i h l = absurd (not-suc-le-zero h)
  spreads d v even all (suc m) i h l =
      by_place i count (all i)
      (λ low. let (x, below, is) = listed-place list (get_or start i 0) (get_or into i 0) (s.folded i low l).stands in
      let before = (s.folded i low l).upto in
      sym (even i low l) ∙ ap d (sym is) ∙ spreads d v even all m x (omega arith) (omega arith))

  module _ {order : List ℕ} {joins : List Bool} {split : Option Pass} (p : Passed (held t) k list order joins count split) where
    -- a light split of the pile ties what the pass tied
    even_tied : split ≡ None → bulk (held t₀) (listed list size) < 2 ^ 32 → (d : Bones) → weight 128 (held t₀) (listed list size) d < k → (i : ℕ) → i + 1 < count → T (marked joins i) → d (get_or order (i + 1) 0) ≡ d (get_or order i 0)
    unfolding Tied
    even_tied dark fits d less i h m = (rw dark at p.found).0 i h m d (omega (arith, leaders_weigh fits d (s.kept fits d less)))

    -- all bones tied to the one before: the pile, whose bones are below n, is firm
    pub pass_firm : (n : ℕ) → n ≤ 128 → ((b : ℕ) → T (listed list size b) → b < n) → split ≡ None → unmarked joins (count - 1) + 1 ≡ 1 → bulk (held t₀) (listed list size) < 2 ^ 32 → T (firm n (held t₀) k (listed list size))
    pass_firm n few below dark one fits =
        firm_intro n (held t₀) k (listed list size)
        (λ A cut. let e = splits_elim n (listed list size) A cut in
        rw (← weight_wide n few (held t₀) (listed list size) A below)
        (by_place _ k (λ less. absurd (T_not (A e.y) e.y_side (subst T (all A less e.x e.x_set ∙ sym (all A less e.y e.y_set)) e.x_side))) (λ heavy. heavy)))
      where
        -- from place to place
        run : (A : Bones) → weight 128 (held t₀) (listed list size) A < k → (i : ℕ) → i < count → A (get_or order i 0) ≡ A (get_or order 0 0)
        run A less zero h = refl
        run A less (suc i) h =
            rw (← add-one i) (even_tied dark fits A less i (omega arith) (all_marked joins (count - 1) (omega arith) i (omega arith)) ∙ run A less i (omega arith))

        -- so all leaders are on one side, and all bones with them
        all : (A : Bones) → weight 128 (held t₀) (listed list size) A < k → (b : ℕ) → T (listed list size b) → A b ≡ A (get_or order 0 0)
        all A less b q =
            let led : (i : ℕ) → i < count → A (get_or list i 0) ≡ A (get_or order 0 0) = λ i h.
            let (x, below, is) = listed-place order count (get_or list i 0) (rw p.ordered.same (listed_at list count i h)) in
            ap A (sym is) ∙ run A less x below in
            let (x, below, is) = listed-place list size b q in
            ap A (sym is) ∙ spreads A _ (s.kept fits A less) led (suc x) x (le_refl (suc x)) below

    -- a light split of the pile: the free leaders, with all that were merged into them
    pub pass_light : (n : ℕ) → n ≤ 128 → ((b : ℕ) → T (listed list size b) → b < n) → {s : Pass} → split ≡ Some s → (marks : List Bool) → Spread order s.left list into count size marks → bulk (held t₀) (listed list size) < 2 ^ 32 → Light n k (held t₀) (listed list size) (marked marks) s.weight
    pass_light n few below {s = found} lit marks m fits =
        let (some_left, some-taken, weighed, less) = rw lit at p.found in
        let led : (i : ℕ) → i < count → T (listed list count (get_or order i 0)) = λ i h. rw p.ordered.same at (listed_at order count i h) in
        let left = found.left in
        let first = listed_less list count size _ s.few (led 0 (omega arith)) in
        let last = listed_less list count size _ s.few (led left some-taken) in
        record {
          true_weight = weighed ∙ sym (weight_on 128 (held t) (listed list count) (marked marks) (listed order left) m.led) ∙ leaders_weigh fits (marked marks) m.same ∙ weight_wide n few (held t₀) (listed list size) (marked marks) below;
          is_light = less;
          parts = splits_intro n (listed list size) (marked marks) (get_or order 0 0) (get_or order left 0) (below _ first) (below _ last) first (rw (m.led _ (led 0 (omega arith))) (listed_at order left 0 some_left)) last
              (rw (m.led _ (led left some-taken)) (listed-not p.ordered.once left left (le_refl left) some-taken));
        }

    -- the bones laid out anew: the heads lead, and places from `count` on are as they were
    module _ (dark : split ≡ None) {heads : ℕ} (is : heads ≡ unmarked joins (count - 1) + 1) where
      pub heads_few : heads ≤ count
      heads_few = omega (arith, unmarked_most joins (count - 1), s.some_bones)

      pub heads_fewer : (heads ≡ 1 → ⊥) → heads < count
      heads_fewer many =
          let more-than-one : 1 < count = omega (arith, heads_few, s.some_bones) in
          omega (arith, unmarked_less joins (count - 1) ((rw dark at p.found).1 more-than-one) (omega arith))

      module _ {list' into' start' : List ℕ} (laid : Laid order joins count heads list into start list' into' start') where
        pub later_same : (m : ℕ) → count ≤ m → listed list m ≡ listed list' m
        later_same = listed_on list list' count (sym (fun_ext (λ b. laid.same b ∙ p.ordered.same b))) (λ j g. (laid.rest j g).0)

        later_once : Once list' size
        later_once =
            record {
              long = laid.once.long;
              few = s.once.few;
              low = λ i h. by_place i count (laid.once.low i) (λ g. rw (laid.rest i g).0 (s.once.low i h));
              once = λ i j hi hj e. by_place i j (λ h. absurd (apart i j h hj e)) (λ h. by_place j i (λ g. absurd (apart j i g hi (sym e))) (λ g. omega arith));
            }
          where
            apart : (i j : ℕ) → i < j → j < size → get_or list' i 0 ≡ get_or list' j 0 → ⊥
            apart i j h l e =
                by_place j count (λ c. omega (arith, laid.once.once i j (omega arith) c e))
                (λ g. T_not (listed list j (get_or list j 0)) (listed-not s.once j j (le_refl j) l) (rw (later_same j g) (listed_by list' j i (get_or list j 0) h (e ∙ (laid.rest j g).0))))

        later_folded : Folded list' into' start' heads size
        later_folded j h l =
            by_place j count (laid.folded j h)
            (λ q. let f = s.folded j q l in
            rw ((laid.rest j q).1, (laid.rest j q).2)
            (record {
              from = omega (arith, f.from, heads_few);
              upto = f.upto;
              stands = rw (← later_same (get_or start j 0) f.from) f.stands;
              alike = λ x a b. (laid.rest x (omega (arith, f.from))).1 ∙ f.alike x a b;
            }))

        -- what was merged before is merged as the lists stand now
        merges_along : {t : List ℕ} {j : ℕ} {t' : List ℕ} → count ≤ j → Merges list into start size t j t' → Merges list' into' start' size t j t'
        merges_along h none = none
        merges_along h (more {lo = j} {t'' = t₂} m row) =
            more {t'' = t₂} (merges_along (omega arith) m)
            (rw ((laid.rest j h).1, (laid.rest j h).0, (laid.rest j h).2, ← later_same (get_or start j 0) (s.folded j h (omega (arith, merges_low m))).from) row)

        -- the groups are merged: fewer leaders
        pub pass_more : {t' : List ℕ} → Merges list' into' start' count t heads t' → Contracted k t₀ t' list' into' start' heads size
        pass_more m =
            let whole = later_same size s.few in
            record {
              some_bones = omega arith;
              few = omega (arith, heads_few, s.few);
              once = later_once;
              folded = later_folded;
              merges = merges_on (merges_along (le_refl count) s.merges) m;
              kept = λ fits d less j h l.
                  let fits' : bulk (held t₀) (listed list size) < 2 ^ 32 = rw whole fits in
                  let less' : weight 128 (held t₀) (listed list size) d < k = rw whole less in
                  by_place j count (laid.joined d (even_tied dark fits' d less') j h) (λ q. rw ((laid.rest j q).1, (laid.rest j q).0) (s.kept fits' d less' j q l));
            }
