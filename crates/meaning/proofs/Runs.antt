-- Laws of runs of lawful cuts: what every run keeps, how it goes on, and where it ends.
-- Assumes nothing.
use Prim.Native.Nat.{ℕ, suc, ◌+◌, ◌<◌}
use mathlib.Core.Path.{◌≡◌, refl, sym, ◌∙◌, ap, ap₂}
use mathlib.Core.Logic.{◌⊎◌, inl, inr, ⊎_elim}
use mathlib.Core.Bool.{Bool, false, not, cond, ◌&&◌, ◌||◌}
use mathlib.Core.List.{List, [], ◌∷◌, ◌++◌}
use native.Mathlib.Nat.{le_trans, le_of_eq}
use native.Mathlib.Omega.{arith}
use lib.Dec.{T, eqb, ltb, eqb→eq, lt→ltb}
use lib.ListN.{length}
use Rattle.meaning.specs.Count.{Bones, count}
use Rattle.meaning.specs.Tally.{Tally, weight}
use Rattle.meaning.specs.Firm.{splits, firm, group, label, groups}
use Rattle.meaning.specs.Heap.{Heap, start, pile, stands, piles, Cut, Lawful, parted, LawfulRun, left, weights, between, finished}
use Rattle.meaning.proofs.Tests.{both, left_of, decide, is_true, same_test, eq→eqb, taut, so, ◌⊃◌}
use Rattle.meaning.proofs.Sums.{sum_ext, sum_one, count_same}
use Rattle.meaning.proofs.Totals.{Symmetric, total_ext, total_none}
use Rattle.meaning.proofs.Sets.{some_intro, every_intro, every_elim, every_fails, least_is}
use Rattle.meaning.proofs.Firm.{other, splits_elim, splits_other, weight_other, weight_inside, firm_fails, firm_same}
use Rattle.meaning.proofs.Groups.{group_largest, group-firm, group_self, label_same, label-group}
use Rattle.meaning.proofs.Heaps.{pile_intro, pile_name, Named, Whole, named_start, whole-start, named-stands, named-parted, whole-parted, piles-parted, between-parted}

module _ (n : ℕ) (w : Tally) (k : ℕ) where
  -- what every heap that lawful cuts reach has: names are least bones, and no firm set is divided
  pub record Reached (h : Heap) : Type 0 where
    pub named : Named n h
    pub whole : (F : Bones) → T (firm n w k F) → Whole n h F

  pub reached_start : Reached start
  reached_start = record { named = named_start n; whole = λ F f. whole-start n F }

  pub reached_parted : (h : Heap) (c : Cut) → Lawful n w k h c → Reached h → Reached (parted n h c)
  reached_parted h c law r =
      record { named = named-parted n w k h c law r.named; whole = λ F f. whole-parted n w k h c law F f (r.whole F f) }

  pub reached_left : (cs : List Cut) (h : Heap) → LawfulRun n w k h cs → Reached h → Reached (left n h cs)
  unfolding LawfulRun left
  reached_left [] h run r = r
  reached_left (c ∷ cs) h run r = reached_left cs (parted n h c) run.1 (reached_parted h c run.0 r)

  -- runs are put together and taken apart
  pub left_append : (cs ds : List Cut) (h : Heap) → left n h (cs ++ ds) ≡ left n (left n h cs) ds
  unfolding left
  left_append [] ds h = refl
  left_append (c ∷ cs) ds h = left_append cs ds (parted n h c)

  pub run_append : (cs ds : List Cut) (h : Heap) → LawfulRun n w k h cs → LawfulRun n w k (left n h cs) ds → LawfulRun n w k h (cs ++ ds)
  unfolding LawfulRun left
  run_append [] ds h r s = s
  run_append (c ∷ cs) ds h r s = (r.0, run_append cs ds (parted n h c) r.1 s)

  pub run_front : (cs ds : List Cut) (h : Heap) → LawfulRun n w k h (cs ++ ds) → LawfulRun n w k h cs
  unfolding LawfulRun left
  run_front [] ds h r = tt
  run_front (c ∷ cs) ds h r = (r.0, run_front cs ds (parted n h c) r.1)

  pub run_rest : (cs ds : List Cut) (h : Heap) → LawfulRun n w k h (cs ++ ds) → LawfulRun n w k (left n h cs) ds
  unfolding LawfulRun left
  run_rest [] ds h r = r
  run_rest (c ∷ cs) ds h r = run_rest cs ds (parted n h c) r.1

  -- each cut adds one pile
  pub piles-left : (cs : List Cut) (h : Heap) → LawfulRun n w k h cs → Named n h → piles n (left n h cs) ≡ piles n h + length cs
  unfolding LawfulRun left
  piles-left [] h run d = omega arith
  piles-left (c ∷ cs) h run d =
      omega (arith, piles-left cs (parted n h c) run.1 (named-parted n w k h c run.0 d), piles-parted n w k h c run.0 d)

  -- each cut adds its weight to the tally between piles
  pub between_left : Symmetric w → (cs : List Cut) (h : Heap) → LawfulRun n w k h cs → Named n h → between n w (left n h cs) ≡ between n w h + weights cs
  unfolding LawfulRun left weights
  between_left s [] h run d = omega arith
  between_left s (c ∷ cs) h run d =
      omega (arith, between_left s cs (parted n h c) run.1 (named-parted n w k h c run.0 d), between-parted n w k h c run.0 s d)

  -- a heap that is not finished has a lawful cut
  pub next_cut : Symmetric w → (h : Heap) → T (not (finished n w k h)) → (c : Cut) × Lawful n w k h c
  unfolding finished stands
  next_cut s h t = oriented (decide (A p))
    where
      open_pile : (p : ℕ) × (p < n) × T (not (not (stands n h p) || firm n w k (pile n h p)))
      open_pile = every_fails n (λ p. not (stands n h p) || firm n w k (pile n h p)) t

      p : ℕ
      p = open_pile.0

      S : Bones
      S = pile n h p

      standing : T (stands n h p)
      standing = taut 2 (λ a b. not (not a || b) ⊃ so a) tt (stands n h p) (firm n w k S) open_pile.2

      light : (A : Bones) × T (splits n S A) × (weight n w S A < k)
      light = firm_fails n w k S (taut 2 (λ a b. not (not a || b) ⊃ so (not b)) tt (stands n h p) (firm n w k S) open_pile.2)

      A : Bones
      A = light.0

      -- the side of S that does not hold p
      cut_by : (B : Bones) → T (splits n S B) → weight n w S B < k → T (not (B p)) → (c : Cut) × Lawful n w k h c
      cut_by B sp l np =
          let moved : Bones = λ b. S b && B b in
          let q = splits_elim n S B sp in (
            record { name = p; weighs = weight n w S B; side = moved },
            record {
              standing = standing;
              moving = some_intro n moved q.x q.x_bone (both (S q.x) (B q.x) q.x_set q.x_side);
              staying = taut 2 (λ a b. not b ⊃ so (not (a && b))) tt (S p) (B p) np;
              within = λ b u. left_of (S b) (B b) u;
              true_weight = weight_inside n w S B;
              light = l;
            },
          )

      oriented : T (A p) ⊎ T (not (A p)) → (c : Cut) × Lawful n w k h c
      oriented (inl ap) =
          cut_by (other A) (splits_other n S A light.1) (le_trans (le_of_eq (ap-suc (weight_other n w s S A))) light.2) (taut 1 (λ a. a ⊃ so (not (not a))) tt (A p) ap)
        where
          ap-suc : {x y : ℕ} → x ≡ y → suc x ≡ suc y
          ap-suc e = λ i. suc (e i)
      oriented (inr na) = cut_by A light.1 light.2 na

  -- a finished run's names are the labels
  pub finished_labels : (h : Heap) → Reached h → T (finished n w k h) → (b : ℕ) → b < n → h b ≡ label n w k b
  unfolding finished label
  finished_labels h r t b l =
      sym (least_is n (group n w k b) (h b) name_bone
      (group_largest n w k b l (pile n h (h b)) (pile_intro n h (h b) b l refl) pile-firm (h b) name_bone (pile_intro n h (h b) (h b) name_bone (r.named b l).1))
      (λ c hc g. le_trans (le_of_eq (r.whole (group n w k b) (group-firm n w k b l) b c l hc (group_self n w k b l) g)) (r.named c hc).0))
    where
      name_bone : h b < n
      name_bone = omega (arith, (r.named b l).0)

      pile-firm : T (firm n w k (pile n h (h b)))
      pile-firm =
          taut 2 (λ a f. (not a || f) ⊃ a ⊃ so f) tt (stands n h (h b)) (firm n w k (pile n h (h b)))
          (every_elim n (λ p. not (stands n h p) || firm n w k (pile n h p)) t (h b) name_bone)
          (named-stands n h r.named b l)

  -- a heap whose names are the labels is finished
  pub labels_finished : (h : Heap) → ((b : ℕ) → b < n → h b ≡ label n w k b) → T (finished n w k h)
  unfolding finished stands
  labels_finished h e =
      every_intro n (λ p. not (stands n h p) || firm n w k (pile n h p))
      (λ p l. ⊎_elim
      (λ t. taut 2 (λ a f. f ⊃ so (not a || f)) tt (stands n h p) (firm n w k (pile n h p))
      (firm_same n w k (group n w k p) (pile n h p) (λ c hc. pile_is p l (pile_name n h p p t) c hc) (group-firm n w k p l)))
      (λ f. taut 2 (λ a f. not a ⊃ so (not a || f)) tt (stands n h p) (firm n w k (pile n h p)) f)
      (decide (stands n h p)))
    where
      pile_is : (p : ℕ) → p < n → h p ≡ p → (c : ℕ) → c < n → group n w k p c ≡ pile n h p c
      pile_is p l q c hc =
          same_test (group n w k p c) (pile n h p c)
          (λ g. pile_intro n h p c hc (e c hc ∙ sym (label_same n w k p c g) ∙ sym (e p l) ∙ q))
          (λ t. label-group n w k p c l hc (sym (e p l) ∙ q ∙ sym (pile_name n h p c t) ∙ e c hc))

  -- the piles of a heap whose names are the labels are the groups
  pub piles-groups : (h : Heap) → ((b : ℕ) → b < n → h b ≡ label n w k b) → piles n h ≡ groups n w k
  unfolding piles groups stands pile
  piles-groups h e =
      count_same n _ _ (λ b l. ap₂ ◌&&◌ (is_true (ltb b n) (lt→ltb b n l)) (ap (λ (x : ℕ). eqb x b) (e b l)))

  pub between_labels : (h : Heap) → ((b : ℕ) → b < n → h b ≡ label n w k b) → between n w h ≡ between n w (label n w k)
  unfolding between
  between_labels h e =
      total_ext n w _ _ (λ i j hi hj. ap₂ (λ (x y : ℕ). ltb i j && not (eqb x y)) (e i hi) (e j hj))

-- at the start one pile stands, and nothing lies between piles
pub piles-start : (n : ℕ) → 0 < n → piles n start ≡ 1
unfolding piles count stands pile start
piles-start n h =
    sum_ext n _ _ (λ b l. ap (λ (x : Bool). cond x 1 0) (ap₂ ◌&&◌ (is_true (ltb b n) (lt→ltb b n l)) (same_test (eqb 0 b) (eqb b 0) (λ t. eq→eqb b 0 (sym (eqb→eq 0 b t))) (λ t. eq→eqb 0 b (sym (eqb→eq b 0 t))))))
    ∙ sum_one n 0 1 h

pub between_start : (n : ℕ) (w : Tally) → between n w start ≡ 0
unfolding between start
between_start n w = total_none n w _ (λ i j hi hj. taut 1 (λ l. so (not (l && false))) tt (ltb i j))
