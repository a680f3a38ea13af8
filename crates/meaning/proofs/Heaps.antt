-- Laws of one lawful cut: names stay the piles' least bones, no firm set is divided, one pile more stands, and the tally between piles
-- grows by the cut's weight.
-- Assumes nothing.
use Prim.Native.Nat.{ℕ, ◌+◌, ◌≤◌, ◌<◌, zero-le}
use mathlib.Core.Path.{◌≡◌, refl, sym, ◌∙◌, ap, ap₂, subst}
use mathlib.Core.Logic.{◌⊎◌, inl, inr, ⊎_elim}
use mathlib.Core.Bool.{Bool, not, cond, ◌&&◌, ◌||◌}
use native.Mathlib.Nat.{le_trans, le_of_eq}
use native.Mathlib.Omega.{arith}
use lib.Dec.{T, eqb, ltb, eqb→eq, ltb→lt, lt→ltb, T_not, not_T}
use Rattle.meaning.specs.Count.{Bones, least, count, sum}
use Rattle.meaning.specs.Tally.{Tally, total, weight}
use Rattle.meaning.specs.Firm.{firm}
use Rattle.meaning.specs.Heap.{Heap, start, pile, stands, piles, Cut, Lawful, parted, between}
use Rattle.meaning.proofs.Tests.{both, left_of, right_of, decide, is_true, is_false, same_test, eq→eqb, ne→neqb, neqb→ne, taut, so, ◌⊃◌, ◌⇒◌, imp}
use Rattle.meaning.proofs.Sums.{sum_ext, sum-add, sum_one}
use Rattle.meaning.proofs.Totals.{parts, Symmetric, total_parts, total_turn, total-pair}
use Rattle.meaning.proofs.Sets.{some_elim, least_in}
use Rattle.meaning.proofs.Firm.{Within, firm_parts, firm_elim, splits_intro}

-- ---- piles

pub pile_intro : (n : ℕ) (h : Heap) (p b : ℕ) → b < n → h b ≡ p → T (pile n h p b)
unfolding pile
pile_intro n h p b l e = both (ltb b n) (eqb (h b) p) (lt→ltb b n l) (eq→eqb (h b) p e)

pub pile_bone : (n : ℕ) (h : Heap) (p b : ℕ) → T (pile n h p b) → b < n
unfolding pile
pile_bone n h p b t = ltb→lt b n (left_of (ltb b n) (eqb (h b) p) t)

pub pile_name : (n : ℕ) (h : Heap) (p b : ℕ) → T (pile n h p b) → h b ≡ p
unfolding pile
pile_name n h p b t = eqb→eq (h b) p (right_of (ltb b n) (eqb (h b) p) t)

-- each bone's name is a bone of its own pile, and the least
abbrev pub Named : ℕ → Heap → Type 0
Named n h = (b : ℕ) → b < n → (h b ≤ b) × (h (h b) ≡ h b)

-- a set that stands in one pile
abbrev pub Whole : ℕ → Heap → Bones → Type 0
Whole n h F = (x y : ℕ) → x < n → y < n → T (F x) → T (F y) → h x ≡ h y

pub named_start : (n : ℕ) → Named n start
unfolding start
named_start n b l = (zero-le, refl)

pub whole-start : (n : ℕ) (F : Bones) → Whole n start F
unfolding start
whole-start n F x y hx hy fx fy = refl

pub named-stands : (n : ℕ) (h : Heap) → Named n h → (b : ℕ) → b < n → T (stands n h (h b))
unfolding stands
named-stands n h d b l = pile_intro n h (h b) (h b) (omega (arith, (d b l).0)) (d b l).1

-- two bones in different piles
apart : Heap → ℕ → ℕ → Bool
apart g i j = not (eqb (g i) (g j))

together : (g : Heap) (i j : ℕ) → g i ≡ g j → T (not (apart g i j))
unfolding apart
together g i j e = taut 1 (λ x. x ⊃ so (not (not x))) tt (eqb (g i) (g j)) (eq→eqb (g i) (g j) e)

joined : (g : Heap) (i j : ℕ) → T (not (apart g i j)) → g i ≡ g j
unfolding apart
joined g i j t = eqb→eq (g i) (g j) (taut 1 (λ x. not (not x) ⊃ so x) tt (eqb (g i) (g j)) t)

-- ---- one cut

pub parted_moved : (n : ℕ) (h : Heap) (c : Cut) (b : ℕ) → T (c.side b) → parted n h c b ≡ least n c.side
unfolding parted
parted_moved n h c b t = ap (λ (x : Bool). cond x (least n c.side) (h b)) (is_true (c.side b) t)

pub parted-stays : (n : ℕ) (h : Heap) (c : Cut) (b : ℕ) → T (not (c.side b)) → parted n h c b ≡ h b
unfolding parted
parted-stays n h c b t = ap (λ (x : Bool). cond x (least n c.side) (h b)) (is_false (c.side b) t)

module _ (n : ℕ) (w : Tally) (k : ℕ) (h : Heap) (c : Cut) (law : Lawful n w k h c) where
  moved_bone : (b : ℕ) → T (c.side b) → b < n
  moved_bone b t = pile_bone n h c.name b (law.within b t)

  moved_name : (b : ℕ) → T (c.side b) → h b ≡ c.name
  moved_name b t = pile_name n h c.name b (law.within b t)

  -- the name of the new pile: the least of the bones moved
  new_moved : T (c.side (least n c.side))
  new_moved = let r = some_elim n c.side law.moving in (least_in n c.side r.0 r.1 r.2).0

  new_least : (b : ℕ) → T (c.side b) → least n c.side ≤ b
  new_least b t = (least_in n c.side b (moved_bone b t) t).1

  new_bone : least n c.side < n
  new_bone = moved_bone (least n c.side) new_moved

  not_name : (b : ℕ) → T (c.side b) → b ≡ c.name → ⊥
  not_name b t e = T_not (c.side c.name) law.staying (subst (λ (x : ℕ). T (c.side x)) e t)

  -- no bone had the new name before, since names are bones of their own piles
  fresh : Named n h → (b : ℕ) → b < n → h b ≡ least n c.side → ⊥
  fresh d b l e =
      not_name (least n c.side) new_moved
      (sym e ∙ sym (d b l).1 ∙ ap h e ∙ moved_name (least n c.side) new_moved)

  pub named-parted : Named n h → Named n (parted n h c)
  named-parted d b l =
      ⊎_elim
      (λ t. (
        le_trans (le_of_eq (parted_moved n h c b t)) (new_least b t),
        ap (parted n h c) (parted_moved n h c b t) ∙ parted_moved n h c (least n c.side) new_moved ∙ sym (parted_moved n h c b t),
      ))
      (λ t. let e = parted-stays n h c b t in (
        le_trans (le_of_eq e) (d b l).0,
        ap (parted n h c) e ∙ parted-stays n h c (h b) (stays b l) ∙ (d b l).1 ∙ sym e,
      ))
      (decide (c.side b))
    where
      -- a name that stands outside the side is not moved
      stays : (b : ℕ) → b < n → T (not (c.side (h b)))
      stays b l = not_T (c.side (h b)) (λ u. not_name (h b) u (sym (d b l).1 ∙ moved_name (h b) u))

  -- a firm set that stands in one pile is not divided
  parts_none : (F : Bones) → T (firm n w k F) → Whole n h F → (x y : ℕ) → x < n → y < n → T (F x) → T (F y) → T (c.side x) → T (not (c.side y)) → ⊥
  parts_none F f o x y hx hy fx fy sx sy =
      let in_pile : Within n F (pile n h c.name) = λ z hz fz. pile_intro n h c.name z hz (o z x hz hx fz fx ∙ moved_name x sx) in
      let heavy = firm_parts n w k F (pile n h c.name) c.side in_pile f x y hx hy fx fy sx sy in
      omega (arith, heavy, law.true_weight, law.light)

  pub whole-parted : (F : Bones) → T (firm n w k F) → Whole n h F → Whole n (parted n h c) F
  whole-parted F f o x y hx hy fx fy =
      ⊎_elim
      (λ sx. ⊎_elim
      (λ sy. parted_moved n h c x sx ∙ sym (parted_moved n h c y sy))
      (λ sy. absurd (parts_none F f o x y hx hy fx fy sx sy))
      (decide (c.side y)))
      (λ sx. ⊎_elim
      (λ sy. absurd (parts_none F f o y x hy hx fy fx sy sx))
      (λ sy. parted-stays n h c x sx ∙ o x y hx hy fx fy ∙ sym (parted-stays n h c y sy))
      (decide (c.side y)))
      (decide (c.side x))

  -- a direct tally of k or more keeps its two bones on one side (000, section 4.3)
  direct_none : (x y : ℕ) → y < n → h x ≡ h y → k ≤ w x y → T (c.side x) → T (not (c.side y)) → ⊥
  unfolding weight
  direct_none x y hy e heavy sx sy =
      let P : Bones = pile n h c.name in
      let A : Bones = c.side in
      let in-x = law.within x sx in
      let in-y = pile_intro n h c.name y hy (sym e ∙ moved_name x sx) in
      let one = total-pair n w (λ i j. (P i && A i) && (P j && not (A j))) x y (moved_bone x sx) hy
      (both (P x && A x) (P y && not (A y)) (both (P x) (A x) in-x sx) (both (P y) (not (A y)) in-y sy)) in
      omega (arith, one, heavy, law.true_weight, law.light)

  pub direct_together : Symmetric w → (x y : ℕ) → x < n → y < n → h x ≡ h y → k ≤ w x y → c.side x ≡ c.side y
  direct_together s x y hx hy e heavy =
      same_test (c.side x) (c.side y)
      (λ sx. ⊎_elim (λ t. t) (λ t. absurd (direct_none x y hy e heavy sx t)) (decide (c.side y)))
      (λ sy. ⊎_elim (λ t. t) (λ t. absurd (direct_none y x hx (sym e) (le_trans heavy (le_of_eq (s x y))) sy t)) (decide (c.side x)))

  -- one pile more
  stands-parted : Named n h → (b : ℕ) → b < n → cond (stands n (parted n h c) b) 1 0 ≡ cond (stands n h b) 1 0 + cond (eqb b (least n c.side)) 1 0
  unfolding stands pile
  stands-parted d b l =
      let inside = is_true (ltb b n) (lt→ltb b n l) in
      ⊎_elim
      (λ t. ap (λ (z : Bool). cond z 1 0) (ap₂ ◌&&◌ inside (ap (λ (x : ℕ). eqb x b) (parted_moved n h c b t)))
      ∙ moved (eqb (least n c.side) b) (eqb b (least n c.side))
      (same_test _ _ (λ u. eq→eqb b (least n c.side) (sym (eqb→eq (least n c.side) b u))) (λ u. eq→eqb (least n c.side) b (sym (eqb→eq b (least n c.side) u))))
      ∙ ap (λ (z : ℕ). z + cond (eqb b (least n c.side)) 1 0)
      (sym (ap (λ (z : Bool). cond z 1 0) (ap₂ ◌&&◌ inside (is_false (eqb (h b) b) (ne→neqb (h b) b (λ e. not_name b t (sym e ∙ moved_name b t))))))))
      (λ t. ap (λ (z : Bool). cond z 1 0) (ap (λ (x : ℕ). ltb b n && eqb x b) (parted-stays n h c b t))
      ∙ stayed (cond (ltb b n && eqb (h b) b) 1 0)
      ∙ ap (λ (z : Bool). cond (ltb b n && eqb (h b) b) 1 0 + cond z 1 0)
      (sym (is_false (eqb b (least n c.side)) (ne→neqb b (least n c.side) (λ e. T_not (c.side b) t (subst (λ (x : ℕ). T (c.side x)) (sym e) new_moved))))))
      (decide (c.side b))
    where
      moved : (x y : Bool) → x ≡ y → cond x 1 0 ≡ 0 + cond y 1 0
      moved x y e = ap (λ (z : Bool). cond z 1 0) e ∙ omega arith

      stayed : (m : ℕ) → m ≡ m + 0
      stayed m = omega arith

  pub piles-parted : Named n h → piles n (parted n h c) ≡ piles n h + 1
  unfolding piles count
  piles-parted d =
      sum_ext n _ _ (stands-parted d)
      ∙ sum-add n _ _
      ∙ ap (λ (x : ℕ). sum n (λ b. cond (stands n h b) 1 0) + x) (sum_one n (least n c.side) 1 new_bone)

  -- the tally between piles grows by the weight
  crossing : ℕ → ℕ → Bool
  crossing i j = (pile n h c.name i && c.side i) && (pile n h c.name j && not (c.side j))

  crossing_ends : (i j : ℕ) → T (crossing i j) → T (c.side i) × T (not (c.side j)) × T (pile n h c.name j)
  unfolding crossing
  crossing_ends i j t =
      let P : Bones = pile n h c.name in
      let A : Bones = c.side in (
        taut 4 (λ p a q b. ((p && a) && (q && not b)) ⊃ so a) tt (P i) (A i) (P j) (A j) t,
        taut 4 (λ p a q b. ((p && a) && (q && not b)) ⊃ so (not b)) tt (P i) (A i) (P j) (A j) t,
        taut 4 (λ p a q b. ((p && a) && (q && not b)) ⊃ so q) tt (P i) (A i) (P j) (A j) t,
      )

  -- two bones are apart after the cut if they were before, or if the cut crosses between them, and never both
  apart_parted : Named n h → (i j : ℕ) → i < n → j < n → T (parts (apart (parted n h c) i j) (apart h i j) (crossing i j || crossing j i))
  unfolding crossing apart
  apart_parted d i j hi hj = by_sides (decide (A i)) (decide (A j))
    where
      P : Bones
      P = pile n h c.name

      A : Bones
      A = c.side

      after : Bool
      after = apart (parted n h c) i j

      before : Bool
      before = apart h i j

      -- a moved bone and one that stays are apart afterwards; they were apart before unless the second is of the pile
      mixed : (x y : ℕ) → y < n → T (A x) → T (not (A y)) → (parted n h c x ≡ parted n h c y → ⊥) × T (P x) × (T (P y) → h x ≡ h y) × (h x ≡ h y → T (P y))
      mixed x y hy ax ay = (
        λ e. fresh d y hy (sym (parted-stays n h c y ay) ∙ sym e ∙ parted_moved n h c x ax),
        law.within x ax,
        λ py. moved_name x ax ∙ sym (pile_name n h c.name y py),
        λ e. pile_intro n h c.name y hy (sym e ∙ moved_name x ax),
      )

      by_sides : T (A i) ⊎ T (not (A i)) → T (A j) ⊎ T (not (A j)) → T (parts after before (((P i && A i) && (P j && not (A j))) || ((P j && A j) && (P i && not (A i)))))
      by_sides (inl ai) (inl aj) =
          taut 6 (λ e b p a q z. (not e) ⊃ (not b) ⊃ a ⊃ z ⊃ so (parts e b (((p && a) && (q && not z)) || ((q && z) && (p && not a))))) tt
          after before (P i) (A i) (P j) (A j)
          (together (parted n h c) i j (parted_moved n h c i ai ∙ sym (parted_moved n h c j aj)))
          (together h i j (moved_name i ai ∙ sym (moved_name j aj)))
          ai aj
      by_sides (inl ai) (inr aj) =
          let m = mixed i j hj ai aj in
          taut 6 (λ e b p a q z. e ⊃ p ⊃ (q ⇒ not b) ⊃ (not b ⇒ q) ⊃ a ⊃ (not z) ⊃ so (parts e b (((p && a) && (q && not z)) || ((q && z) && (p && not a))))) tt
          after before (P i) (A i) (P j) (A j)
          (ne→neqb (parted n h c i) (parted n h c j) m.0) m.1
          (imp (P j) (not before) (λ t. together h i j (m.2 t)))
          (imp (not before) (P j) (λ t. m.3 (joined h i j t)))
          ai aj
      by_sides (inr ai) (inl aj) =
          let m = mixed j i hi aj ai in
          taut 6 (λ e b p a q z. e ⊃ q ⊃ (p ⇒ not b) ⊃ (not b ⇒ p) ⊃ (not a) ⊃ z ⊃ so (parts e b (((p && a) && (q && not z)) || ((q && z) && (p && not a))))) tt
          after before (P i) (A i) (P j) (A j)
          (ne→neqb (parted n h c i) (parted n h c j) (λ e. m.0 (sym e))) m.1
          (imp (P i) (not before) (λ t. together h i j (sym (m.2 t))))
          (imp (not before) (P i) (λ t. m.3 (sym (joined h i j t))))
          ai aj
      by_sides (inr ai) (inr aj) =
          taut 6 (λ e b p a q z. (e ⇒ b) ⊃ (b ⇒ e) ⊃ (not a) ⊃ (not z) ⊃ so (parts e b (((p && a) && (q && not z)) || ((q && z) && (p && not a))))) tt
          after before (P i) (A i) (P j) (A j)
          (imp after before (λ t. ne→neqb (h i) (h j) (λ e. neqb→ne _ _ t (parted-stays n h c i ai ∙ e ∙ sym (parted-stays n h c j aj)))))
          (imp before after (λ t. ne→neqb (parted n h c i) (parted n h c j) (λ e. neqb→ne _ _ t (sym (parted-stays n h c i ai) ∙ e ∙ parted-stays n h c j aj))))
          ai aj

  -- the crossing pairs, each once by order of number, weigh what the cut weighs
  crossing_once : Symmetric w → total n w (λ i j. ltb i j && (crossing i j || crossing j i)) ≡ total n w crossing
  crossing_once s =
      total_parts n w _ (λ i j. ltb i j && crossing i j) (λ i j. ltb i j && crossing j i)
      (λ i j hi hj. taut 3 (λ l x y. not (x && y) ⊃ so (parts (l && (x || y)) (l && x) (l && y))) tt (ltb i j) (crossing i j) (crossing j i) (one_way i j))
      ∙ ap (λ (m : ℕ). total n w (λ i j. ltb i j && crossing i j) + m) (total_turn n w s _)
      ∙ sym (total_parts n w crossing (λ i j. ltb i j && crossing i j) (λ i j. ltb j i && crossing i j)
      (λ i j hi hj. taut 3 (λ l m x. (x ⇒ l || m) ⊃ not (l && m) ⊃ so (parts x (l && x) (m && x))) tt (ltb i j) (ltb j i) (crossing i j) (ordered i j) (not_T (ltb i j && ltb j i) (λ t. absurd (omega (arith, ltb→lt i j (left_of (ltb i j) (ltb j i) t), ltb→lt j i (right_of (ltb i j) (ltb j i) t)))))))
    where
      one_way : (i j : ℕ) → T (not (crossing i j && crossing j i))
      one_way i j =
          not_T (crossing i j && crossing j i)
          (λ t. T_not (c.side j) (crossing_ends i j (left_of (crossing i j) (crossing j i) t)).1 (crossing_ends j i (right_of (crossing i j) (crossing j i) t)).0)

      ordered : (i j : ℕ) → T (crossing i j ⇒ ltb i j || ltb j i)
      ordered i j =
          imp (crossing i j) (ltb i j || ltb j i)
          (λ t. let r = crossing_ends i j t in
          order i j (λ e. T_not (c.side j) r.1 (subst (λ (x : ℕ). T (c.side x)) e r.0)))
        where
          order : (i j : ℕ) → (i ≡ j → ⊥) → T (ltb i j || ltb j i)
          order i j f =
              ⊎_elim (λ l. Rattle.meaning.proofs.Tests.or_left (ltb i j) (ltb j i) l)
              (λ l. Rattle.meaning.proofs.Tests.or_right (ltb i j) (ltb j i) (lt→ltb j i (above (lib.Dec.nltb→le i j l))))
              (decide (ltb i j))
            where
              above : j ≤ i → j < i
              above l = ⊎_elim (λ e. absurd (f (sym e))) (λ g. g) (native.Mathlib.Nat.eq-or-lt_of_le l)

  pub between-parted : Symmetric w → Named n h → between n w (parted n h c) ≡ between n w h + c.weighs
  unfolding between weight crossing apart
  between-parted s d =
      total_parts n w _ (λ i j. ltb i j && apart h i j) (λ i j. ltb i j && (crossing i j || crossing j i))
      (λ i j hi hj. taut 4 (λ l e b x. parts e b x ⊃ so (parts (l && e) (l && b) (l && x))) tt (ltb i j) (apart (parted n h c) i j) (apart h i j) (crossing i j || crossing j i) (apart_parted d i j hi hj))
      ∙ ap (λ (m : ℕ). total n w (λ i j. ltb i j && apart h i j) + m) (crossing_once s ∙ sym law.true_weight)

-- a pile that has a lawful cut is not firm
pub lawful_not_firm : (n : ℕ) (w : Tally) (k : ℕ) (h : Heap) (c : Cut) → Lawful n w k h c → T (firm n w k (pile n h c.name)) → ⊥
unfolding stands
lawful_not_firm n w k h c law whole =
    let moved = some_elim n c.side law.moving in
    let heavy = firm_elim n w k (pile n h c.name) whole c.side
    (splits_intro n (pile n h c.name) c.side moved.0 c.name moved.1 (pile_bone n h c.name c.name law.standing) (law.within moved.0 moved.2) moved.2 law.standing law.staying) in
    omega (arith, heavy, law.true_weight, law.light)
