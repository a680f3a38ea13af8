-- A pass over the bones of L, by any symmetric tally: bones are taken one by one, each time one with the greatest tally to those taken before. What this
-- bounds: the tally of a free bone to those taken is no more than any split weighs that parts it from the bone taken last.
-- Assumes nothing.
use Rattle.std.proofs.Common.{◌≡◌, ℕ, ◌+◌, ◌<◌, ◌≤◌, Bool, true, false, cond, not, ◌&&◌, ◌||◌, T, eqb, sym, refl, ap, ◌∙◌, ⊎_elim, le_trans, le_of_eq, arith, eqb→eq, T_not}
use mathlib.Core.Path.{fun_ext}
use mathlib.Core.Bool.{beq}
use lib.Dec.{eqb_refl}
use Rattle.meaning.specs.Count.{Bones, sum}
use Rattle.meaning.specs.Tally.{Tally, total, weight}
use Rattle.meaning.proofs.Tests.{◌⇒◌, imp, taut, so, ◌⊃◌, decide, same_test, both, left_of, right_of, or_left, or_right, neqb→ne, ne→neqb}
use Rattle.meaning.proofs.Sums.{sum_ext, sum-add, sum-zero, sum_at}
use Rattle.meaning.proofs.Totals.{Pairs, parts, Symmetric, total_mono, total_parts, total_ext}
use Rattle.meaning.proofs.Firm.{other, weight_other, weight_within}
use Rattle.weighing.specs.Scan.{Tied}
use Rattle.weighing.proofs.Listing.{cond_no, cond_and, cond_or}

-- two tests that never pass together weigh no more than one that holds both
pub total-two : (n : ℕ) (w : Tally) (R P Q : Pairs) → ((i j : ℕ) → i < n → j < n → T ((P i j ⇒ R i j) && (Q i j ⇒ R i j) && not (P i j && Q i j))) → total n w P + total n w Q ≤ total n w R
total-two n w R P Q t =
    le_trans
    (le_of_eq (sym (total_parts n w (λ i j. P i j || Q i j) P Q (λ i j hi hj. taut 3 (λ r p q. ((p ⇒ r) && (q ⇒ r) && not (p && q)) ⊃ so (parts (p || q) p q)) tt (R i j) (P i j) (Q i j) (t i j hi hj)))))
    (total_mono n w _ R (λ i j hi hj. taut 3 (λ r p q. ((p ⇒ r) && (q ⇒ r) && not (p && q)) ⊃ so (p || q ⇒ r)) tt (R i j) (P i j) (Q i j) (t i j hi hj)))

-- two tests that agree
pub same_beq : (a b : Bool) → a ≡ b → T (beq a b)
same_beq a b e = rw e (taut 1 (λ c. so (beq c c)) tt b)

-- a test that passes at x passes wherever the bone is x
pub at_bone : (P : Bones) (x y : ℕ) → T (P x) → T (eqb y x ⇒ P y)
at_bone P x y t = imp (eqb y x) (P y) (λ e. rw (eqb→eq y x e) t)

pub cond_out : (n : ℕ) (t : Bool) (f : ℕ → ℕ) → sum n (λ j. cond t (f j) 0) ≡ cond t (sum n f) 0
cond_out n true f = refl
cond_out n false f = sum-zero n

-- the pairs of one bone, and one pair alone
pub total_at : (n : ℕ) (w : Tally) (x : ℕ) (P : Pairs) → x < n → total n w (λ i j. eqb i x && P i j) ≡ sum n (λ j. cond (P x j) (w x j) 0)
unfolding total
total_at n w x P low =
    sum_ext n _ (λ i. cond (eqb i x) (sum n (λ j. cond (P i j) (w i j) 0)) 0)
    (λ i hi. sum_ext n _ _ (λ j hj. cond_and (eqb i x) (P i j) (w i j)) ∙ cond_out n (eqb i x) (λ j. cond (P i j) (w i j) 0))
    ∙ sum_at n x (λ i. sum n (λ j. cond (P i j) (w i j) 0)) low

pub total_one : (n : ℕ) (w : Tally) (u x : ℕ) → u < n → x < n → total n w (λ i j. eqb i u && eqb j x) ≡ w u x
total_one n w u x hu hx = total_at n w u (λ i j. eqb j x) hu ∙ sum_at n x (w u) hx

-- the tally between a set and a bone
unfoldable pub tie : Tally → Bones → ℕ → ℕ
tie w A x = sum 128 (λ i. cond (A i) (w i x) 0)

-- the bones of L that are free no more
unfoldable pub taken : Bones → Bones → Bones
taken L free b = L b && not (free b)

-- a free bone's tally to those taken bounds each split that parts it from the bone v
abbrev pub Bounded : Tally → Bones → Bones → ℕ → Type 0
Bounded w L free v = (d : Bones) (x : ℕ) → x < 128 → T (free x) → T (d v) → T (not (d x)) → tie w (taken L free) x ≤ weight 128 w (λ b. taken L free b || eqb b x) d

-- no free bone has a greater tally to those taken than u
abbrev pub Greatest : Tally → Bones → Bones → ℕ → Type 0
Greatest w L free u = (x : ℕ) → x < 128 → T (free x) → tie w (taken L free) x ≤ tie w (taken L free) u

-- nothing was taken yet
pub tie_none : (w : Tally) (L free : Bones) (x : ℕ) → ((b : ℕ) → T (L b) → T (free b)) → tie w (taken L free) x ≡ 0
unfolding tie taken
tie_none w L free x all =
    sum_ext 128 _ (λ i. 0) (λ i h. cond_no (taken L free i) (w i x) 0 (taut 2 (λ a b. (a ⇒ b) ⊃ so (not (a && not b))) tt (L i) (free i) (imp (L i) (free i) (all i)))) ∙ sum-zero 128

-- a split that parts u and x weighs more among Y, which holds both, than among X, which does not: at least by their tally
pair_more : (w : Tally) (X Y d : Bones) (u x : ℕ) → u < 128 → x < 128 → ((b : ℕ) → T (X b ⇒ Y b)) → T (Y u) → T (Y x) → T (not (X u && X x)) → T (d u) → T (not (d x))
    → w u x + weight 128 w X d ≤ weight 128 w Y d
unfolding weight
pair_more w X Y d u x ulow xlow within yu yx apart du dx =
    rw (← total_one 128 w u x ulow xlow)
    (total-two 128 w _ _ _
    (λ i j hi hj. taut 8
    (λ e h x y a x' y' b. (x ⇒ y) ⊃ (x' ⇒ y') ⊃ (e ⇒ y) ⊃ (h ⇒ y') ⊃ (e ⇒ a) ⊃ (h ⇒ not b) ⊃ (e && h ⇒ not (x && x'))
    ⊃ so ((e && h ⇒ (y && a) && (y' && not b)) && ((x && a) && (x' && not b) ⇒ (y && a) && (y' && not b)) && not ((e && h) && ((x && a) && (x' && not b)))))
    tt
    (eqb i u) (eqb j x) (X i) (Y i) (d i) (X j) (Y j) (d j)
    (within i) (within j) (at_bone Y u i yu) (at_bone Y x j yx) (at_bone d u i du) (at_bone (other d) x j dx)
    (imp (eqb i u && eqb j x) _ (λ t. rw (eqb→eq i u (left_of (eqb i u) (eqb j x) t), eqb→eq j x (right_of (eqb i u) (eqb j x) t)) apart))))

module _ (w : Tally) (symmetric : Symmetric w) (L free free' : Bones) (u : ℕ) (low : u < 128) (inside : T (L u)) (isfree : T (free u)) (closed : (x : ℕ) → free' x ≡ (free x && not (eqb x u))) where
  -- u is one more that is taken, and was none before
  one_more : taken L free' ≡ (λ b. taken L free b || eqb b u)
  unfolding taken
  one_more =
      fun_ext
      (λ b. rw (closed b)
      (same_test _ _ (taut 3 (λ s o e. (s && not (o && not e)) ⊃ so ((s && not o) || e)) tt (L b) (free b) (eqb b u))
      (taut 3 (λ s o e. (e ⇒ s) ⊃ ((s && not o) || e) ⊃ so (s && not (o && not e))) tt (L b) (free b) (eqb b u) (at_bone L u b inside))))

  free_not : (b : ℕ) → T (free b) → T (not (taken L free b))
  unfolding taken
  free_not b t = taut 2 (λ s o. o ⊃ so (not (s && not o))) tt (L b) (free b) t

  -- taking u adds its tally
  pub tie_taken : (x : ℕ) → tie w (taken L free') x ≡ tie w (taken L free) x + w u x
  unfolding tie
  tie_taken x =
      rw one_more
      (sum_ext 128 _ _ (λ i h. cond_or (taken L free i) (eqb i u) (w i x) (at_bone (other (taken L free)) u i (free_not u isfree)))
      ∙ sum-add 128 (λ i. cond (taken L free i) (w i x) 0) (λ i. cond (eqb i u) (w i x) 0)
      ∙ (rw (sum_at 128 u (λ i. w i x) low)))

  -- the bound goes on: u, one with the greatest tally, is the bone taken last
  pub bounded_taken : (v : ℕ) → Bounded w L free v → Greatest w L free u → Bounded w L free' u
  bounded_taken v bounded greatest d x xlow xfree du dx =
      ⊎_elim
      (λ dv. omega (
        arith,
        tie_taken x,
        bounded d x xlow still dv dx,
        more (λ b. taken L free b || eqb b x) (λ b. taut 3 (λ a e f. so (a || f ⇒ (a || e) || f)) tt (taken L free b) (eqb b u) (eqb b x))
            (taut 3 (λ a e r. (not a) ⊃ (not e) ⊃ so (not ((a || e) && r))) tt (taken L free u) (eqb u x) (taken L free x || eqb x x) (free_not u isfree) (ne→neqb u x (λ e. neqb→ne x u off (sym e)))),
      ))
      (λ dv. omega (
        arith,
        tie_taken x,
        greatest x xlow still,
        bounded (other d) u low isfree dv (taut 1 (λ a. a ⊃ so (not (not a))) tt (d u) du),
        weight_other 128 w symmetric (λ b. taken L free b || eqb b u) d,
        more (λ b. taken L free b || eqb b u) (λ b. taut 2 (λ a f. so (a ⇒ a || f)) tt (taken L free b || eqb b u) (eqb b x))
            (taut 3 (λ a e r. (not a) ⊃ (not e) ⊃ so (not (r && (a || e)))) tt (taken L free x) (eqb x u) (taken L free u || eqb u u) (free_not x still) off),
      ))
      (decide (d v))
    where
      still : T (free x)
      still = left_of (free x) (not (eqb x u)) (rw (closed x) at xfree)

      off : T (not (eqb x u))
      off = right_of (free x) (not (eqb x u)) (rw (closed x) at xfree)

      more : (X : Bones) → ((b : ℕ) → T (X b ⇒ (taken L free b || eqb b u) || eqb b x)) → T (not (X u && X x)) → w u x + weight 128 w X d ≤ weight 128 w (λ b. taken L free' b || eqb b x) d
      more X within apart =
          rw one_more (pair_more w X (λ b. (taken L free b || eqb b u) || eqb b x) d u x low xlow within
          (or_left (taken L free u || eqb u u) (eqb u x) (or_right (taken L free u) (eqb u u) (eqb_refl u))) (or_right (taken L free x || eqb x u) (eqb x x) (eqb_refl x)) apart du dx)

module _ (w : Tally) (symmetric : Symmetric w) (L free : Bones) (within : (b : ℕ) → T (free b) → T (L b)) where
  -- a light split does not part a bone of tally k or more from the bone taken last
  pub light_ties : (k u v : ℕ) → Bounded w L free v → u < 128 → T (free u) → k ≤ tie w (taken L free) u → Tied w k L v u
  unfolding Tied taken
  light_ties k u v bounded low isfree heavy d light =
      same_test (d v) (d u) (along d light)
      (λ du. ⊎_elim (λ dv. dv) (λ dv. absurd (T_not (d u) (along (other d) (omega (arith, weight_other 128 w symmetric L d)) dv) du)) (decide (d v)))
    where
      inside : (b : ℕ) → b < 128 → T (taken L free b || eqb b u) → T (L b)
      inside b h t = taut 3 (λ s o e. (e ⇒ s) ⊃ ((s && not o) || e) ⊃ so s) tt (L b) (free b) (eqb b u) (at_bone L u b (within u isfree)) t

      along : (e : Bones) → weight 128 w L e < k → T (e v) → T (e u)
      along e l ev =
          ⊎_elim (λ eu. eu)
          (λ eu. absurd (omega (arith, bounded e u low isfree ev eu, weight_within 128 w (λ b. taken L free b || eqb b u) L e inside)))
          (decide (e u))

  -- the tallies of the free bones to those taken, added up, are what the free bones weigh against them
  pub out_weight : sum 128 (λ b. cond (free b) (tie w (taken L free) b) 0) ≡ weight 128 w L free
  unfolding tie taken total weight
  out_weight =
      sum_ext 128 _ (λ b. sum 128 (λ i. cond (free b && taken L free i) (w b i) 0))
      (λ b h. sym (cond_out 128 (free b) (λ i. cond (taken L free i) (w i b) 0))
      ∙ sum_ext 128 _ _ (λ i l. sym (cond_and (free b) (taken L free i) (w i b)) ∙ (rw (symmetric i b))))
      ∙ total_ext 128 w (λ i j. free i && taken L free j) (λ i j. (L i && free i) && taken L free j)
      (λ i j hi hj. ap (λ (t : Bool). t && taken L free j) (same_test (free i) (L i && free i) (λ t. both (L i) (free i) (within i t) t) (right_of (L i) (free i))))
