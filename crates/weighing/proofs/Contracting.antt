-- A bone b merged into a: the tallies of b are added to those of a. By the new table the other bones weigh what all of them weighed by the old one, for
-- every split that keeps a, b and the bones of a's block on one side; and all tallies together come to no more than before. First: a sum over 128 bones of which
-- only those below n count is one over n.
-- Assumes nothing.
use Rattle.std.proofs.Common.{◌≡◌, ℕ, zero, suc, ◌+◌, ◌^◌, ◌<◌, ◌≤◌, Bool, true, false, cond, not, ◌&&◌, ◌||◌, T, eqb, List, sym, refl, ap, ◌∙◌, ap₂, ⊎_elim, mod-eq_of_lt, eq-or-lt_of_le, arith, eqb→eq, T_not}
use mathlib.Core.Bool.{beq}
use lib.Dec.{not_T}
use Rattle.meaning.specs.Count.{Bones, sum}
use Rattle.meaning.specs.Tally.{Tally, total, weight}
use Rattle.meaning.proofs.Tests.{◌⇒◌, imp, taut, so, ◌⊃◌, both, left_of, right_of, eq→eqb, ne→neqb}
use Rattle.meaning.proofs.Sums.{sum-zero, sum_ext, sum-add, sum_swap}
use Rattle.meaning.proofs.Totals.{Pairs, parts, total_mono, total_parts, total_same, total_ext, total_turn}
use Rattle.links.specs.Table.{spot, held}
use Rattle.links.proofs.TableSpots.{one_pair}
use Rattle.links.proofs.TableHeld.{held_symmetric}
use Rattle.weighing.specs.Merge.{RowAdded}
use Rattle.weighing.proofs.Listing.{cond_no, cond_and, cond_plus, with_one, beq_same}
use Rattle.weighing.proofs.Taking.{total-two, total_at, total_one, same_beq, at_bone}

-- a longer range, whose further terms are nought
sum_wide : (n m : ℕ) (f : ℕ → ℕ) → n ≤ m → ((i : ℕ) → n ≤ i → f i ≡ 0) → sum m f ≡ sum n f
unfolding sum
sum_wide n zero f h z = let e : n ≡ 0 = omega arith in rw e
sum_wide n (suc m) f h z =
    ⊎_elim (λ (e : n ≡ suc m). rw e) (λ l. omega (arith, sum_wide n m f (omega arith) z, z m (omega arith))) (eq-or-lt_of_le h)

-- pairs below n alone count
pub total_wide : (n m : ℕ) (w : Tally) (P : Pairs) → n ≤ m → ((i j : ℕ) → T (P i j) → (i < n) × (j < n)) → total m w P ≡ total n w P
unfolding total
total_wide n m w P h low =
    sum_ext m _ (λ i. sum n (λ j. cond (P i j) (w i j) 0)) (λ i hi. sum_wide n m _ h (λ j hj. off i j (λ t. omega (arith, low i j t))))
    ∙ sum_wide n m _ h (λ i hi. sum_ext n _ (λ j. 0) (λ j hj. off i j (λ t. omega (arith, low i j t))) ∙ sum-zero n)
  where
    off : (i j : ℕ) → (T (P i j) → ⊥) → cond (P i j) (w i j) 0 ≡ 0
    off i j f = cond_no (P i j) (w i j) 0 (not_T (P i j) f)

pub weight_wide : (n : ℕ) → n ≤ 128 → (w : Tally) (S A : Bones) → ((b : ℕ) → T (S b) → b < n) → weight 128 w S A ≡ weight n w S A
unfolding weight
weight_wide n few w S A below =
    total_wide n 128 w _ few
    (λ i j t. (below i (left_of (S i) (A i) (left_of (S i && A i) (S j && not (A j)) t)), below j (left_of (S j) (not (A j)) (right_of (S i && A i) (S j && not (A j)) t))))

-- the tallies between the bones of G, each pair counted twice
unfoldable pub bulk : Tally → Bones → ℕ
bulk w G = total 128 w (λ i j. (G i && G j) && not (eqb i j))

total_plus : (v w : Tally) (P : Pairs) → total 128 (λ i j. v i j + w i j) P ≡ total 128 v P + total 128 w P
unfolding total
total_plus v w P = sum_ext 128 _ _ (λ i hi. sum_ext 128 _ _ (λ j hj. cond_plus (P i j) (v i j) (w i j)) ∙ sum-add 128 _ _) ∙ sum-add 128 _ _

-- two tests under each other
cond_turn : (p e r : Bool) (x : ℕ) → cond p (cond (e && r) x 0) 0 ≡ cond (e && (p && r)) x 0
cond_turn p e r x = sym (cond_and p (e && r) x) ∙ ap (λ (t : Bool). cond t x 0) (beq_same (p && (e && r)) (e && (p && r)) (taut 3 (λ p e r. so (beq (p && (e && r)) (e && (p && r)))) tt p e r))

-- a test of pairs, that asks also for those of b which go to pairs of a that it asks for
abbrev moved : Bones → ℕ → ℕ → Pairs → Pairs
moved R a b P i j = (P i j || (eqb i b && (P a j && R j))) || (eqb j b && (P i a && R i))

-- the tallies of b, counted where those of a pass the test
row_gain : (w : Tally) (a b : ℕ) (R : Bones) → a < 128 → b < 128 → (P : Pairs) → total 128 (λ i j. cond (eqb i a && R j) (w b j) 0) P ≡ total 128 w (λ i j. eqb i b && (P a j && R j))
unfolding total
row_gain w a b R alow blow P =
    sum_ext 128 _ _ (λ i hi. sum_ext 128 _ _ (λ j hj. cond_turn (P i j) (eqb i a) (R j) (w b j)))
    ∙ total_at 128 (λ i j. w b j) a (λ i j. P i j && R j) alow
    ∙ sym (total_at 128 w b (λ i j. P a j && R j) blow)

-- what is asked of a merge: R are bones of G other than a, and b is none of G
pub record Fresh (G R : Bones) (a b : ℕ) : Type 0 where
  pub a_low : a < 128
  pub b_low : b < 128
  pub a_in : T (G a)
  pub b_out : T (not (G b))
  pub a_off : T (not (R a))
  pub within : (c : ℕ) → T (R c) → T (G c)

-- one of two tests passes, or none does
by_tests : (p q : Bool) (x y : ℕ) {z w : ℕ} → T (not (p && q)) → (T p → z ≡ w + x) → (T q → z ≡ w + y) → (T (not p) → T (not q) → z ≡ w) → z ≡ w + cond p x 0 + cond q y 0
by_tests true true x y {z = z} {w = w} n f g h = elim n [ ]
by_tests true false x y n f g h = omega (arith, f tt)
by_tests false true x y n f g h = omega (arith, g tt)
by_tests false false x y n f g h = omega (arith, h tt tt)

-- what a table holds after a merge, where all tallies together fit
module _ (t t' : List ℕ) (G R : Bones) (a b : ℕ) (fresh : Fresh G R a b) (row : RowAdded t t' a b R) (fits : bulk (held t) (with_one G b) < 2 ^ 32) where
  -- the tallies of a and b with a third bone are two of those counted
  pair_fits : (c : ℕ) → c < 128 → T (G c) → (c ≡ a → ⊥) → held t a c + held t b c ≤ bulk (held t) (with_one G b)
  unfolding bulk
  pair_fits c low in_g ca =
      rw (← total_one 128 (held t) a c fresh.a_low low, ← total_one 128 (held t) b c fresh.b_low low)
      (total-two 128 (held t) (λ i j. (with_one G b i && with_one G b j) && not (eqb i j)) (λ i j. eqb i a && eqb j c) (λ i j. eqb i b && eqb j c)
      (λ i j hi hj. taut 7
      (λ g h f s x y z. (x ⇒ g) ⊃ (y ⇒ not g) ⊃ (z ⇒ h) ⊃ (s ⇒ beq g h) ⊃ (z ⇒ (x ⇒ not s))
      ⊃ so ((x && z ⇒ ((g || y) && (h || f)) && not s) && (y && z ⇒ ((g || y) && (h || f)) && not s) && not ((x && z) && (y && z))))
      tt (G i) (G j) (eqb j b) (eqb i j) (eqb i a) (eqb i b) (eqb j c)
      (at_bone G a i fresh.a_in) (at_bone (λ k. not (G k)) b i fresh.b_out) (at_bone G c j in_g)
      (at_bone (λ k. beq (G k) (G j)) j i (same_beq (G j) (G j) refl))
      (at_bone (λ k. eqb i a ⇒ not (eqb i k)) c j (at_bone (λ k. not (eqb k c)) a i (ne→neqb a c (λ e. ca (sym e)))))))

  more : (i j : ℕ) → i < 128 → j < 128 → held t' i j ≡ held t i j + cond (eqb i a && R j) (held t b j) 0 + cond (eqb j a && R i) (held t b i) 0
  unfolding held
  more i j hi hj =
      by_tests (eqb i a && R j) (eqb j a && R i) (held t b j) (held t b i)
      (taut 4 (λ x y r s. (x ⇒ not r) ⊃ so (not ((x && s) && (y && r)))) tt (eqb i a) (eqb j a) (R i) (R j) (at_bone (λ c. not (R c)) a i fresh.a_off))
      (of_a i j hj)
      (λ s. held_symmetric t' i j ∙ of_a j i hi s ∙ ap (λ (x : ℕ). x + held t b i) (held_symmetric t j i))
      (λ f g. row.miss (spot i j) (λ c l r e. ⊎_elim
      (λ q. T_not (eqb i a && R j) f (both (eqb i a) (R j) (eq→eqb i a q.0) (rw q.1 r)))
      (λ q. T_not (eqb j a && R i) g (both (eqb j a) (R i) (eq→eqb j a q.1) (rw q.0 r)))
      (one_pair i j a c hi hj fresh.a_low l e)))
    where
      of_a : (i j : ℕ) → j < 128 → T (eqb i a && R j) → held t' i j ≡ held t i j + held t b j
      of_a i j h s =
          let r = right_of (eqb i a) (R j) s in
          rw (eqb→eq i a (left_of (eqb i a) (R j) s)) (row.hit j h r ∙ mod-eq_of_lt (omega (arith, pair_fits j h (fresh.within j r) (λ e. T_not (R a) fresh.a_off (rw e at r)))))

  out_at : (i : ℕ) → T (eqb i b ⇒ not (G i))
  out_at i = at_bone (λ c. not (G c)) b i fresh.b_out

  in_G : (i : ℕ) → T (R i ⇒ G i)
  in_G i = imp (R i) (G i) (fresh.within i)

  -- a total by the tally that has those of b in addition, where the test asks for pairs of G alone
  gained : (P : Pairs) → ((i j : ℕ) → T (P i j ⇒ G i && G j)) → total 128 (held t') P ≡ total 128 (held t) (moved R a b P)
  unfolding total
  gained P in-P =
      total_same 128 (held t') _ P P more (λ i j hi hj. refl)
      ∙ total_plus (λ i j. held t i j + cond (eqb i a && R j) (held t b j) 0) (λ i j. cond (eqb j a && R i) (held t b i) 0) P
      ∙ ap₂ ◌+◌
      (total_plus (held t) (λ i j. cond (eqb i a && R j) (held t b j) 0) P ∙ ap (λ (x : ℕ). total 128 (held t) P + x) (gain P)
      ∙ sym (total_parts 128 (held t) (λ i j. P i j || (eqb i b && (P a j && R j))) P (λ i j. eqb i b && (P a j && R j))
      (λ i j hi hj. taut 5 (λ p e r g h. (e ⇒ not g) ⊃ (p ⇒ g && h) ⊃ so (parts (p || (e && r)) p (e && r))) tt (P i j) (eqb i b) (P a j && R j) (G i) (G j) (out_at i) (in-P i j))))
      (sum_swap 128 128 (λ i j. cond (P i j) (cond (eqb j a && R i) (held t b i) 0) 0) ∙ gain (λ i j. P j i) ∙ total_turn 128 (held t) (held_symmetric t) (λ i j. eqb i b && (P j a && R j)))
      ∙ sym (total_parts 128 (held t) (moved R a b P) (λ i j. P i j || (eqb i b && (P a j && R j))) (λ i j. eqb j b && (P i a && R i))
      (λ i j hi hj. taut 8 (λ p e f r s x g h. (f ⇒ not h) ⊃ (p ⇒ g && h) ⊃ (s ⇒ h) ⊃ so (parts ((p || (e && (x && s))) || (f && r)) (p || (e && (x && s))) (f && r))) tt
      (P i j) (eqb i b) (eqb j b) (P i a && R i) (R j) (P a j) (G i) (G j)
      (out_at j) (in-P i j) (in_G j)))
    where
      gain : (P : Pairs) → total 128 (λ i j. cond (eqb i a && R j) (held t b j) 0) P ≡ total 128 (held t) (λ i j. eqb i b && (P a j && R j))
      gain = row_gain (held t) a b R fresh.a_low fresh.b_low

  -- every split that keeps a, b and what is not in R on one side
  pub merged_weight : (d : Bones) → d a ≡ d b → ((c : ℕ) → T (G c) → T (not (R c)) → d c ≡ d a) → weight 128 (held t') G d ≡ weight 128 (held t) (with_one G b) d
  unfolding weight
  merged_weight d ab rest =
      gained (λ i j. (G i && d i) && (G j && not (d j))) (λ i j. taut 4 (λ g x h y. so ((g && x) && (h && not y) ⇒ g && h)) tt (G i) (d i) (G j) (d j))
      ∙ total_ext 128 (held t) _ _
      (λ i j hi hj. beq_same _ _ (taut 10
      (λ g e r x h f q y k z. (e ⇒ beq x z) ⊃ (f ⇒ beq y z) ⊃ (g && not r ⇒ beq x z) ⊃ (h && not q ⇒ beq y z) ⊃ k ⊃ (r ⇒ g) ⊃ (q ⇒ h)
      ⊃ so (beq ((((g && x) && (h && not y)) || (e && (((k && z) && (h && not y)) && q))) || (f && (((g && x) && (k && not z)) && r))) (((g || e) && x) && ((h || f) && not y))))
      tt (G i) (eqb i b) (R i) (d i) (G j) (eqb j b) (R j) (d j) (G a) (d a)
      (b_side i) (b_side j) (off_side_lem i) (off_side_lem j) fresh.a_in (in_G i) (in_G j)))
    where
      b_side : (i : ℕ) → T (eqb i b ⇒ beq (d i) (d a))
      b_side i = imp (eqb i b) (beq (d i) (d a)) (λ e. same_beq (d i) (d a) (ap d (eqb→eq i b e) ∙ sym ab))

      off_side_lem : (i : ℕ) → T (G i && not (R i) ⇒ beq (d i) (d a))
      off_side_lem i = imp (G i && not (R i)) (beq (d i) (d a)) (λ t. same_beq (d i) (d a) (rest i (left_of (G i) (not (R i)) t) (right_of (G i) (not (R i)) t)))

  -- all tallies together
  pub merged_fits : bulk (held t') G < 2 ^ 32
  unfolding bulk
  merged_fits =
      omega (
        arith,
        fits,
        gained (λ i j. (G i && G j) && not (eqb i j)) (λ i j. taut 2 (λ x y. so (x && y ⇒ x)) tt (G i && G j) (not (eqb i j))),
        total_mono 128 (held t) (moved R a b (λ i j. (G i && G j) && not (eqb i j))) (λ i j. (with_one G b i && with_one G b j) && not (eqb i j))
            (λ i j hi hj. taut 10
            (λ g e h f s r q k x y. (e ⇒ not g) ⊃ (f ⇒ not h) ⊃ (s ⇒ beq e f) ⊃ (r ⇒ g) ⊃ (q ⇒ h)
            ⊃ so ((((g && h) && not s) || (e && (((k && h) && not x) && q))) || (f && (((g && k) && not y) && r)) ⇒ ((g || e) && (h || f)) && not s))
            tt (G i) (eqb i b) (G j) (eqb j b) (eqb i j) (R i) (R j) (G a) (eqb a j) (eqb i a)
            (out_at i) (out_at j) (at_bone (λ y. beq (eqb y b) (eqb j b)) j i (same_beq (eqb j b) (eqb j b) refl)) (in_G i) (in_G j)),
      )
