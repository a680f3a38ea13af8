-- Laws of `total`, the one measure of which weights, attachments and the tally between piles are made. Each asks for a test at every two
-- bones below n, which `taut` proves by trying the Bools.
-- Assumes nothing.
use Prim.Native.Nat.{ℕ, ◌+◌, ◌≤◌, ◌<◌, zero-le}
use mathlib.Core.Path.{◌≡◌, refl, sym, ◌∙◌, ap, ap₂}
use mathlib.Core.Bool.{Bool, true, false, cond, not, ◌&&◌, ◌||◌, beq}
use native.Mathlib.Nat.{le_refl, le_trans, le_of_eq}
use native.Mathlib.Omega.{arith}
use lib.Dec.{T}
use Rattle.meaning.specs.Count.{sum}
pub use Rattle.meaning.specs.Tally.{Symmetric}
use Rattle.meaning.specs.Tally.{Tally, total}
use Rattle.meaning.proofs.Tests.{◌⇒◌, is_true, is_false}
use Rattle.meaning.proofs.Sums.{sum_ext, sum_mono, sum-zero, sum-add, sum_swap, sum_term}

-- a test of every two bones
abbrev pub Pairs : Type 0
Pairs = ℕ → ℕ → Bool

-- r is p and q taken together, and no pair is in both
abbrev pub parts : Bool → Bool → Bool → Bool
parts r p q = beq r (p || q) && not (p && q)

cond_mono : (p q : Bool) (x : ℕ) → T (p ⇒ q) → cond p x 0 ≤ cond q x 0
cond_mono true true x t = le_refl x
cond_mono true false x t = absurd t
cond_mono false q x t = zero-le

cond_parts : (r p q : Bool) (x : ℕ) → T (parts r p q) → cond r x 0 ≡ cond p x 0 + cond q x 0
cond_parts true true true x t = absurd t
cond_parts true true false x t = omega arith
cond_parts true false true x t = omega arith
cond_parts true false false x t = absurd t
cond_parts false true q x t = absurd t
cond_parts false false true x t = absurd t
cond_parts false false false x t = omega arith

cond_cover : (r p q : Bool) (x : ℕ) → T (r ⇒ p || q) → cond r x 0 ≤ cond p x 0 + cond q x 0
cond_cover true true q x t = omega arith
cond_cover true false true x t = omega arith
cond_cover true false false x t = absurd t
cond_cover false p q x t = zero-le

module _ (n : ℕ) (w : Tally) where
  pub total_mono : (P Q : Pairs) → ((i j : ℕ) → i < n → j < n → T (P i j ⇒ Q i j)) → total n w P ≤ total n w Q
  unfolding total
  total_mono P Q t =
      sum_mono n _ _ (λ i hi. sum_mono n _ _ (λ j hj. cond_mono (P i j) (Q i j) (w i j) (t i j hi hj)))

  pub total_parts : (R P Q : Pairs) → ((i j : ℕ) → i < n → j < n → T (parts (R i j) (P i j) (Q i j))) → total n w R ≡ total n w P + total n w Q
  unfolding total
  total_parts R P Q t =
      sum_ext n _ _
      (λ i hi. sum_ext n _ _ (λ j hj. cond_parts (R i j) (P i j) (Q i j) (w i j) (t i j hi hj)) ∙ sum-add n _ _)
      ∙ sum-add n _ _

  -- one pair that passes weighs no more than all
  pub total-pair : (P : Pairs) (i j : ℕ) → i < n → j < n → T (P i j) → w i j ≤ total n w P
  unfolding total
  total-pair P i j hi hj t =
      le_trans
      (le_of_eq (ap (λ (b : Bool). cond b (w i j) 0) (sym (is_true (P i j) t))))
      (le_trans
      (sum_term n (λ j. cond (P i j) (w i j) 0) j hj)
      (sum_term n (λ i. sum n (λ j. cond (P i j) (w i j) 0)) i hi))

-- two tallies and two tests that agree at every two bones below n
pub total_same : (n : ℕ) (v w : Tally) (P Q : Pairs) → ((i j : ℕ) → i < n → j < n → v i j ≡ w i j) → ((i j : ℕ) → i < n → j < n → P i j ≡ Q i j) → total n v P ≡ total n w Q
unfolding total
total_same n v w P Q e t =
    sum_ext n _ _ (λ i hi. sum_ext n _ _ (λ j hj. ap₂ (λ (b : Bool) (x : ℕ). cond b x 0) (t i j hi hj) (e i j hi hj)))

pub total_ext : (n : ℕ) (w : Tally) (P Q : Pairs) → ((i j : ℕ) → i < n → j < n → P i j ≡ Q i j) → total n w P ≡ total n w Q
total_ext n w P Q t = total_same n w w P Q (λ i j hi hj. refl) t

-- of a symmetric tally the pairs may be turned round
pub total_turn : (n : ℕ) (w : Tally) → Symmetric w → (P : Pairs) → total n w P ≡ total n w (λ i j. P j i)
unfolding total
total_turn n w s P =
    sum_swap n n (λ i j. cond (P i j) (w i j) 0)
    ∙ sum_ext n _ _ (λ i hi. sum_ext n _ _ (λ j hj. ap (λ (x : ℕ). cond (P j i) x 0) (s j i)))

-- no pair passes
pub total_none : (n : ℕ) (w : Tally) (P : Pairs) → ((i j : ℕ) → i < n → j < n → T (not (P i j))) → total n w P ≡ 0
unfolding total
total_none n w P f =
    sum_ext n _ _
    (λ i hi. sum_ext n _ (λ j. 0) (λ j hj. ap (λ (b : Bool). cond b (w i j) 0) (is_false (P i j) (f i j hi hj))) ∙ sum-zero n)
    ∙ sum-zero n
