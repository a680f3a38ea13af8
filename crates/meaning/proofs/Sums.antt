-- Laws of `sum`: equal terms, greater terms, sums of sums, exchange, one term alone, a longer range.
-- Assumes nothing.
use Prim.Native.Nat.{ℕ, zero, suc, ◌+◌, ◌≤◌, ◌<◌}
use mathlib.Core.Path.{◌≡◌, refl, sym, ◌∙◌, ap, ap₂}
use mathlib.Core.Logic.{⊎_elim}
use mathlib.Core.Bool.{Bool, true, false, cond}
use native.Mathlib.Nat.{le_refl, not-suc-le-zero, eq-or-lt_of_le, le_of_suc-le-suc}
use native.Mathlib.Numerals.{add-one}
use native.Mathlib.Omega.{arith}
use lib.Dec.{T, eqb, eqb→eq}
use Rattle.meaning.specs.Count.{Bones, sum, count}
use Rattle.meaning.proofs.Tests.{is_true, is_false, eq→eqb, ne→neqb}

-- a sum grows by its next term
pub sum_next : (i : ℕ) (f : ℕ → ℕ) → sum (i + 1) f ≡ sum i f + f i
unfolding sum
sum_next i f = ap (λ (k : ℕ). sum k f) (add-one i)

pub sum_ext : (n : ℕ) (f g : ℕ → ℕ) → ((i : ℕ) → i < n → f i ≡ g i) → sum n f ≡ sum n g
unfolding sum
sum_ext zero f g e = refl
sum_ext (suc n) f g e = ap₂ ◌+◌ (sum_ext n f g (λ i h. e i (omega arith))) (e n (omega arith))

pub sum_mono : (n : ℕ) (f g : ℕ → ℕ) → ((i : ℕ) → i < n → f i ≤ g i) → sum n f ≤ sum n g
unfolding sum
sum_mono zero f g e = le_refl 0
sum_mono (suc n) f g e = omega (arith, sum_mono n f g (λ i h. e i (omega arith)), e n (omega arith))

pub sum-zero : (n : ℕ) → sum n (λ i. 0) ≡ 0
unfolding sum
sum-zero zero = refl
sum-zero (suc n) = omega (arith, sum-zero n)

pub sum-add : (n : ℕ) (f g : ℕ → ℕ) → sum n (λ i. f i + g i) ≡ sum n f + sum n g
unfolding sum
sum-add zero f g = refl
sum-add (suc n) f g = omega (arith, sum-add n f g)

pub sum_swap : (n m : ℕ) (f : ℕ → ℕ → ℕ) → sum n (λ i. sum m (λ j. f i j)) ≡ sum m (λ j. sum n (λ i. f i j))
unfolding sum
sum_swap zero m f = sym (sum-zero m)
sum_swap (suc n) m f = ap (λ (x : ℕ). x + sum m (λ j. f n j)) (sum_swap n m f) ∙ sym (sum-add m (λ j. sum n (λ i. f i j)) (λ j. f n j))

-- a term is at most the sum
pub sum_term : (n : ℕ) (f : ℕ → ℕ) (i : ℕ) → i < n → f i ≤ sum n f
unfolding sum
sum_term zero f i h = absurd (not-suc-le-zero h)
sum_term (suc n) f i h =
    ⊎_elim (λ e. omega (arith, ap f e)) (λ l. omega (arith, sum_term n f i l)) (eq-or-lt_of_le (le_of_suc-le-suc h))

-- a sum of which one term alone is not nought
pub sum_one : (n m x : ℕ) → m < n → sum n (λ b. cond (eqb b m) x 0) ≡ x
unfolding sum
sum_one zero m x h = absurd (not-suc-le-zero h)
sum_one (suc n) m x h =
    ⊎_elim
    (λ e. omega (arith, sum_ext n (λ b. cond (eqb b m) x 0) (λ b. 0) (λ b l. off b (λ q. absurd (omega arith))), sum-zero n, at_last (sym e)))
    (λ l. omega (arith, sum_one n m x l, off n (λ q. absurd (omega arith))))
    (eq-or-lt_of_le (le_of_suc-le-suc h))
  where
    off : (b : ℕ) → (b ≡ m → ⊥) → cond (eqb b m) x 0 ≡ 0
    off b f = ap (λ (t : Bool). cond t x 0) (is_false (eqb b m) (ne→neqb b m f))

    at_last : n ≡ m → cond (eqb n m) x 0 ≡ x
    at_last e = ap (λ (t : Bool). cond t x 0) (is_true (eqb n m) (eq→eqb n m e))

-- a term or nought, where the term is looked at only if it counts
pub cond_same : (t : Bool) {x y : ℕ} → (T t → x ≡ y) → cond t x 0 ≡ cond t y 0
cond_same true e = e tt
cond_same false e = refl

-- a sum of which the term at m alone counts
pub sum_at : (n m : ℕ) (f : ℕ → ℕ) → m < n → sum n (λ b. cond (eqb b m) (f b) 0) ≡ f m
sum_at n m f h = sum_ext n _ (λ b. cond (eqb b m) (f m) 0) (λ b l. cond_same (eqb b m) (λ t. ap f (eqb→eq b m t))) ∙ sum_one n m (f m) h

pub count_same : (n : ℕ) (X Y : Bones) → ((b : ℕ) → b < n → X b ≡ Y b) → count n X ≡ count n Y
unfolding count
count_same n X Y e = sum_ext n _ _ (λ b h. ap (λ (t : Bool). cond t 1 0) (e b h))

pub count_most : (n : ℕ) (X : Bones) → count n X ≤ n
unfolding count sum
count_most zero X = le_refl 0
count_most (suc n) X = omega (arith, count_most n X, at_most (X n))
  where
    at_most : (t : Bool) → cond t 1 0 ≤ 1
    at_most true = le_refl 1
    at_most false = omega arith
