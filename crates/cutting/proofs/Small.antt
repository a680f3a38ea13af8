-- What links come to between all bones: none adds more than twice its tally. So a table that they filled is small (`filled_small` of `Carried`).
-- Assumes nothing.
use Prim.Native.Nat.{ℕ, ◌+◌, ◌*◌, ◌≤◌, ◌<◌, zero-le}
use mathlib.Core.Path.{◌≡◌, refl, sym, ◌∙◌, ap, ap₂}
use mathlib.Core.Bool.{Bool, true, false, cond, ◌&&◌, ◌||◌}
use mathlib.Core.List.{List, [], ◌∷◌}
use native.Mathlib.Nat.{le_trans, le_of_eq}
use native.Mathlib.Omega.{arith}
use lib.Dec.{eqb, eqb→eq}
use lib.ListN.{length}
use Rattle.meaning.specs.declared.Link.{Link}
use Rattle.meaning.specs.Count.{sum}
use Rattle.meaning.specs.Tally.{Tally, joins, pair_tally, total}
use Rattle.meaning.proofs.Tests.{same_test, eq→eqb}
use Rattle.meaning.proofs.Sums.{sum_ext, sum_mono, sum-zero, sum-add, sum_one}
use Rattle.meaning.proofs.Totals.{Pairs}
use Rattle.links.proofs.LinksBytes.{Short}
use Rattle.links.proofs.LinksRows.{Propers}
use Rattle.links.specs.Table.{tallied}
use Rattle.links.proofs.TableHeld.{length-added}

-- a link counts at a pair at most once in each direction of writing
link_most : (p q r s t : Bool) (x y : ℕ) → cond t (cond ((p && q) || (r && s)) x 0 + y) 0 ≤ cond p (cond q x 0) 0 + cond s (cond r x 0) 0 + cond t y 0
link_most p q r s false x y = zero-le
link_most true true r s true x y = omega arith
link_most true false true true true x y = omega arith
link_most true false true false true x y = omega arith
link_most true false false s true x y = omega arith
link_most false q true true true x y = omega arith
link_most false q true false true x y = omega arith
link_most false q false s true x y = omega arith

module _ (n : ℕ) where
  sum_three : (f g h : ℕ → ℕ) → sum n (λ i. f i + g i + h i) ≡ sum n f + sum n g + sum n h
  sum_three f g h = sum-add n (λ i. f i + g i) h ∙ ap (λ (m : ℕ). m + sum n h) (sum-add n f g)

  -- of a row, and of all rows, one place alone
  at_one : (m x : ℕ) → m < n → sum n (λ i. cond (eqb m i) x 0) ≡ x
  at_one m x h =
      sum_ext n _ _ (λ i hi. ap (λ (t : Bool). cond t x 0) (same_test (eqb m i) (eqb i m) (λ t. eq→eqb i m (sym (eqb→eq m i t))) (λ t. eq→eqb m i (sym (eqb→eq i m t)))))
      ∙ sum_one n m x h

  in_row : (m x : ℕ) → m < n → (t : Bool) → sum n (λ j. cond t (cond (eqb m j) x 0) 0) ≡ cond t x 0
  in_row m x h true = at_one m x h
  in_row m x h false = sum-zero n

  -- one link more
  total-link : (l : Link) (w : Tally) (P : Pairs) → l.a < n → l.b < n → total n (λ i j. cond (joins l i j) l.tally 0 + w i j) P ≤ l.tally + l.tally + total n w P
  unfolding total joins
  total-link l w P ha hb =
      le_trans
      (sum_mono n _ _
      (λ i hi. le_trans
      (sum_mono n _ _ (λ j hj. link_most (eqb l.a i) (eqb l.b j) (eqb l.a j) (eqb l.b i) (P i j) l.tally (w i j)))
      (le_of_eq
      (sum_three _ _ _ ∙ ap₂ (λ (x y : ℕ). x + y + sum n (λ j. cond (P i j) (w i j) 0)) (in_row l.b l.tally hb (eqb l.a i)) (in_row l.a l.tally ha (eqb l.b i))))))
      (le_of_eq (sum_three _ _ _ ∙ ap₂ (λ (x y : ℕ). x + y + total n w P) (at_one l.a l.tally ha) (at_one l.b l.tally hb)))

  pub links_total : (links : List Link) (P : Pairs) → Propers n links → Short links → total n (pair_tally links) P ≤ length links * 131070
  unfolding total pair_tally Propers Short
  links_total [] P p s = le_of_eq (sum_ext n _ _ (λ i hi. sum_ext n _ _ (λ j hj. nought (P i j)) ∙ sum-zero n) ∙ sum-zero n)
    where
      nought : (t : Bool) → ◌≡◌ {A = ℕ} (cond t 0 0) 0
      nought true = refl
      nought false = refl
  links_total (l ∷ ls) P p s = omega (arith, total-link l (pair_tally ls) P p.0.first_end p.0.second_end, links_total ls P p.1 s.1, s.0)

pub length-tallied : (links : List Link) (t : List ℕ) → length (tallied t links) ≡ length t
unfolding tallied
length-tallied [] t = refl
length-tallied (l ∷ ls) t = length-tallied ls _ ∙ length-added t l
