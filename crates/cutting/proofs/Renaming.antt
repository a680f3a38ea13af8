-- Laws of renaming the bones of a side: one bone, one run of bones after another, and a byte that is nought.
-- Assumes nothing.
use Prim.Native.Nat.{ℕ, ◌+◌, ◌/◌, ◌%◌, ◌^◌, ◌≤◌, ◌<◌}
use mathlib.Core.Path.{◌≡◌, sym, ◌∙◌, ap}
use mathlib.Core.Bool.{Bool, cond, not, ◌&&◌}
use mathlib.Core.Logic.{⊎_elim}
use mathlib.Core.List.{List, [], append-nil}
use native.Mathlib.Nat.{zero-div}
use native.Mathlib.Omega.{arith}
use lib.Dec.{T, eqb, leb, ltb, eqb→eq, leb→le, ltb→lt, nltb→le, not_T}
use lib.ListN.{length, get_or, set, length-set}
use lib.Seq.{get_or-set_same, get_or-set_other, ext_get_or}
use borrow.Author.Tests.{lt-ltb, le-leb}
use Rattle.meaning.specs.Count.{Bones}
use Rattle.meaning.specs.Heap.{Heap}
use Rattle.meaning.proofs.Tests.{decide, is_false, fails, left_of, right_of, neqb→ne}
use Rattle.weighing.specs.Side.{heap_of, side_of}
use Rattle.cutting.specs.Names.{names, renamed_in}
use Rattle.cutting.proofs.Names.{length-names, names_at, names_same, names_of_heap}

-- no bone of a byte that is nought is on the side
pub byte_nought : (side : List ℕ) (b : ℕ) → get_or side (b / 8) 0 ≡ 0 → T (not (side_of side b))
unfolding side_of
byte_nought side b e = fails (ap (λ (x : ℕ). eqb (x / 2 ^ (b % 8) % 2) 1) e ∙ ap (λ (x : ℕ). eqb (x % 2) 1) (zero-div (2 ^ (b % 8))))

name_at : (n : ℕ) (h : Heap) (b : ℕ) → b < n → get_or (names n h) b 0 ≡ h b
name_at n h b l = ap (λ (x : List ℕ). get_or x b 0) (sym (append-nil (names n h))) ∙ names_at n h [] b l

module _ (X : Bones) (name : ℕ) where
  -- a bone that the run has, and one that it has not or that is not on the side
  pub renamed_in_lem : (from to : ℕ) (h : Heap) (b : ℕ) → from ≤ b → b < to → renamed_in from to X name h b ≡ cond (X b) name (h b)
  unfolding renamed_in
  renamed_in_lem from to h b l m = rw (le-leb from b l, lt-ltb b to m)

  pub renamed_out : (from to : ℕ) (h : Heap) (b : ℕ) → (from ≤ b → b < to → T (X b) → ⊥) → renamed_in from to X name h b ≡ h b
  unfolding renamed_in
  renamed_out from to h b f =
      ap (λ (t : Bool). cond t name (h b)) (is_false (leb from b && ltb b to && X b) (not_T (leb from b && ltb b to && X b) none))
    where
      none : T (leb from b && ltb b to && X b) → ⊥
      none t =
          let r = left_of (leb from b && ltb b to) (X b) t in
          f (leb→le from b (left_of (leb from b) (ltb b to) r)) (ltb→lt b to (right_of (leb from b) (ltb b to) r)) (right_of (leb from b && ltb b to) (X b) t)

  -- a run in which no bone is on the side
  pub renamed_none : (n from to : ℕ) (l : List ℕ) → length l ≡ n → ((b : ℕ) → from ≤ b → b < to → T (X b) → ⊥) → l ≡ names n (renamed_in from to X name (heap_of l))
  renamed_none n from to l e f =
      sym (names_of_heap n l e) ∙ names_same n _ _ (λ b m. sym (renamed_out from to (heap_of l) b (f b)))

  -- one bone
  renamed_one : (n b : ℕ) (l : List ℕ) → length l ≡ n → b < n → set l b (cond (X b) name (heap_of l b)) ≡ names n (renamed_in b (b + 1) X name (heap_of l))
  unfolding heap_of
  renamed_one n b l e m =
      let new = renamed_in b (b + 1) X name (heap_of l) in
      ext_get_or 0 _ _ (length-set l b (cond (X b) name (heap_of l b)) ∙ e ∙ sym (length-names n new))
      (λ c k. let k : c < n = omega (arith, length-set l b (cond (X b) name (heap_of l b))) in
      ⊎_elim
      (λ t. let q = eqb→eq c b t in rw q (get_or-set_same l b _ 0 (omega arith) ∙ sym (renamed_in_lem b (b + 1) (heap_of l) b (omega arith) (omega arith)) ∙ sym (name_at n new b m)))
      (λ t. get_or-set_other l b c _ 0 (neqb→ne c b t) ∙ sym (renamed_out b (b + 1) (heap_of l) c (λ x y z. neqb→ne c b t (omega arith))) ∙ sym (name_at n new c k))
      (decide (eqb c b)))

  -- one run after another
  pub renamed_next : (n from mid to : ℕ) (h : Heap) {l new : List ℕ} → from ≤ mid → mid ≤ to → l ≡ names n (renamed_in from mid X name h) → new ≡ names n (renamed_in mid to X name (heap_of l))
      → new ≡ names n (renamed_in from to X name h)
  unfolding heap_of renamed_in
  renamed_next n from mid to h {l} lo hi e f =
      f ∙ names_same n _ _ (λ b m. ap (λ (x : ℕ). cond (leb mid b && ltb b to && X b) name x) (ap (λ (x : List ℕ). get_or x b 0) e ∙ name_at n (renamed_in from mid X name h) b m)
      ∙ ⊎_elim
      (λ t. let q = ltb→lt b mid t in renamed_out mid to (renamed_in from mid X name h) b (λ x y z. omega arith) ∙ ap (λ (u : Bool). cond (leb from b && u && X b) name (h b)) (lt-ltb b mid q ∙ sym (lt-ltb b to (omega arith))))
      (λ t. let q = nltb→le b mid t in ap (λ (x : ℕ). cond (leb mid b && ltb b to && X b) name x) (renamed_out from mid h b (λ x y z. omega arith)) ∙ ap (λ (u : Bool). cond (u && ltb b to && X b) name (h b)) (le-leb mid b q ∙ sym (le-leb from b (omega arith))))
      (decide (ltb b mid)))

  -- a run and the bone behind it
  pub renamed_more : (n from b : ℕ) (h : Heap) {l : List ℕ} → from ≤ b → b < n → l ≡ names n (renamed_in from b X name h) → set l b (cond (X b) name (heap_of l b)) ≡ names n (renamed_in from (b + 1) X name h)
  renamed_more n from b h {l} lo m e =
      renamed_next n from b (b + 1) h lo (omega arith) e (renamed_one n b l (ap length e ∙ length-names n (renamed_in from b X name h)) m)
