-- Laws of what a test chooses and of stores; and of lists of bones: which are listed, two places that change what they hold, and marks counted.
-- Assumes nothing.
use Rattle.std.proofs.Common.{◌≡◌, ℕ, zero, suc, ◌+◌, ◌-◌, ◌<◌, ◌≤◌, Bool, true, false, cond, not, ◌&&◌, ◌||◌, T, eqb, ltb, List, length, get_or, take, set, replicate, sym, refl, ap, ◌∙◌, ap₂, ⊎_elim, le_refl, eq-or-lt_of_le, not-suc-le-zero, add-one, arith, eqb→eq, ltb→lt, lt→ltb, length-set, get_or-set_other, get_or-set_same, lt-length-set}
use Rattle.std.specs.Int.{from_bool}
use Rattle.std.specs.List.{count_by, list_any, range_with_len}
use Rattle.std.proofs.lemmas.List.Sums.{count_by_more_no, count_by_more_yes}
use mathlib.Core.Bool.{beq}
use native.Mathlib.Decide.{ℕ_discrete}
use lib.Dec.{eqb_refl, not_T}
use Rattle.meaning.specs.Count.{Bones, sum, count, some}
use Rattle.meaning.proofs.Tests.{◌⇒◌, imp, decide, either, or_left, or_right, both, left_of, right_of, is_true, is_false, same_test, eq→eqb, neqb→ne, ne→neqb}
use Rattle.meaning.proofs.Sums.{sum_next, sum_ext, sum-zero, sum-add, count_most, sum_at}
use Rattle.meaning.proofs.Sets.{some_intro, some_elim, some_same}
use Rattle.weighing.specs.Lists.{listed, Once, swapped, marked}
use Rattle.weighing.specs.Merge.{unmarked}

pub cond_yes : (t : Bool) (a b : ℕ) → T t → cond t a b ≡ a
cond_yes true a b h = refl
cond_yes false a b h = absurd h

pub cond_no : (t : Bool) (a b : ℕ) → T (not t) → cond t a b ≡ b
cond_no true a b h = absurd h
cond_no false a b h = refl

-- a test as a number
pub bit_of : (t : Bool) → (from_bool t ≡ cond t 1 0) × (from_bool t ≤ 1)
bit_of true = (refl, omega arith)
bit_of false = (refl, omega arith)

pub cond_none : (t : Bool) → ◌≡◌ {A = ℕ} (cond t 0 0) 0
cond_none true = refl
cond_none false = refl

pub cond_and : (a b : Bool) (x : ℕ) → cond (a && b) x 0 ≡ cond a (cond b x 0) 0
cond_and true b x = refl
cond_and false b x = refl

pub cond_or : (a e : Bool) (x : ℕ) → T (e ⇒ not a) → cond (a || e) x 0 ≡ cond a x 0 + cond e x 0
cond_or true true x t = absurd t
cond_or true false x t = omega arith
cond_or false e x t = omega arith

pub cond_plus : (t : Bool) (x y : ℕ) → cond t (x + y) 0 ≡ cond t x 0 + cond t y 0
cond_plus true x y = refl
cond_plus false x y = refl

pub beq_same : (a b : Bool) → T (beq a b) → a ≡ b
beq_same true true t = refl
beq_same false false t = refl
beq_same false true t = elim t [ ]
beq_same true false t = elim t [ ]

pub eqb_turn : (a b : ℕ) → eqb a b ≡ eqb b a
eqb_turn a b = same_test _ _ (λ t. eq→eqb b a (sym (eqb→eq a b t))) (λ t. eq→eqb a b (sym (eqb→eq b a t)))

-- below i + 1 is below i, except at i
pub ltb_skip : (b i : ℕ) → (b ≡ i → ⊥) → ltb b i ≡ ltb b (i + 1)
ltb_skip b i f = same_test _ _ (λ t. lt→ltb b (i + 1) (omega (arith, ltb→lt b i t))) (λ t. lt→ltb b i (omega (arith, ltb→lt b (i + 1) t)))

-- a run that is the same in every place
pub blank : {A : Type 0} (v : A) (s b : ℕ) → get_or (replicate s v) b v ≡ v
blank v zero b = refl
blank v (suc s) zero = refl
blank v (suc s) (suc b) = blank v s b

pub noughts : (s b : ℕ) → ◌≡◌ {A = ℕ} (get_or (replicate s 0) b 0) 0
noughts = blank 0

-- what a place holds after a store, by whether it is the one
pub stored : {A : Type 0} (xs : List A) (at : ℕ) (v d : A) (P : ℕ → A → Type 0) → at < length xs → P at v → (i : ℕ) → ((i ≡ at → ⊥) → P i (get_or xs i d)) → P i (get_or (set xs at v) i d)
stored xs at v d P h here i other = elim (ℕ_discrete i at) [ yes e ↦ rw (e, get_or-set_same xs at v d h) here | no n ↦ rw (get_or-set_other xs at i v d n) (other n) ]

-- ---- which bones are listed

pub listed_at : (xs : List ℕ) (m i : ℕ) → i < m → T (listed xs m (get_or xs i 0))
unfolding listed
listed_at xs m i h = some_intro m _ i h (eqb_refl (get_or xs i 0))

-- a bone that stands in a place is listed
pub listed_by : (xs : List ℕ) (m i b : ℕ) → i < m → get_or xs i 0 ≡ b → T (listed xs m b)
listed_by xs m i b h e = rw e at (listed_at xs m i h)

pub listed-place : (xs : List ℕ) (m b : ℕ) → T (listed xs m b) → (i : ℕ) × (i < m) × (get_or xs i 0 ≡ b)
unfolding listed
listed-place xs m b t = let r = some_elim m (λ i. eqb b (get_or xs i 0)) t in (r.0, r.1, sym (eqb→eq b (get_or xs r.0 0) r.2))

-- a set with one bone more
abbrev pub with_one : Bones → ℕ → Bones
with_one R c b = R b || eqb b c

-- the first places with the next one, as sets
pub listed_more : (xs : List ℕ) (m : ℕ) → listed xs (m + 1) ≡ with_one (listed xs m) (get_or xs m 0)
unfolding listed some
listed_more xs m = ap (listed xs) (add-one m)

pub listed_less : (xs : List ℕ) (l m b : ℕ) → l ≤ m → T (listed xs l b) → T (listed xs m b)
listed_less xs l m b h t = let r = listed-place xs l b t in listed_by xs m r.0 b (omega arith) r.2

pub listed_ext : (xs ys : List ℕ) (m : ℕ) → ((i : ℕ) → i < m → get_or xs i 0 ≡ get_or ys i 0) → (b : ℕ) → listed xs m b ≡ listed ys m b
unfolding listed
listed_ext xs ys m e b = some_same m _ _ (λ i h. ap (eqb b) (e i h))

pub listed_low : {xs : List ℕ} {m : ℕ} → Once xs m → (b : ℕ) → T (listed xs m b) → b < 128
listed_low {xs} {m} so b t = let r = listed-place xs m b t in omega (arith, so.low r.0 r.1, r.2)

pub listed-not : {xs : List ℕ} {M : ℕ} → Once xs M → (m j : ℕ) → m ≤ j → j < M → T (not (listed xs m (get_or xs j 0)))
listed-not {xs} so m j h l =
    not_T (listed xs m (get_or xs j 0))
    (λ t. let r = listed-place xs m (get_or xs j 0) t in omega (arith, so.once r.0 j (omega arith) l r.2))

pub once_less : {xs : List ℕ} {l m : ℕ} → Once xs m → l ≤ m → Once xs l
once_less so h =
    record {
      long = so.long;
      few = omega (arith, so.few);
      low = λ i l. so.low i (omega arith);
      once = λ i j hi hj e. so.once i j (omega arith) (omega arith) e;
    }

-- a sum over the places is one over the bones
pub listed-sum : {xs : List ℕ} {m : ℕ} → Once xs m → (f : ℕ → ℕ) → sum m (λ i. f (get_or xs i 0)) ≡ sum 128 (λ b. cond (listed xs m b) (f b) 0)
unfolding sum listed some
listed-sum {m = zero} so f = sym (sum-zero 128)
listed-sum {xs} {m = suc m} so f =
    ap₂ ◌+◌ (listed-sum {m = m} (once_less so (omega arith)) f) (sym (sum_at 128 (get_or xs m 0) f (so.low m (le_refl (suc m)))))
    ∙ sym (sum-add 128 (λ b. cond (listed xs m b) (f b) 0) (λ b. cond (eqb b (get_or xs m 0)) (f b) 0))
    ∙ sum_ext 128 _ _ (λ b h. sym (cond_or (listed xs m b) (eqb b (get_or xs m 0)) (f b) (imp (eqb b (get_or xs m 0)) (not (listed xs m b)) (λ t. rw (eqb→eq b _ t) (listed-not so m m (le_refl m) (le_refl (suc m)))))))

-- ---- two places change what they hold

-- what holds of ys, which is xs but that the bone in place `at` changed places with the last of the first `left`
pub record Taken (xs ys : List ℕ) (at left M : ℕ) : Type 0 where
  pub once : Once ys M
  pub same : (b : ℕ) → listed ys M b ≡ listed xs M b
  pub free : (b : ℕ) → listed ys (left - 1) b ≡ (listed xs left b && not (eqb b (get_or xs at 0)))
  pub last : get_or ys (left - 1) 0 ≡ get_or xs at 0
  pub above : (i : ℕ) → left ≤ i → get_or ys i 0 ≡ get_or xs i 0

module _ (xs : List ℕ) (at left M : ℕ) (so : Once xs M) (here : at < left) (few : left ≤ M) where
  abbrev after : List ℕ
  after = swapped xs at (left - 1)

  last_at : get_or after (left - 1) 0 ≡ get_or xs at 0
  last_at = get_or-set_same (set xs at _) (left - 1) _ 0 (lt-length-set xs at _ (omega (arith, so.long, so.few)))

  at_at : get_or after at 0 ≡ get_or xs (left - 1) 0
  at_at = elim (ℕ_discrete at (left - 1)) [
    | yes e ↦ ap (λ (z : ℕ). get_or after z 0) e ∙ last_at ∙ ap (λ (z : ℕ). get_or xs z 0) e
    | no n ↦ get_or-set_other (set xs at _) (left - 1) at _ 0 n ∙ get_or-set_same xs at _ 0 (omega (arith, so.long, so.few))
  ]

  others_at : (k : ℕ) → (k ≡ left - 1 → ⊥) → (k ≡ at → ⊥) → get_or after k 0 ≡ get_or xs k 0
  others_at k n o = get_or-set_other (set xs at _) (left - 1) k _ 0 n ∙ get_or-set_other xs at k _ 0 o

  -- the place with which place k changed what it holds: another one, or itself
  partner : (k : ℕ) → (z : ℕ) × (get_or after k 0 ≡ get_or xs z 0) × (get_or after z 0 ≡ get_or xs k 0) × ((m : ℕ) → left ≤ m → k < m → z < m)
  partner k = elim (ℕ_discrete k (left - 1)) [
    | yes e ↦ (at, rw e last_at, rw e at_at, λ m h l. omega arith)
    | no n ↦ elim (ℕ_discrete k at) [ yes o ↦ (left - 1, rw o at_at, rw o last_at, λ m h l. omega arith) | no o ↦ (k, others_at k n o, others_at k n o, λ m h l. l) ]
  ]

  once_after : Once after M
  once_after =
      record {
        long = simp length-set so.long;
        few = so.few;
        low = λ i l. let z = partner i in omega (arith, z.1, so.low z.0 (z.3 M few l));
        once = λ i j hi hj e.
            let y = partner i in
            let z = partner j in
            so.once i j hi hj (sym y.2 ∙ ap (λ (k : ℕ). get_or after k 0) (so.once y.0 z.0 (y.3 M few hi) (z.3 M few hj) (sym y.1 ∙ e ∙ z.1)) ∙ z.2);
      }

  listed-after : (m : ℕ) → left ≤ m → (b : ℕ) → listed after m b ≡ listed xs m b
  listed-after m h b =
      same_test _ _
      (λ t. let r = listed-place after m b t in
      let z = partner r.0 in
      listed_by xs m z.0 b (z.3 m h r.1) (sym z.1 ∙ r.2))
      (λ t. let r = listed-place xs m b t in
      let z = partner r.0 in
      listed_by after m z.0 b (z.3 m h r.1) (z.2 ∙ r.2))

  -- those before the last are the others
  free_after : (b : ℕ) → listed after (left - 1) b ≡ (listed xs left b && not (eqb b (get_or xs at 0)))
  free_after b =
      same_test (listed after (left - 1) b) _
      (λ t. let r = listed-place after (left - 1) b t in
      both (listed xs left b) (not (eqb b (get_or xs at 0))) (rw (listed-after left (le_refl left)) at (listed_by after left r.0 b (omega arith) r.2))
      (ne→neqb b (get_or xs at 0) (λ e. omega (arith, once_after.once r.0 (left - 1) (omega arith) (omega arith) (r.2 ∙ e ∙ sym last_at)))))
      (λ t. let r = listed-place after left b (rw (listed-after left (le_refl left)) (left_of (listed xs left b) _ t)) in
      let n : r.0 ≡ left - 1 → ⊥ = λ q. neqb→ne b (get_or xs at 0) (right_of (listed xs left b) _ t) (sym r.2 ∙ rw q last_at) in
      listed_by after (left - 1) r.0 b (omega arith) r.2)

  pub swapped-taken : {ys : List ℕ} → ys ≡ swapped xs at (left - 1) → Taken xs ys at left M
  swapped-taken e = rw e (record { once = once_after; same = listed-after M few; free = free_after; last = last_at; above = λ i h. others_at i (λ q. omega arith) (λ q. omega arith) })

-- ---- marks counted

pub unmarked_most : (joins : List Bool) (m : ℕ) → unmarked joins m ≤ m
unfolding unmarked
unmarked_most joins m = count_most m _

pub unmarked_next : (joins : List Bool) (m : ℕ) → unmarked joins (m + 1) ≡ unmarked joins m + cond (not (marked joins m)) 1 0
unfolding unmarked count
unmarked_next joins m = sum_next m _

pub unmarked_tied : (joins : List Bool) (m : ℕ) → T (marked joins m) → unmarked joins (m + 1) ≡ unmarked joins m
unmarked_tied joins m t = omega (arith, rw (is_true (marked joins m) t) at (unmarked_next joins m))

pub unmarked_head : (joins : List Bool) (m : ℕ) → T (not (marked joins m)) → unmarked joins (m + 1) ≡ unmarked joins m + 1
unmarked_head joins m t = omega (arith, rw (is_false (marked joins m) t) at (unmarked_next joins m))

-- the same as the library counts
pub unmarked_count : (joins : List Bool) (m : ℕ) → m ≤ length joins → count_by not (take m joins) ≡ unmarked joins m
unfolding unmarked count sum marked
unmarked_count joins zero h = refl
unmarked_count joins (suc m) h =
    let before = unmarked_count joins m (omega arith) in
    let step : count_by not (take (m + 1) joins) ≡ unmarked joins (m + 1) = ⊎_elim
    (λ t. count_by_more_no not joins m false (omega arith) (ap not (is_true (marked joins m) t)) ∙ before ∙ sym (unmarked_tied joins m t))
    (λ f. count_by_more_yes not joins m false (omega arith) (ap not (is_false (marked joins m) f)) ∙ ap (λ (x : ℕ). x + 1) before ∙ sym (unmarked_head joins m f))
    (decide (marked joins m)) in
    rw (add-one m) at step

-- a test of the numbers below n, tried one by one
any_elim : (P : Bones) (a n : ℕ) → T (list_any P (range_with_len a n)) → (k : ℕ) × (a ≤ k) × (k < a + n) × T (P k)
any_elim P a zero t = absurd t
any_elim P a (suc n) t = ⊎_elim (λ h. (a, le_refl a, omega arith, h)) (λ h. let r = any_elim P (a + 1) n h in (r.0, omega arith, omega arith, r.3)) (either (P a) _ t)

any_intro : (P : Bones) (a n k : ℕ) → a ≤ k → k < a + n → T (P k) → T (list_any P (range_with_len a n))
any_intro P a zero k h l t = absurd (omega arith)
any_intro P a (suc n) k h l t =
    ⊎_elim (λ (e : a ≡ k). or_left (P a) _ (rw e t)) (λ g. or_right (P a) _ (any_intro P (a + 1) n k (omega arith) (omega arith) t)) (eq-or-lt_of_le h)

pub any_below : (P : Bones) (n : ℕ) → list_any P (range_with_len 0 n) ≡ some n P
any_below P n =
    same_test _ _
    (λ t. let r = any_elim P 0 n t in some_intro n P r.0 (omega arith) r.3)
    (λ t. let r = some_elim n P t in any_intro P 0 n r.0 (omega arith) (omega arith) r.2)

pub unmarked_less : (joins : List Bool) (m : ℕ) → T (marked joins 0) → 0 < m → unmarked joins m < m
unmarked_less joins zero t h = absurd (not-suc-le-zero h)
unmarked_less joins (suc zero) t h = omega (arith, unmarked_tied joins 0 t, unmarked_most joins 0)
unmarked_less joins (suc (suc m)) t h =
    let before = unmarked_less joins (suc m) t (omega arith) in
    rw (← add-one (suc m)) (⊎_elim (λ y. omega (arith, unmarked_tied joins (suc m) y)) (λ n. omega (arith, unmarked_head joins (suc m) n)) (decide (marked joins (suc m))))
