-- Laws of `some`, `every`, `least`, `some_set` and `every_set`: each test passes exactly if what it tries is there.
-- Assumes nothing.
use Prim.Native.Nat.{ℕ, zero, suc, ◌≤◌, ◌<◌, zero-le, suc-le-suc}
use mathlib.Core.Path.{◌≡◌, refl, sym, ◌∙◌, ap, ap₂, subst}
use mathlib.Core.Logic.{◌⊎◌, ⊎_elim}
use mathlib.Core.Bool.{Bool, true, false, cond, not, ◌&&◌, ◌||◌}
use native.Mathlib.Nat.{le_refl, le_of_suc-le-suc, eq-or-lt_of_le, not-suc-le-zero, le_antisymm}
use native.Mathlib.Omega.{arith}
use lib.Dec.{T, eqb, T_not}
use Rattle.meaning.specs.Count.{Bones, some, every, least, some_set, every_set}
use Rattle.meaning.proofs.Tests.{both, left_of, right_of, either, or_left, or_right, decide, is_false, eq→eqb, same_test, taut, so, ◌⊃◌}

-- two sets with the same bones below n
abbrev pub Same : ℕ → Bones → Bones → Type 0
Same n X Y = (b : ℕ) → b < n → X b ≡ Y b

-- below suc n: below n, or n itself
pub last_or_below : (n : ℕ) {b : ℕ} → b < suc n → (b ≡ n) ⊎ (b < n)
last_or_below n h = eq-or-lt_of_le (le_of_suc-le-suc h)

pub some_intro : (n : ℕ) (X : Bones) (b : ℕ) → b < n → T (X b) → T (some n X)
unfolding some
some_intro zero X b h t = absurd (not-suc-le-zero h)
some_intro (suc n) X b h t =
    ⊎_elim (λ e. or_right (some n X) (X n) (subst (λ (m : ℕ). T (X m)) e t)) (λ l. or_left (some n X) (X n) (some_intro n X b l t)) (last_or_below n h)

pub some_elim : (n : ℕ) (X : Bones) → T (some n X) → (b : ℕ) × (b < n) × T (X b)
unfolding some
some_elim zero X t = absurd t
some_elim (suc n) X t =
    ⊎_elim (λ s. let r = some_elim n X s in (r.0, omega arith, r.2)) (λ x. (n, le_refl (suc n), x)) (either (some n X) (X n) t)

pub every_intro : (n : ℕ) (X : Bones) → ((b : ℕ) → b < n → T (X b)) → T (every n X)
unfolding every
every_intro zero X f = tt
every_intro (suc n) X f = both (every n X) (X n) (every_intro n X (λ b h. f b (omega arith))) (f n (le_refl (suc n)))

pub every_elim : (n : ℕ) (X : Bones) → T (every n X) → (b : ℕ) → b < n → T (X b)
unfolding every
every_elim zero X t b h = absurd (not-suc-le-zero h)
every_elim (suc n) X t b h =
    ⊎_elim (λ e. subst (λ (m : ℕ). T (X m)) (sym e) (right_of (every n X) (X n) t)) (λ l. every_elim n X (left_of (every n X) (X n) t) b l) (last_or_below n h)

-- where not every bone is in the set, one is not
pub every_fails : (n : ℕ) (X : Bones) → T (not (every n X)) → (b : ℕ) × (b < n) × T (not (X b))
unfolding every
every_fails zero X t = absurd t
every_fails (suc n) X t =
    ⊎_elim
    (λ s. (n, le_refl (suc n), taut 2 (λ a b. not (a && b) ⊃ a ⊃ so (not b)) tt (every n X) (X n) t s))
    (λ s. let r = every_fails n X s in (r.0, omega arith, r.2))
    (decide (every n X))

pub some_same : (n : ℕ) (X Y : Bones) → Same n X Y → some n X ≡ some n Y
unfolding some
some_same zero X Y e = refl
some_same (suc n) X Y e = ap₂ ◌||◌ (some_same n X Y (λ b h. e b (omega arith))) (e n (le_refl (suc n)))

pub every_same : (n : ℕ) (X Y : Bones) → Same n X Y → every n X ≡ every n Y
unfolding every
every_same zero X Y e = refl
every_same (suc n) X Y e = ap₂ ◌&&◌ (every_same n X Y (λ b h. e b (omega arith))) (e n (le_refl (suc n)))

-- the least bone of a set that has one: it is in the set, and no other is less
pub least_in : (n : ℕ) (X : Bones) (b : ℕ) → b < n → T (X b) → T (X (least n X)) × (least n X ≤ b)
unfolding least
least_in zero X b h t = absurd (not-suc-le-zero h)
least_in (suc n) X b h t = go (X 0) refl b h t (λ c l s. least_in n (λ d. X (suc d)) c l s)
  where
    go : (x : Bool) → X 0 ≡ x → (b : ℕ) → b < suc n → T (X b)
        → ((c : ℕ) → c < n → T (X (suc c)) → T (X (suc (least n (λ d. X (suc d))))) × (least n (λ d. X (suc d)) ≤ c))
        → T (X (cond x 0 (suc (least n (λ d. X (suc d)))))) × (cond x 0 (suc (least n (λ d. X (suc d)))) ≤ b)
    go true e b h t ih = (subst T (sym e) tt, zero-le)
    go false e zero h t ih = absurd (subst T e t)
    go false e (suc b) h t ih = let r = ih b (le_of_suc-le-suc h) t in (r.0, suc-le-suc r.1)

-- it is the only such bone
pub least_is : (n : ℕ) (X : Bones) (b : ℕ) → b < n → T (X b) → ((c : ℕ) → c < n → T (X c) → b ≤ c) → least n X ≡ b
least_is n X b h t f =
    let r = least_in n X b h t in
    le_antisymm r.1 (f (least n X) (omega (arith, r.1)) r.0)

pub least_same : (n : ℕ) (X Y : Bones) → Same n X Y → least n X ≡ least n Y
unfolding least
least_same zero X Y e = refl
least_same (suc n) X Y e =
    ap₂ (λ (x : Bool) (m : ℕ). cond x 0 (suc m)) (e 0 (suc-le-suc zero-le)) (least_same n (λ b. X (suc b)) (λ b. Y (suc b)) (λ b h. e (suc b) (suc-le-suc h)))

-- a test of sets that looks only at bones below m
abbrev pub Looks : ℕ → (Bones → Bool) → Type 0
Looks m P = (X Y : Bones) → Same m X Y → P X ≡ P Y

-- the test at the set with bone n put in
with_bone : ℕ → Bones → Bones
with_bone n X b = eqb b n || X b

with_same : (m n : ℕ) (X Y : Bones) → Same m X Y → Same m (with_bone n X) (with_bone n Y)
unfolding with_bone
with_same m n X Y e b h = ap (λ (x : Bool). eqb b n || x) (e b h)

-- a set that passes, and has no bone from n on below m, is found
found : (m n : ℕ) (P : Bones → Bool) → Looks m P → (X : Bones) → ((b : ℕ) → n ≤ b → b < m → X b ≡ false) → T (P X) → T (some_set n P)
unfolding some_set with_bone
found m zero P l X z t = subst T (l X (λ b. false) (λ b h. z b zero-le h)) t
found m (suc n) P l X z t =
    ⊎_elim
    (λ s. or_right (some_set n P) (some_set n (λ Y. P (with_bone n Y)))
    (found m n (λ Y. P (with_bone n Y)) (λ Y Z e. l (with_bone n Y) (with_bone n Z) (with_same m n Y Z e))
    (λ b. X b && not (eqb b n))
    (λ b nb bm. drops b nb bm)
    (subst T (l X (with_bone n (λ b. X b && not (eqb b n))) (λ b h. back s b)) t)))
    (λ s. or_left (some_set n P) (some_set n (λ Y. P (with_bone n Y))) (found m n P l X (λ b nb bm. none s b nb bm) t))
    (decide (X n))
  where
    drops : (b : ℕ) → n ≤ b → b < m → X b && not (eqb b n) ≡ false
    drops b nb bm =
        ⊎_elim
        (λ e. is_false _ (taut 2 (λ x y. y ⊃ so (not (x && not y))) tt (X b) (eqb b n) (eq→eqb b n (sym e))))
        (λ h. is_false _ (taut 2 (λ x y. not x ⊃ so (not (x && not y))) tt (X b) (eqb b n) (subst (λ (x : Bool). T (not x)) (sym (z b h bm)) tt)))
        (eq-or-lt_of_le nb)

    back : T (X n) → (b : ℕ) → X b ≡ (eqb b n || X b && not (eqb b n))
    back s b = same_test (X b) (eqb b n || X b && not (eqb b n)) (taut 2 (λ x y. x ⊃ so (y || x && not y)) tt (X b) (eqb b n)) (λ u. ⊎_elim (λ v. subst (λ (c : ℕ). T (X c)) (sym (lib.Dec.eqb→eq b n v)) s) (λ v. v) (either (eqb b n) (X b) (taut 2 (λ x y. (y || x && not y) ⊃ so (y || x)) tt (X b) (eqb b n) u)))

    none : T (not (X n)) → (b : ℕ) → n ≤ b → b < m → X b ≡ false
    none s b nb bm = ⊎_elim (λ e. subst (λ (c : ℕ). X c ≡ false) e (is_false (X n) s)) (λ h. z b h bm) (eq-or-lt_of_le nb)

pub some_set_intro : (n : ℕ) (P : Bones → Bool) → Looks n P → (X : Bones) → T (P X) → T (some_set n P)
some_set_intro n P l X t = found n n P l X (λ b nb bn. absurd (omega arith)) t

-- a set that is found passes, and has no bone from n on
pub some_set_elim : (n : ℕ) (P : Bones → Bool) → T (some_set n P) → (X : Bones) × ((b : ℕ) → T (X b) → b < n) × T (P X)
unfolding some_set
some_set_elim zero P t = (λ b. false, λ b x. absurd x, t)
some_set_elim (suc n) P t =
    ⊎_elim
    (λ s. let r = some_set_elim n P s in (r.0, λ b x. omega (arith, r.1 b x), r.2))
    (λ s. let r = some_set_elim n (λ X. P (λ b. eqb b n || X b)) s in
    (λ b. eqb b n || r.0 b, λ b x. ⊎_elim (λ e. omega (arith, lib.Dec.eqb→eq b n e)) (λ y. omega (arith, r.1 b y)) (either (eqb b n) (r.0 b) x), r.2))
    (either (some_set n P) (some_set n (λ X. P (λ b. eqb b n || X b))) t)

every_some : (n : ℕ) (P : Bones → Bool) → every_set n P ≡ not (some_set n (λ X. not (P X)))
unfolding every_set some_set
every_some zero P = not-not (P (λ b. false))
  where
    not-not : (b : Bool) → b ≡ not (not b)
    not-not true = refl
    not-not false = refl
every_some (suc n) P =
    ap₂ ◌&&◌ (every_some n P) (every_some n (λ X. P (λ b. eqb b n || X b)))
    ∙ de_morgan (some_set n (λ X. not (P X))) (some_set n (λ X. not (P (λ b. eqb b n || X b))))
  where
    de_morgan : (a b : Bool) → not a && not b ≡ not (a || b)
    de_morgan true b = refl
    de_morgan false b = refl

pub every_set_elim : (n : ℕ) (P : Bones → Bool) → Looks n P → T (every_set n P) → (X : Bones) → T (P X)
every_set_elim n P l t X =
    ⊎_elim
    (λ p. p)
    (λ f. absurd (T_not (some_set n (λ Y. not (P Y))) (subst T (every_some n P) t) (some_set_intro n (λ Y. not (P Y)) (λ Y Z e. ap not (l Y Z e)) X f)))
    (decide (P X))

pub every_set_fails : (n : ℕ) (P : Bones → Bool) → T (not (every_set n P)) → (X : Bones) × ((b : ℕ) → T (X b) → b < n) × T (not (P X))
every_set_fails n P t =
    some_set_elim n (λ Y. not (P Y)) (taut 1 (λ x. not (not x) ⊃ so x) tt (some_set n (λ Y. not (P Y))) (subst (λ (b : Bool). T (not b)) (every_some n P) t))

pub every_set_intro : (n : ℕ) (P : Bones → Bool) → ((X : Bones) → T (P X)) → T (every_set n P)
every_set_intro n P f =
    ⊎_elim (λ t. t) (λ t. let r = every_set_fails n P t in absurd (T_not (P r.0) r.2 (f r.0))) (decide (every_set n P))

pub some_set_same : (n : ℕ) (P Q : Bones → Bool) → ((X : Bones) → P X ≡ Q X) → some_set n P ≡ some_set n Q
unfolding some_set
some_set_same zero P Q e = e (λ b. false)
some_set_same (suc n) P Q e = ap₂ ◌||◌ (some_set_same n P Q e) (some_set_same n _ _ (λ X. e (λ b. eqb b n || X b)))

pub every_set_same : (n : ℕ) (P Q : Bones → Bool) → ((X : Bones) → P X ≡ Q X) → every_set n P ≡ every_set n Q
every_set_same n P Q e = every_some n P ∙ ap not (some_set_same n _ _ (λ X. ap not (e X))) ∙ sym (every_some n Q)
