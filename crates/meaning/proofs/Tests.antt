-- Tests as facts: the connectives, deciding a test, and `taut`, which proves a test of any number of Bools by trying them all.
-- Assumes nothing.
use Prim.Native.Nat.{ℕ, zero, suc}
use mathlib.Core.Path.{◌≡◌, refl, sym, subst}
use mathlib.Core.Logic.{◌⊎◌, inl, inr}
use mathlib.Core.Bool.{Bool, true, false, not, ◌&&◌, ◌||◌}
use lib.Dec.{T, eqb, eqb→eq, eqb_refl, leb→le, ltb→lt, nleb→lt, nltb→le, T_not, not_T}

infixr 25 ◌⇒◌
abbrev pub ◌⇒◌ : Bool → Bool → Bool
true ⇒ b = b
false ⇒ b = true

pub mp : (a b : Bool) → T (a ⇒ b) → T a → T b
mp true b h t = h
mp false b h t = absurd t

pub imp : (a b : Bool) → (T a → T b) → T (a ⇒ b)
imp true b f = f tt
imp false b f = tt

pub both : (a b : Bool) → T a → T b → T (a && b)
both true b s t = t
both false b s t = s

pub left_of : (a b : Bool) → T (a && b) → T a
left_of true b t = tt
left_of false b t = t

pub right_of : (a b : Bool) → T (a && b) → T b
right_of true b t = t
right_of false b t = absurd t

pub either : (a b : Bool) → T (a || b) → T a ⊎ T b
either true b t = inl tt
either false b t = inr t

pub or_left : (a b : Bool) → T a → T (a || b)
or_left true b t = tt
or_left false b t = absurd t

pub or_right : (a b : Bool) → T b → T (a || b)
or_right true b t = tt
or_right false b t = t

pub decide : (b : Bool) → T b ⊎ T (not b)
decide true = inl tt
decide false = inr tt

pub is_true : (b : Bool) → T b → b ≡ true
is_true true t = refl
is_true false t = absurd t

pub is_false : (b : Bool) → T (not b) → b ≡ false
is_false true t = absurd t
is_false false t = refl

pub holds : {b : Bool} → b ≡ true → T b
holds e = subst T (sym e) tt

pub fails : {b : Bool} → b ≡ false → T (not b)
fails e = subst (λ (x : Bool). T (not x)) (sym e) tt

-- two tests that pass together are equal
pub same_test : (a b : Bool) → (T a → T b) → (T b → T a) → a ≡ b
same_test true true f g = refl
same_test true false f g = absurd (f tt)
same_test false true f g = absurd (g tt)
same_test false false f g = refl

pub eq→eqb : (m n : ℕ) → m ≡ n → T (eqb m n)
eq→eqb m n e = subst (λ (x : ℕ). T (eqb m x)) e (eqb_refl m)

pub neqb→ne : (m n : ℕ) → T (not (eqb m n)) → m ≡ n → ⊥
neqb→ne m n t e = T_not (eqb m n) t (eq→eqb m n e)

pub ne→neqb : (m n : ℕ) → (m ≡ n → ⊥) → T (not (eqb m n))
ne→neqb m n f = not_T (eqb m n) (λ t. f (eqb→eq m n t))

-- a claim: tests that are given, and then a test that follows
infixr 24 ◌⊃◌
pub data Claim : Type 0 where
  so : Bool → Claim
  ◌⊃◌ : Bool → Claim → Claim

abbrev pub Holds : Claim → Type 0
Holds (so b) = T b
Holds (a ⊃ c) = T a → Holds c

abbrev pub passes : Claim → Bool
passes (so b) = b
passes (a ⊃ c) = a ⇒ passes c

-- claims about n Bools, the trial of them all, and what the trial shows of any Bools
abbrev pub Claims : ℕ → Type 0
Claims zero = Claim
Claims (suc n) = Bool → Claims n

abbrev pub tries : (n : ℕ) → Claims n → Bool
tries zero f = passes f
tries (suc n) f = tries n (f true) && tries n (f false)

abbrev pub Taut : (n : ℕ) → Claims n → Type 0
Taut zero f = Holds f
Taut (suc n) f = (a : Bool) → Taut n (f a)

passed : (c : Claim) → T (passes c) → Holds c
passed (so b) t = t
passed (a ⊃ c) t = λ s. passed c (mp a (passes c) t s)

pub taut : (n : ℕ) (f : Claims n) → T (tries n f) → Taut n f
taut zero f t = passed f t
taut (suc n) f t =
    elim [
      | true ↦ taut n (f true) (left_of (tries n (f true)) (tries n (f false)) t)
      | false ↦ taut n (f false) (right_of (tries n (f true)) (tries n (f false)) t)
    ]

-- omega reads these tests as orders
ruleset tests = (leb→le, ltb→lt, eqb→eq, nleb→lt, nltb→le)
