-- Laws of `weight`, `splits` and `firm`: the other side weighs the same, a part of a set weighs no more, and two firm sets that share a bone
-- have a firm union.
-- Assumes nothing.
use Prim.Native.Nat.{ℕ, ◌≤◌, ◌<◌}
use mathlib.Core.Path.{◌≡◌, refl, sym, ◌∙◌, ap₂, subst}
use mathlib.Core.Logic.{⊎_elim}
use mathlib.Core.Bool.{Bool, true, false, not, ◌&&◌, ◌||◌}
use native.Mathlib.Nat.{le_trans, le_of_eq}
use lib.Dec.{T, eqb, leb, leb→le, le→leb, nleb→lt, eqb→eq}
use Rattle.meaning.specs.Count.{Bones, some}
use Rattle.meaning.specs.Tally.{Tally, weight}
use Rattle.meaning.specs.Firm.{splits, firm}
use Rattle.meaning.proofs.Tests.{both, left_of, right_of, either, decide, same_test, ◌⇒◌, imp, taut, so, ◌⊃◌}
use Rattle.meaning.proofs.Totals.{Symmetric, total_mono, total_ext, total_turn, total_same}
use Rattle.meaning.proofs.Sets.{Same, some_intro, some_elim, some_same, every_set_intro, every_set_elim, every_set_fails, Looks}

-- the bones of X below n are all in Y
abbrev pub Within : ℕ → Bones → Bones → Type 0
Within n X Y = (b : ℕ) → b < n → T (X b) → T (Y b)

infixl 40 ◌∪◌
abbrev pub ◌∪◌ : Bones → Bones → Bones
X ∪ Y = λ b. X b || Y b

abbrev pub other : Bones → Bones
other A = λ b. not (A b)

pub weight_same : (n : ℕ) (v w : Tally) (S S' A A' : Bones) → ((i j : ℕ) → i < n → j < n → v i j ≡ w i j) → Same n S S' → Same n A A' → weight n v S A ≡ weight n w S' A'
unfolding weight
weight_same n v w S S' A A' e s a = total_same n v w _ _ e (λ i j hi hj. cc (s i hi, s j hj, a i hi, a j hj))

pub weight_other : (n : ℕ) (w : Tally) → Symmetric w → (S A : Bones) → weight n w S (other A) ≡ weight n w S A
unfolding weight
weight_other n w s S A =
    total_turn n w s _
    ∙ total_ext n w _ _ (λ i j hi hj. turned (S i) (A i) (S j) (A j))
  where
    turned : (a b c d : Bool) → (c && not d) && (a && not (not b)) ≡ (a && b) && (c && not d)
    turned true true true true = refl
    turned true true true false = refl
    turned true true false d = refl
    turned true false true true = refl
    turned true false true false = refl
    turned true false false d = refl
    turned false b true true = refl
    turned false b true false = refl
    turned false b false d = refl

pub weight_within : (n : ℕ) (w : Tally) (S S' A : Bones) → Within n S S' → weight n w S A ≤ weight n w S' A
unfolding weight
weight_within n w S S' A s =
    total_mono n w _ _
    (λ i j hi hj. taut 6 (λ si ti sj tj ai aj. (si ⇒ ti) ⊃ (sj ⇒ tj) ⊃ so ((si && ai) && (sj && not aj) ⇒ (ti && ai) && (tj && not aj))) tt
    (S i) (S' i) (S j) (S' j) (A i) (A j) (imp (S i) (S' i) (s i hi)) (imp (S j) (S' j) (s j hj)))

-- of the side, only what lies in the set counts
pub weight_inside : (n : ℕ) (w : Tally) (S A : Bones) → weight n w S A ≡ weight n w S (λ b. S b && A b)
unfolding weight
weight_inside n w S A =
    total_ext n w _ _
    (λ i j hi hj. same_test _ _
    (taut 4 (λ a x b y. ((a && x) && (b && not y)) ⊃ so ((a && (a && x)) && (b && not (b && y)))) tt (S i) (A i) (S j) (A j))
    (taut 4 (λ a x b y. ((a && (a && x)) && (b && not (b && y))) ⊃ so ((a && x) && (b && not y))) tt (S i) (A i) (S j) (A j)))

pub splits_intro : (n : ℕ) (S A : Bones) (x y : ℕ) → x < n → y < n → T (S x) → T (A x) → T (S y) → T (not (A y)) → T (splits n S A)
unfolding splits
splits_intro n S A x y hx hy sx ax sy ay =
    both (some n (λ b. S b && A b)) (some n (λ b. S b && not (A b)))
    (some_intro n (λ b. S b && A b) x hx (both (S x) (A x) sx ax))
    (some_intro n (λ b. S b && not (A b)) y hy (both (S y) (not (A y)) sy ay))

-- a bone of each side
pub record Parted (n : ℕ) (S A : Bones) : Type 0 where
  pub x : ℕ
  pub y : ℕ
  pub x_bone : x < n
  pub y_bone : y < n
  pub x_set : T (S x)
  pub y_set : T (S y)
  pub x_side : T (A x)
  pub y_side : T (not (A y))

pub splits_elim : (n : ℕ) (S A : Bones) → T (splits n S A) → Parted n S A
unfolding splits
splits_elim n S A t =
    let p = some_elim n (λ b. S b && A b) (left_of (some n (λ b. S b && A b)) (some n (λ b. S b && not (A b))) t) in
    let q = some_elim n (λ b. S b && not (A b)) (right_of (some n (λ b. S b && A b)) (some n (λ b. S b && not (A b))) t) in
    record {
      x = p.0;
      y = q.0;
      x_bone = p.1;
      y_bone = q.1;
      x_set = left_of (S p.0) (A p.0) p.2;
      y_set = left_of (S q.0) (not (A q.0)) q.2;
      x_side = right_of (S p.0) (A p.0) p.2;
      y_side = right_of (S q.0) (not (A q.0)) q.2;
    }

pub splits_same : (n : ℕ) (S S' A A' : Bones) → Same n S S' → Same n A A' → splits n S A ≡ splits n S' A'
unfolding splits
splits_same n S S' A A' s a =
    ap₂ ◌&&◌
    (some_same n _ _ (λ b h. ap₂ ◌&&◌ (s b h) (a b h)))
    (some_same n _ _ (λ b h. ap₂ (λ (x y : Bool). x && not y) (s b h) (a b h)))

-- the other side splits too
pub splits_other : (n : ℕ) (S A : Bones) → T (splits n S A) → T (splits n S (other A))
splits_other n S A t =
    let p = splits_elim n S A t in
    splits_intro n S (other A) p.y p.x p.y_bone p.x_bone p.y_set p.y_side p.x_set
    (taut 1 (λ a. a ⊃ so (not (not a))) tt (A p.x) p.x_side)

looks_at : (n : ℕ) (w : Tally) (k : ℕ) (S : Bones) → Looks n (λ A. not (splits n S A) || leb k (weight n w S A))
looks_at n w k S A A' a =
    ap₂ (λ (x : Bool) (m : ℕ). not x || leb k m) (splits_same n S S A A' (λ b h. refl) a) (weight_same n w w S S A A' (λ i j hi hj. refl) (λ b h. refl) a)

module _ (n : ℕ) (w : Tally) (k : ℕ) where
  pub firm_intro : (S : Bones) → ((A : Bones) → T (splits n S A) → k ≤ weight n w S A) → T (firm n w k S)
  unfolding firm
  firm_intro S f =
      every_set_intro n _
      (λ A. taut 2 (λ s l. (s ⇒ l) ⊃ so (not s || l)) tt (splits n S A) (leb k (weight n w S A))
      (imp (splits n S A) (leb k (weight n w S A)) (λ t. le→leb k (weight n w S A) (f A t))))

  pub firm_elim : (S : Bones) → T (firm n w k S) → (A : Bones) → T (splits n S A) → k ≤ weight n w S A
  unfolding firm
  firm_elim S t A s =
      leb→le k (weight n w S A)
      (taut 2 (λ s l. (not s || l) ⊃ s ⊃ so l) tt (splits n S A) (leb k (weight n w S A)) (every_set_elim n _ (looks_at n w k S) t A) s)

  -- a set that is not firm has a light split
  pub firm_fails : (S : Bones) → T (not (firm n w k S)) → (A : Bones) × T (splits n S A) × (weight n w S A < k)
  unfolding firm
  firm_fails S t =
      let r = every_set_fails n (λ A. not (splits n S A) || leb k (weight n w S A)) t in
      let s = splits n S r.0 in
      let l = leb k (weight n w S r.0) in (
        r.0,
        taut 2 (λ s l. not (not s || l) ⊃ so s) tt s l r.2,
        nleb→lt k (weight n w S r.0) (taut 2 (λ s l. not (not s || l) ⊃ so (not l)) tt s l r.2),
      )

  pub firm_same : (S S' : Bones) → Same n S S' → T (firm n w k S) → T (firm n w k S')
  firm_same S S' e t =
      firm_intro S' (λ A s. le_trans (firm_elim S t A (subst T (sym (splits_same n S S' A A e (λ b h. refl))) s)) (le_of_eq (weight_same n w w S S' A A (λ i j hi hj. refl) e (λ b h. refl))))

  -- a set that splits has two bones in it: one bone alone is firm
  pub firm-lone : (b : ℕ) → T (firm n w k (λ c. eqb c b))
  firm-lone b =
      firm_intro (λ c. eqb c b)
      (λ A s. let p = splits_elim n (λ c. eqb c b) A s in
      absurd (lib.Dec.T_not (A p.y) p.y_side (subst (λ (c : ℕ). T (A c)) (eqb→eq p.x b p.x_set ∙ sym (eqb→eq p.y b p.y_set)) p.x_side)))

  -- in a firm set within S, a side that parts two of its bones weighs k or more in S
  pub firm_parts : (F S A : Bones) → Within n F S → T (firm n w k F) → (x y : ℕ) → x < n → y < n → T (F x) → T (F y) → T (A x) → T (not (A y)) → k ≤ weight n w S A
  firm_parts F S A i f x y hx hy fx fy ax ay =
      le_trans (firm_elim F f A (splits_intro n F A x y hx hy fx ax fy ay)) (weight_within n w F S A i)

  -- 000, lemma 3.1
  pub firm_union : (X Y : Bones) (b : ℕ) → b < n → T (X b) → T (Y b) → T (firm n w k X) → T (firm n w k Y) → T (firm n w k (X ∪ Y))
  firm_union X Y b hb xb yb fx fy =
      firm_intro (X ∪ Y)
      (λ A s. let p = splits_elim n (X ∪ Y) A s in
      ⊎_elim
      (λ ab. ⊎_elim
      (λ xy. firm_parts X (X ∪ Y) A in_left fx b p.y hb p.y_bone xb xy ab p.y_side)
      (λ yy. firm_parts Y (X ∪ Y) A in_right fy b p.y hb p.y_bone yb yy ab p.y_side)
      (either (X p.y) (Y p.y) p.y_set))
      (λ ab. ⊎_elim
      (λ xx. firm_parts X (X ∪ Y) A in_left fx p.x b p.x_bone hb xx xb p.x_side ab)
      (λ yx. firm_parts Y (X ∪ Y) A in_right fy p.x b p.x_bone hb yx yb p.x_side ab)
      (either (X p.x) (Y p.x) p.x_set))
      (decide (A b)))
    where
      in_left : Within n X (X ∪ Y)
      in_left c h t = taut 2 (λ x y. x ⊃ so (x || y)) tt (X c) (Y c) t

      in_right : Within n Y (X ∪ Y)
      in_right c h t = taut 2 (λ x y. y ⊃ so (x || y)) tt (X c) (Y c) t
