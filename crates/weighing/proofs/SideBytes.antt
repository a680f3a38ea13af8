-- A side is known by its bones: two runs of bytes of one length that mean the same side are the same.
-- Assumes nothing.
use Rattle.std.proofs.Common.{◌≡◌, ℕ, zero, suc, ◌+◌, ◌*◌, ◌/◌, ◌%◌, ◌^◌, ◌<◌, T, eqb, List, length, get_or, sym, ap, ◌∙◌, subst, ⊎_elim, arith, eqb→eq, ext_get_or}
use native.Mathlib.Nat.{pow-succ', div-div-eq-div-mul}
use Rattle.meaning.specs.Bytes.{Bytes}
use Rattle.meaning.proofs.Tests.{decide, eq→eqb, neqb→ne}
use Rattle.weighing.specs.Side.{side_of}

-- a bit is known by whether it is 1
bit_same : (p q : ℕ) → eqb (p % 2) 1 ≡ eqb (q % 2) 1 → p % 2 ≡ q % 2
bit_same p q e =
    ⊎_elim (λ t. omega (arith, eqb→eq (p % 2) 1 t, eqb→eq (q % 2) 1 (subst T e t)))
    (λ f. let off : p % 2 ≡ 1 → ⊥ = neqb→ne (p % 2) 1 f in
    let off' : q % 2 ≡ 1 → ⊥ = λ one. off (eqb→eq (p % 2) 1 (subst T (sym e) (eq→eqb (q % 2) 1 one))) in
    omega (arith, off, off'))
    (decide (eqb (p % 2) 1))

-- a number of m bits is known by them
bits_same : (m x y : ℕ) → x < 2 ^ m → y < 2 ^ m → ((j : ℕ) → j < m → x / 2 ^ j % 2 ≡ y / 2 ^ j % 2) → x ≡ y
bits_same zero x y low low' f = omega arith
bits_same (suc m) x y low low' f =
    let power = pow-succ' 2 m in
    let first : x % 2 ≡ y % 2 = omega (arith, f 0 (omega arith)) in
    let others = bits_same m (x / 2) (y / 2) (omega (arith, low, power)) (omega (arith, low', power)) (λ j h. rw (← half x j, ← half y j) (f (suc j) (omega arith))) in
    omega (arith, first, others)
  where
    half : (z j : ℕ) → z / 2 ^ suc j ≡ z / 2 / 2 ^ j
    half z j = ap (λ (p : ℕ). z / p) (pow-succ' 2 j) ∙ sym (div-div-eq-div-mul z 2 (2 ^ j))

-- a side of bytes is known by its bones
pub sides_same : (s t : List ℕ) → length s ≡ length t → Bytes s → Bytes t → ((b : ℕ) → side_of s b ≡ side_of t b) → s ≡ t
unfolding side_of
sides_same s t long bytes bytes' f = ext_get_or 0 s t long (λ i h. bits_same 8 (get_or s i 0) (get_or t i 0) (bytes i) (bytes' i) (bits i))
  where
    bits : (i j : ℕ) → j < 8 → get_or s i 0 / 2 ^ j % 2 ≡ get_or t i 0 / 2 ^ j % 2
    bits i j h =
        let at : (i * 8 + j) / 8 ≡ i = omega arith in
        let bit : (i * 8 + j) % 8 ≡ j = omega arith in
        bit_same _ _ (simp (at, bit) at (f (i * 8 + j)))
