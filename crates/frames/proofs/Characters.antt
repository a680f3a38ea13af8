-- Laws of a frame's kind and of its line feed, as they are looked at: the kind that two characters mean, its payload, and the feed behind so many bytes.
-- Assumes nothing.
use Rattle.std.proofs.Common.{◌≡◌, ℕ, zero, suc, ◌*◌, ◌<◌, ◌≤◌, Bool, true, ◌&&◌, T, ltb, leb, List, [], ◌∷◌, length, get_or, sym, ◌∙◌, ⊎_elim, zero-le, eq-or-lt_of_le, arith, le→leb, lt→ltb, leb→le, T_not}
use Rattle.std.proofs.lemmas.Grind.{common_steps}
use Rattle.meaning.proofs.Tests.{both, left_of, right_of}
use Rattle.frames.specs.Frame.{payloads, is_kind}
use Rattle.frames.specs.Characters.{pair_of, kind_of, feed_at}
use Rattle.frames.proofs.Frames.{chosen}

-- the length of a payload is a byte
most : ℕ → List ℕ → Bool
most m [] = true
most m (x ∷ xs) = leb x m && most m xs

at_most : (m : ℕ) (xs : List ℕ) → T (most m xs) → (i : ℕ) → get_or xs i 0 ≤ m
unfolding most
at_most m [] t i = omega arith
at_most m (x ∷ xs) t zero = leb→le x m (left_of (leb x m) (most m xs) t)
at_most m (x ∷ xs) t (suc i) = at_most m xs (right_of (leb x m) (most m xs) t) i

pub payload_most : (kind : ℕ) → get_or payloads kind 0 < 256
unfolding most
payload_most kind = omega (arith, at_most 255 payloads tt kind)

-- a kind is a number from 1 on that the table has
pub kind_bounds : (k : ℕ) → T (is_kind k) → (1 ≤ k) × (k < length payloads)
unfolding is_kind
kind_bounds k t = grind (arith, common_steps)

pub bounds_kind : (k : ℕ) → 1 ≤ k → k < length payloads → T (is_kind k)
unfolding is_kind
bounds_kind k a b = both (leb 1 k) (ltb k (length payloads)) (le→leb 1 k a) (lt→ltb k (length payloads) b)

-- the kind that two characters mean: their number, where it is below those that the table has; nought is no kind
pub kind_low : (c d : ℕ) → pair_of c d < length payloads → pair_of c d ≡ kind_of c d
unfolding kind_of
kind_low c d low =
    ⊎_elim (λ w. sym w.1)
    (λ w. ⊎_elim (λ z. sym z ∙ sym w.1) (λ h. absurd (T_not (is_kind (pair_of c d)) w.0 (bounds_kind (pair_of c d) h low))) (eq-or-lt_of_le zero-le))
    (chosen (is_kind (pair_of c d)) (pair_of c d) 0)

pub kind_none : (c d : ℕ) → length payloads ≤ pair_of c d → 0 ≡ kind_of c d
unfolding kind_of
kind_none c d high =
    ⊎_elim (λ w. absurd (omega (arith, high, (kind_bounds (pair_of c d) w.0).1))) (λ w. sym w.1) (chosen (is_kind (pair_of c d)) (pair_of c d) 0)

-- a line feed behind so many bytes, as it is told
pub feed_told : (cs : List ℕ) (size : ℕ) → T (feed_at cs size) → (2 * size < length cs) × (get_or cs (2 * size) 0 ≡ 10)
unfolding feed_at
feed_told cs size t = grind (arith, common_steps)
