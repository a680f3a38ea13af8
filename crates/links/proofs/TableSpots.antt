-- Where the tally of a pair stands in the table: one spot for a pair, and no other pair's.
-- Assumes nothing.
use Rattle.std.proofs.Common.{◌≡◌, ℕ, ◌<◌, not, ◌&&◌, ◌||◌, T, eqb, ◌⊎◌, sym, ◌∙◌, ap₂, inl, inr, ⊎_elim, arith, eqb→eq}
use Rattle.std.proofs.Math.Bool.{or_comm}
use Rattle.meaning.specs.declared.Link.{Link}
use Rattle.meaning.specs.Tally.{joins}
use Rattle.meaning.proofs.Tests.{both, either, left_of, right_of, or_left, or_right, decide, same_test, eq→eqb, neqb→ne}
use Rattle.links.specs.Table.{spot}

pub spot_symmetric : (i j : ℕ) → spot i j ≡ spot j i
unfolding spot
spot_symmetric i j = omega arith

pub joins_symmetric : (l : Link) (i j : ℕ) → joins l i j ≡ joins l j i
unfolding joins
joins_symmetric l i j = or_comm (eqb l.a i && eqb l.b j) (eqb l.a j && eqb l.b i)

pub spot_below : (i j : ℕ) → i < 128 → j < 128 → spot i j < 16384
unfolding spot
spot_below i j hi hj = omega arith

-- below 128, two pairs with one spot are one pair
same_first : (a b i j : ℕ) → a < 128 → b < 128 → i < 128 → j < 128 → spot a b ≡ spot i j → a ≡ i → b ≡ j
unfolding spot
same_first a b i j ha hb hi hj e s = omega arith

other_first : (a b i j : ℕ) → a < 128 → b < 128 → i < 128 → j < 128 → spot a b ≡ spot i j → (a ≡ i → ⊥) → (a ≡ j) × (b ≡ i)
unfolding spot
other_first a b i j ha hb hi hj e s = omega arith

pub one_pair : (a b i j : ℕ) → a < 128 → b < 128 → i < 128 → j < 128 → spot a b ≡ spot i j → ((a ≡ i) × (b ≡ j)) ⊎ ((a ≡ j) × (b ≡ i))
one_pair a b i j ha hb hi hj e =
    ⊎_elim
    (λ t. let s = eqb→eq a i t in inl (s, same_first a b i j ha hb hi hj e s))
    (λ f. inr (other_first a b i j ha hb hi hj e (neqb→ne a i f)))
    (decide (eqb a i))

-- a link between bones below 128 stands in the spot of the pairs that it joins, and in no other
pub joins-spot : (l : Link) (i j : ℕ) → l.a < 128 → l.b < 128 → i < 128 → j < 128 → joins l i j ≡ eqb (spot i j) (spot l.a l.b)
unfolding joins
joins-spot l i j ha hb hi hj =
    same_test ((eqb l.a i && eqb l.b j) || (eqb l.a j && eqb l.b i)) (eqb (spot i j) (spot l.a l.b))
    (λ t. eq→eqb (spot i j) (spot l.a l.b) (⊎_elim straight turned (either (eqb l.a i && eqb l.b j) (eqb l.a j && eqb l.b i) t)))
    (λ t. found (sym (eqb→eq (spot i j) (spot l.a l.b) t)) (decide (eqb l.a i)))
  where
    straight : T (eqb l.a i && eqb l.b j) → spot i j ≡ spot l.a l.b
    straight t =
        ap₂ spot (sym (eqb→eq l.a i (left_of (eqb l.a i) (eqb l.b j) t))) (sym (eqb→eq l.b j (right_of (eqb l.a i) (eqb l.b j) t)))

    turned : T (eqb l.a j && eqb l.b i) → spot i j ≡ spot l.a l.b
    turned t =
        spot_symmetric i j
        ∙ ap₂ spot (sym (eqb→eq l.a j (left_of (eqb l.a j) (eqb l.b i) t))) (sym (eqb→eq l.b i (right_of (eqb l.a j) (eqb l.b i) t)))

    found : spot l.a l.b ≡ spot i j → T (eqb l.a i) ⊎ T (not (eqb l.a i)) → T ((eqb l.a i && eqb l.b j) || (eqb l.a j && eqb l.b i))
    found e (inl t) =
        or_left (eqb l.a i && eqb l.b j) _
        (both (eqb l.a i) (eqb l.b j) t
        (eq→eqb l.b j (same_first l.a l.b i j ha hb hi hj e (eqb→eq l.a i t))))
    found e (inr t) =
        let ends = other_first l.a l.b i j ha hb hi hj e (neqb→ne l.a i t) in
        or_right (eqb l.a i && eqb l.b j) _ (both (eqb l.a j) (eqb l.b i) (eq→eqb l.a j ends.0) (eq→eqb l.b i ends.1))
