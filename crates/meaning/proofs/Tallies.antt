-- Laws of `pair_tally`: all that proofs above may know of rule 1.
-- Assumes nothing.
use Prim.Native.Nat.{ℕ, ◌+◌}
use mathlib.Core.Path.{◌≡◌, refl, ap, ap₂}
use mathlib.Core.Bool.{Bool, true, false, cond, ◌&&◌, ◌||◌}
use mathlib.Core.List.{List, [], ◌∷◌, ◌++◌}
use native.Mathlib.Omega.{arith}
use lib.Dec.{eqb}
use Rattle.meaning.specs.declared.Link.{Link}
use Rattle.meaning.specs.Tally.{Symmetric, joins, pair_tally}

joins_turned : (l : Link) (i j : ℕ) → joins l i j ≡ joins l j i
unfolding joins
joins_turned l i j = or_turned (eqb l.a i && eqb l.b j) (eqb l.a j && eqb l.b i)
  where
    or_turned : (p q : Bool) → p || q ≡ q || p
    or_turned true true = refl
    or_turned true false = refl
    or_turned false true = refl
    or_turned false false = refl

pub pair_tally_symmetric : (links : List Link) → Symmetric (pair_tally links)
unfolding pair_tally
pair_tally_symmetric [] i j = refl
pair_tally_symmetric (l ∷ ls) i j = ap₂ ◌+◌ (ap (λ (b : Bool). cond b l.tally 0) (joins_turned l i j)) (pair_tally_symmetric ls i j)

pub pair_tally_append : (ls ms : List Link) (i j : ℕ) → pair_tally (ls ++ ms) i j ≡ pair_tally ls i j + pair_tally ms i j
unfolding pair_tally
pair_tally_append [] ms i j = omega arith
pair_tally_append (l ∷ ls) ms i j = omega (arith, pair_tally_append ls ms i j)
