-- Laws of runs of bytes: what is taken from one, and two put together.
-- Assumes nothing.
use Prim.Native.Nat.{ℕ, zero, suc, ◌+◌, ◌<◌}
use mathlib.Core.List.{List, [], ◌∷◌, ◌++◌}
use native.Mathlib.Omega.{arith}
use lib.ListN.{take, drop}
use lib.Seq.{get_or-drop}
use Rattle.meaning.specs.Bytes.{Bytes}

pub bytes_take : (n : ℕ) (xs : List ℕ) → Bytes xs → Bytes (take n xs)
bytes_take zero xs f i = omega arith
bytes_take (suc n) [] f i = f i
bytes_take (suc n) (x ∷ xs) f zero = f 0
bytes_take (suc n) (x ∷ xs) f (suc i) = bytes_take n xs (λ j. f (suc j)) i

pub bytes_drop : (n : ℕ) (xs : List ℕ) → Bytes xs → Bytes (drop n xs)
bytes_drop n xs f i = simp get_or-drop (f (n + i))

pub bytes_cons : (x : ℕ) (xs : List ℕ) → x < 256 → Bytes xs → Bytes (x ∷ xs)
bytes_cons x xs low f zero = low
bytes_cons x xs low f (suc i) = f i

pub bytes_append : (xs ys : List ℕ) → Bytes xs → Bytes ys → Bytes (xs ++ ys)
bytes_append [] ys f g i = g i
bytes_append (x ∷ xs) ys f g zero = f 0
bytes_append (x ∷ xs) ys f g (suc i) = bytes_append xs ys (λ j. f (suc j)) g i
