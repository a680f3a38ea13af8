-- Degrees: a bone's tally with the other bones of its pile, as notes that are kept from cut to cut, and the cut that parts one bone from its pile.
use Rattle.std.specs.Prelude.{◌≡◌, ℕ, ◌+◌, ◌%◌, ◌^◌, ◌<◌, Bool, cond, not, ◌&&◌, List, length, ◌==◌, Option, Some, None, nat_lt, slice_index}
use Rattle.meaning.specs.Count.{Bones, sum, some}
use Rattle.meaning.specs.Tally.{Tally}
use Rattle.meaning.specs.Heap.{Heap, Lawful, pile, stands}
use Rattle.weighing.specs.Side.{side_of}
use Rattle.weighing.specs.declared.search.Split.{Split}
use Rattle.weighing.specs.Search.{cut_of}

-- the tally of bone b with the bones of S below n
unfoldable pub toward : ℕ → Tally → Bones → ℕ → ℕ
toward n w S b = sum n (λ c. cond (S c) (w b c) 0)

-- the bones that bear the name y, without b
unfoldable pub others : Heap → ℕ → ℕ → Bones
others h y b c = h c == y && not (c == b)

-- the other bones of b's pile
unfoldable pub mate : Heap → ℕ → Bones
mate h b = others h (h b) b

unfoldable pub degree : ℕ → Tally → Heap → ℕ → ℕ
degree n w h b = toward n w (mate h b) b

-- 128 numbers of 32 bits. Of what a reference leads to a contract has to say so.
pub record Notes (notes : List ℕ) : Type 0 where
  pub long : length notes ≡ 128
  pub small : (b : ℕ) → slice_index notes b < 2 ^ 32

-- the degrees of the bones below n, the carry of 32 bits thrown away; every other place is nought
pub record Noted (n : ℕ) (w : Tally) (h : Heap) (degrees : List ℕ) : Type 0 where
  pub notes : Notes degrees
  pub each : (b : ℕ) → slice_index degrees b ≡ cond (nat_lt b n) (degree n w h b % 2 ^ 32) 0

-- what bone c, if it is one of those of S below n, loses when b leaves them
unfoldable pub share : ℕ → Tally → Bones → ℕ → ℕ → ℕ
share n w S b c = cond (nat_lt c n) (cond (S c) (w b c) 0) 0

-- and where b, in return, loses its tally with all of them
unfoldable pub parting : ℕ → Tally → Bones → ℕ → ℕ → ℕ
parting n w S b c = share n w S b c + cond (c == b) (toward n w S b) 0

-- what bone b loses when the piles named x and y come apart: its tally with the bones of the other
unfoldable pub lost : ℕ → Tally → Heap → ℕ → ℕ → ℕ → ℕ
lost n w h x y b = cond (pile n h x b) (toward n w (others h y b) b) 0 + cond (pile n h y b) (toward n w (others h x b) b) 0

-- each note lost what `less` says: with that added, the carry of 32 bits thrown away, it is what it was. So one that lost nothing is as it was.
pub record Lessened (less : ℕ → ℕ) (before after : List ℕ) : Type 0 where
  pub notes : Notes after
  pub each : (b : ℕ) → (slice_index after b + less b) % 2 ^ 32 ≡ slice_index before b

abbrev pub Loses : (ℕ → ℕ) → List ℕ → List ℕ → Type 0
Loses less before after = Notes before → Lessened less before after

-- the pile of bone u stands and has another bone
unfoldable pub joined : ℕ → Heap → ℕ → Bool
joined n h u = nat_lt u n && (stands n h (h u) && some n (mate h u))

-- what bone c loses when bone u is parted from its pile, where that stands and has another bone
unfoldable pub without : ℕ → Tally → Heap → ℕ → ℕ → ℕ
without n w h u c = cond (joined n h u) (share n w (mate h u) u c) 0

-- whether a cut below k parts bone u from the rest of its pile
unfoldable pub loose : ℕ → Tally → ℕ → Heap → ℕ → Bool
loose n w k h u = joined n h u && nat_lt (degree n w h u) k

-- the bones that this cut moves out: u alone, or all others of the pile where u is the one that stays, since its number names the pile
unfoldable pub moves : ℕ → Heap → ℕ → Bones
moves n h u b = cond (h u == u) (nat_lt b n && mate h u b) (b == u)

-- that cut, where it was made
unfoldable pub Loosed : ℕ → Tally → ℕ → Heap → ℕ → Option Split → Type 0
Loosed n w k h u (Some r) = Lawful n w k h (cut_of r) × (r.pile ≡ h u) × (r.weight ≡ degree n w h u) × ((b : ℕ) → side_of r.side b ≡ moves n h u b)
Loosed n w k h u None = Unit {0}
