-- What the search gives: a lawful cut of the first pile that has a light split, or that no pile has one.
use Rattle.std.specs.Prelude.{◌≡◌, ℕ, ◌^◌, ◌<◌, ◌≤◌, not, T, List, length, ◌==◌, Option, Some, None}
use Rattle.weighing.specs.declared.search.Split.{Split}
use Rattle.meaning.specs.Tally.{Tally, total}
use Rattle.meaning.specs.Firm.{firm}
use Rattle.meaning.specs.Heap.{Heap, Cut, Lawful, pile, stands}
use Rattle.links.specs.Table.{held}
use Rattle.weighing.specs.Side.{side_of}

-- the cut that a split states
unfoldable pub cut_of : Split → Cut
cut_of r = record { name = r.pile; weighs = r.weight; side = side_of r.side }

-- every pile that stands with a name from `from` up to, not including, `to` is firm
unfoldable pub FirmPiles : ℕ → Tally → ℕ → Heap → ℕ → ℕ → Type 0
FirmPiles n w k h from to = (p : ℕ) → from ≤ p → p < to → T (stands n h p) → T (firm n w k (pile n h p))

-- the answer of a search of the piles named `from` and up: the first light split, or none
unfoldable pub Searched : ℕ → Tally → ℕ → Heap → ℕ → Option Split → Type 0
Searched n w k h from (Some r) = Lawful n w k h (cut_of r) × (from ≤ r.pile) × FirmPiles n w k h from r.pile
Searched n w k h from None = FirmPiles n w k h from n

-- the tallies between the n bones, each pair counted twice, come to less than 2 to the power 32
pub record Small (n : ℕ) (t : List ℕ) : Type 0 where
  pub long : length t ≡ 16384
  pub sums : total n (held t) (λ i j. not (i == j)) < 2 ^ 32
