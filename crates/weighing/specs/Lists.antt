-- Bones in the first places of a run of 128 bytes, and a mark for each of 128.
use Rattle.std.specs.Prelude.{◌≡◌, ℕ, ◌<◌, ◌≤◌, Bool, false, List, length, nat_eq, slice_index, slice_index_or, slice_set}
use Rattle.meaning.specs.Count.{Bones, some}

-- bone b stands in one of the first m places
unfoldable pub listed : List ℕ → ℕ → Bones
listed xs m b = some m (λ i. nat_eq b (slice_index xs i))

-- the first m places hold bones, each once
pub record Once (xs : List ℕ) (m : ℕ) : Type 0 where
  pub long : length xs ≡ 128
  pub few : m ≤ 128
  pub low : (i : ℕ) → i < m → slice_index xs i < 128
  pub once : (i j : ℕ) → i < m → j < m → slice_index xs i ≡ slice_index xs j → i ≡ j

-- two places change what they hold
abbrev pub swapped : List ℕ → ℕ → ℕ → List ℕ
swapped xs i j = slice_set (slice_set xs i (slice_index xs j)) j (slice_index xs i)

-- the marks that a run holds
unfoldable pub marked : List Bool → Bones
marked marks x = slice_index_or marks x false
