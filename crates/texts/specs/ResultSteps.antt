-- What the result writer's parts promise each other.
use Rattle.std.specs.Prelude.{ℕ, ◌/◌, ◌≤◌, ◌<◌, ◌≡◌, List, length}
use Rattle.weighing.specs.Side.{heap_of}
use Rattle.cutting.specs.Record.{entry_size}
use Rattle.cutting.specs.Runs.{names_left}

-- what the result writer has found when rows 1 to 13 are passed: numbers in range, and the names that the record's cuts leave
pub record Named (n k : ℕ) (bytes names : List ℕ) : Type 0 where
  pub bones : n ≤ 128
  pub threshold : k < 65536
  pub cuts : length bytes / entry_size ≤ 127
  pub names_of : (b : ℕ) → b < n → heap_of names b ≡ names_left n bytes b
