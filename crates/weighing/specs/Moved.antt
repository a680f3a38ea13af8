-- What the side of a light split is made of.
use Rattle.std.specs.Prelude.{◌≡◌, ℕ, ◌<◌, ◌≤◌, Bool, T, List, length, slice_index}
use Rattle.weighing.specs.Lists.{listed, marked}

-- a leader bears a mark exactly if it is free, and every other bone exactly if the one that it was merged into does
pub record Spread (order : List ℕ) (left : ℕ) (list into : List ℕ) (count size : ℕ) (marks : List Bool) : Type 0 where
  pub long : length marks ≡ 128
  pub led : (b : ℕ) → T (listed list count b) → marked marks b ≡ listed order left b
  pub same : (j : ℕ) → count ≤ j → j < size → marked marks (slice_index into j) ≡ marked marks (slice_index list j)
