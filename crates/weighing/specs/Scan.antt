-- What the parts of a pass promise one another. A pass takes the bones of a list one by one, each time one with the greatest tally to those
-- taken before.
use Rattle.std.specs.Prelude.{◌≡◌, ℕ, ◌+◌, ◌*◌, ◌^◌, ◌<◌, ◌≤◌, Bool, cond, T, Option, Some, None, ◌⊎◌, List, length, slice_index, slice_set}
use Rattle.meaning.specs.Count.{Bones, sum}
use Rattle.meaning.specs.Tally.{Tally, weight}
use Rattle.weighing.specs.Lists.{listed, Once, marked}
use Rattle.weighing.specs.declared.scan.Pass.{Pass}

-- no split of L below k parts x from y
unfoldable pub Tied : Tally → ℕ → Bones → ℕ → ℕ → Type 0
Tied w k L x y = (d : Bones) → weight 128 w L d < k → d x ≡ d y

-- the bone x in place i is reached: it has the tally n in addition, and is the greatest from now on, or is not
pub record Looked (n x i : ℕ) (attach attach' : List ℕ) (place top out place' top' out' : ℕ) : Type 0 where
  pub stored : attach' ≡ slice_set attach x (slice_index attach x + n)
  pub small : n < 2 ^ 32
  pub sums : out' ≡ out + (slice_index attach x + n)
  pub best : ((place' ≡ i) × (top' ≡ slice_index attach x + n) × (top ≤ slice_index attach x + n)) ⊎ ((place' ≡ place) × (top' ≡ top) × (slice_index attach x + n < top))

-- the tally of bone u is added for the bones in the first m places: what each of them then has, the greatest of these and its place, and their sum
pub record Reached (w : Tally) (order : List ℕ) (u m : ℕ) (attach attach' : List ℕ) (place top out : ℕ) : Type 0 where
  pub long : length attach' ≡ 128
  pub grown : (x : ℕ) → slice_index attach' x ≡ slice_index attach x + cond (listed order m x) (w u x) 0
  pub slow : (x : ℕ) → slice_index attach' x ≤ slice_index attach x + 2 ^ 32
  pub nothing : m ≡ 0 → top ≡ 0
  pub within : 0 < m → place < m
  pub at : 0 < m → top ≡ slice_index attach' (slice_index order place)
  pub greatest : (i : ℕ) → i < m → slice_index attach' (slice_index order i) ≤ top
  pub sums : out ≡ sum m (λ i. slice_index attach' (slice_index order i))
  pub most : out ≤ m * 2 ^ 41

-- the bones of `before` in another order, and a mark for each of 128
pub record Ordered (before order : List ℕ) (joins : List Bool) (count : ℕ) : Type 0 where
  pub once : Once order count
  pub same : (b : ℕ) → listed order count b ≡ listed before count b
  pub long : length joins ≡ 128

-- a light split of L that a pass found: the bones in the first places, which were still free; or a mark for each that is tied to the one taken before it
abbrev pub Found : Tally → ℕ → Bones → List ℕ → List Bool → ℕ → Option Pass → Type 0
Found w k L order joins count (Some p) = (0 < p.left) × (p.left < count) × (p.weight ≡ weight 128 w L (listed order p.left)) × (p.weight < k)
Found w k L order joins count None =
    ((i : ℕ) → i + 1 < count → T (marked joins i) → Tied w k L (slice_index order (i + 1)) (slice_index order i)) × (1 < count → T (marked joins 0))

-- what a pass leaves: the bones in the order of taking, the last first, and what it found
pub record Passed (w : Tally) (k : ℕ) (before order : List ℕ) (joins : List Bool) (count : ℕ) (split : Option Pass) : Type 0 where
  pub ordered : Ordered before order joins count
  pub found : Found w k (listed before count) order joins count split
