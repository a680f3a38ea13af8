-- The bench cases marked P: one table, and one statement that every row of it meets.
use Rattle.std.specs.Prelude.{ℕ, ◌+◌, ◌<◌, ◌≡◌, T, length, get_or}
use mathlib.Core.List.{List, [], ◌∷◌, Memᴰ}
use Rattle.meaning.specs.declared.Link.{Link}
use Rattle.meaning.specs.Tally.{Tally, pair_tally}
use Rattle.meaning.specs.Firm.{label, groups}
use Rattle.meaning.specs.Heap.{start, Cut, LawfulRun, left, weights, finished}

-- what a row claims: the bones' labels in order, and the number of groups; that there is a finished run of lawful cuts; and that every such
-- run, whichever cuts it took, has one cut fewer than there are groups, and they sum to the number given
pub record Settled (n : ℕ) (w : Tally) (k : ℕ) (labels : List ℕ) (number cut_sum : ℕ) : Type 0 where
  pub each_bone : length labels ≡ n
  pub labelled : (b : ℕ) → b < n → label n w k b ≡ get_or labels b n
  pub grouped : groups n w k ≡ number
  pub a_run : (cs : List Cut) × LawfulRun n w k start cs × T (finished n w k (left n start cs))
  pub every_run : (cs : List Cut) → LawfulRun n w k start cs → T (finished n w k (left n start cs)) → (length cs + 1 ≡ number) × (weights cs ≡ cut_sum)

-- a row's thresholds: one, or any at all
pub data Thresholds : Type 0 where
  only : ℕ → Thresholds
  any : Thresholds

unfoldable pub At : Thresholds → ℕ → Type 0
At (only t) k = k ≡ t
At any k = Unit {0}

pub record Case : Type 0 where
  pub bones : ℕ
  pub links : List Link
  pub thresholds : Thresholds
  pub labels : List ℕ
  pub number : ℕ
  pub cut_sum : ℕ

abbrev pub row : ℕ → List Link → Thresholds → List ℕ → ℕ → ℕ → Case
row n links ks labels number cut_sum = record { bones = n; links = links; thresholds = ks; labels = labels; number = number; cut_sum = cut_sum }

abbrev pub link : ℕ → ℕ → ℕ → Link
link a b tally = record { a = a; b = b; tally = tally }

-- two triangles 0 1 2 and 3 4 5, all tallies 1, and 2–3 of t
unfoldable pub triangles : ℕ → List Link
triangles t = link 0 1 1 ∷ link 0 2 1 ∷ link 1 2 1 ∷ link 3 4 1 ∷ link 3 5 1 ∷ link 4 5 1 ∷ link 2 3 t ∷ []

-- bones 0 and 1 each linked with tally 1 to 2, 3 and 4
unfoldable pub three_paths : List Link
three_paths = link 0 2 1 ∷ link 0 3 1 ∷ link 0 4 1 ∷ link 1 2 1 ∷ link 1 3 1 ∷ link 1 4 1 ∷ []

-- the table, in document 01's order. Its third case names two thresholds and takes two rows, so that the eleven cases take twelve.
unfoldable pub cases : List Case
cases =
    row 1 [] any (0 ∷ []) 1 0  -- case 1
    ∷ row 2 [] (only 1) (0 ∷ 1 ∷ []) 2 0  -- case 2
    ∷ row 2 (link 0 1 3 ∷ []) (only 3) (0 ∷ 0 ∷ []) 1 0  -- case 3, together
    ∷ row 2 (link 0 1 3 ∷ []) (only 4) (0 ∷ 1 ∷ []) 2 3  -- case 3, apart
    ∷ row 2 (link 0 1 1 ∷ link 1 0 2 ∷ []) (only 3) (0 ∷ 0 ∷ []) 1 0  -- case 4
    ∷ row 6 (triangles 1) (only 1) (0 ∷ 0 ∷ 0 ∷ 0 ∷ 0 ∷ 0 ∷ []) 1 0  -- case 5
    ∷ row 6 (triangles 1) (only 2) (0 ∷ 0 ∷ 0 ∷ 3 ∷ 3 ∷ 3 ∷ []) 2 1  -- case 6
    ∷ row 6 (triangles 1) (only 3) (0 ∷ 1 ∷ 2 ∷ 3 ∷ 4 ∷ 5 ∷ []) 6 7  -- case 7
    ∷ row 6 (triangles 3) (only 2) (0 ∷ 0 ∷ 0 ∷ 0 ∷ 0 ∷ 0 ∷ []) 1 0  -- case 8
    ∷ row 6 (triangles 3) (only 3) (0 ∷ 1 ∷ 2 ∷ 2 ∷ 4 ∷ 5 ∷ []) 5 6  -- case 9
    ∷ row 5 three_paths (only 2) (0 ∷ 0 ∷ 0 ∷ 0 ∷ 0 ∷ []) 1 0  -- case 10
    ∷ row 5 three_paths (only 3) (0 ∷ 1 ∷ 2 ∷ 3 ∷ 4 ∷ []) 5 6  -- case 11
    ∷ []

-- every row of the table, at each of its thresholds
unfoldable pub Bench : Type 0
Bench = (c : Case) → Memᴰ c cases → (k : ℕ) → At c.thresholds k → Settled c.bones (pair_tally c.links) k c.labels c.number c.cut_sum
