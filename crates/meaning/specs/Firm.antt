-- Rules 3 to 5: firm sets, groups and labels, over any tally w of the n bones and any threshold k.
use Rattle.std.specs.Prelude.{ℕ, Bool, not, ◌&&◌, ◌||◌, leb, eqb}
use Rattle.meaning.specs.Count.{Bones, count, some, least, some_set, every_set}
use Rattle.meaning.specs.Tally.{Tally, weight}

-- the side A splits S: of the bones of S some are in A and some are not
unfoldable pub splits : ℕ → Bones → Bones → Bool
splits n S A = some n (λ b. S b && A b) && some n (λ b. S b && not (A b))

-- 3. A set is firm at k if every split of it into two non-empty sides weighs at least k. A set of one bone has no split and is firm.
unfoldable pub firm : ℕ → Tally → ℕ → Bones → Bool
firm n w k S = every_set n (λ A. not (splits n S A) || leb k (weight n w S A))

-- 4. The group of bone b: the bones that some firm set holds together with b. A number from n on has none.
unfoldable pub group : ℕ → Tally → ℕ → ℕ → Bones
group n w k b c = some_set n (λ S. (S b && S c) && firm n w k S)

-- 5. The label of a bone is the least bone number of its group. That of a number from n on is n.
unfoldable pub label : ℕ → Tally → ℕ → ℕ → ℕ
label n w k b = least n (group n w k b)

-- the number of groups: each has one bone that is its own label
unfoldable pub groups : ℕ → Tally → ℕ → ℕ
groups n w k = count n (λ b. eqb (label n w k b) b)
