-- How a weight is added up, bone by bone.
use Rattle.std.specs.Prelude.{ℕ, cond, not, ◌&&◌}
use Rattle.meaning.specs.Count.{Bones, sum}
use Rattle.meaning.specs.Tally.{Tally}

-- the tally between bone i and the bones of S that are not on the side A
unfoldable pub off_side : ℕ → Tally → Bones → Bones → ℕ → ℕ
off_side n w S A i = sum n (λ j. cond (S j && not (A j)) (w i j) 0)

-- what bone i adds to the weight of the split of S whose one side is A: nothing, unless it is in S and on the side
unfoldable pub row_of : ℕ → Tally → Bones → Bones → ℕ → ℕ
row_of n w S A i = cond (S i && A i) (off_side n w S A i) 0
