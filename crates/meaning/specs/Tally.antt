-- Rules 1 and 2: the pair tally of a list of links, and the weight of a split.
use Rattle.std.specs.Prelude.{ℕ, ◌+◌, ◌≡◌, Bool, cond, not, ◌&&◌, ◌||◌, List, [], ◌∷◌, eqb}
use Rattle.meaning.specs.declared.Link.{Link}
use Rattle.meaning.specs.Count.{Bones, sum}

-- a tally for every two bones
abbrev pub Tally : Type 0
Tally = ℕ → ℕ → ℕ

-- the same in either direction
abbrev pub Symmetric : Tally → Type 0
Symmetric w = (i j : ℕ) → w i j ≡ w j i

-- the link stands between bones i and j, in either direction of writing
unfoldable pub joins : Link → ℕ → ℕ → Bool
joins l i j = (eqb l.a i && eqb l.b j) || (eqb l.a j && eqb l.b i)

-- 1. The pair tally of two different bones is the sum of the tallies of all links between them. No weight asks for that of a bone with itself.
unfoldable pub pair_tally : List Link → Tally
pair_tally [] i j = 0
pair_tally (l ∷ ls) i j = cond (joins l i j) l.tally 0 + pair_tally ls i j

-- the sum of the tallies of all (i, j) with i and j below n that pass the test
unfoldable pub total : ℕ → Tally → (ℕ → ℕ → Bool) → ℕ
total n w P = sum n (λ i. sum n (λ j. cond (P i j) (w i j) 0))

-- 2. The weight of the split of the set S whose one side is A: the pair tallies with one bone on each side. Only bones of S below n count.
unfoldable pub weight : ℕ → Tally → Bones → Bones → ℕ
weight n w S A = total n w (λ i j. (S i && A i) && (S j && not (A j)))
