-- Counting, and trying every set: what the rules are written with. Bones are numbered from 0, and a set of bones is a test.
use Rattle.std.specs.Prelude.{ℕ, zero, suc, ◌+◌, Bool, true, false, cond, ◌&&◌, ◌||◌, eqb}

abbrev pub Bones : Type 0
Bones = ℕ → Bool

-- f 0 + f 1 + .. + f (n − 1)
unfoldable pub sum : ℕ → (ℕ → ℕ) → ℕ
sum zero f = 0
sum (suc n) f = sum n f + f n

-- how many bones below n are in the set
unfoldable pub count : ℕ → Bones → ℕ
count n X = sum n (λ b. cond (X b) 1 0)

-- whether some bone below n is in the set; whether every one is
unfoldable pub some : ℕ → Bones → Bool
some zero X = false
some (suc n) X = some n X || X n

unfoldable pub every : ℕ → Bones → Bool
every zero X = true
every (suc n) X = every n X && X n

-- the least bone below n in the set; n where there is none
unfoldable pub least : ℕ → Bones → ℕ
least zero X = 0
least (suc n) X = cond (X 0) 0 (suc (least n (λ b. X (suc b))))

-- whether some set of bones below n passes the test; whether every one does
unfoldable pub some_set : ℕ → (Bones → Bool) → Bool
some_set zero P = P (λ b. false)
some_set (suc n) P = some_set n P || some_set n (λ X. P (λ b. eqb b n || X b))

unfoldable pub every_set : ℕ → (Bones → Bool) → Bool
every_set zero P = P (λ b. false)
every_set (suc n) P = every_set n P && every_set n (λ X. P (λ b. eqb b n || X b))
