-- Laws of sides and weights: what `in_side` says of a bone below 128, and a weight as a sum over the bones that move.
-- Assumes nothing.
use Rattle.std.proofs.Common.{◌≡◌, ℕ, ◌+◌, ◌<◌, Bool, true, false, cond, not, ◌&&◌, eqb, ltb, List, refl, ap, ◌∙◌, add-one, lt-ltb}
use Rattle.meaning.specs.Count.{Bones, sum}
use Rattle.meaning.specs.Tally.{Tally, total, weight}
use Rattle.meaning.specs.Heap.{Heap, pile}
use Rattle.meaning.proofs.Sums.{sum_ext, sum-zero}
use Rattle.weighing.specs.Side.{side_of}
use Rattle.weighing.specs.Weigh.{off_side, row_of}

pub on_side : {r : Bool} (bytes : List ℕ) (b : ℕ) → b < 128 → r ≡ (ltb b 128 && side_of bytes b) → r ≡ side_of bytes b
on_side bytes b h e = e ∙ ap (λ (x : Bool). x && side_of bytes b) (lt-ltb b 128 h)

-- below n, a bone is in a pile if it has its name
pub pile_below : (n : ℕ) (h : Heap) (name b : ℕ) → b < n → pile n h name b ≡ eqb (h b) name
unfolding pile
pile_below n h name b l = ap (λ (x : Bool). x && eqb (h b) name) (lt-ltb b n l)

-- the tally between one bone and those off the side, added up bone by bone
pub off_side_none : (w : Tally) (S A : Bones) (i : ℕ) → off_side 0 w S A i ≡ 0
unfolding off_side sum
off_side_none w S A i = refl

pub off_side_next : (n : ℕ) (w : Tally) (h : Heap) (name : ℕ) (A : Bones) (i j : ℕ) → j < n → off_side (j + 1) w (pile n h name) A i ≡ off_side j w (pile n h name) A i + cond (eqb (h j) name && not (A j)) (w i j) 0
unfolding off_side sum
off_side_next n w h name A i j l = rw (add-one j, pile_below n h name j l)

-- the part of a weight that the bones below m add, and that part bone by bone
unfoldable pub rows : ℕ → ℕ → Tally → Bones → Bones → ℕ
rows m n w S A = sum m (row_of n w S A)

pub rows_none : (n : ℕ) (w : Tally) (S A : Bones) → rows 0 n w S A ≡ 0
unfolding rows sum
rows_none n w S A = refl

pub rows_next : (m n : ℕ) (w : Tally) (S A : Bones) → rows (m + 1) n w S A ≡ rows m n w S A + row_of n w S A m
unfolding rows sum
rows_next m n w S A = rw (add-one m)

-- what one bone adds
row_of_lem : (n : ℕ) (w : Tally) (S A : Bones) (i : ℕ) (b : Bool) → sum n (λ j. cond (b && (S j && not (A j))) (w i j) 0) ≡ cond b (off_side n w S A i) 0
unfolding off_side
row_of_lem n w S A i true = refl
row_of_lem n w S A i false = sum-zero n

pub weight_rows : (n : ℕ) (w : Tally) (S A : Bones) → weight n w S A ≡ rows n n w S A
unfolding weight total rows row_of
weight_rows n w S A = sum_ext n _ _ (λ i h. row_of_lem n w S A i (S i && A i))
