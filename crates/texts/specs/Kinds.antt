-- The lines of each kind of frame: head, links, cuts, labels, close, refusal.
use Rattle.std.specs.Prelude.{ℕ, zero, suc, ◌/◌, ◌%◌, List, [], ◌∷◌, ◌++◌, take, drop}
use Rattle.meaning.specs.declared.Link.{Link}
use Rattle.meaning.specs.Heap.{Heap}
use Rattle.cutting.specs.Record.{entry_size}
use Rattle.frames.specs.Frame.{line}

-- a number in two bytes, high byte first
unfoldable pub two : ℕ → List ℕ
two m = m / 256 ∷ m % 256 ∷ []

-- 01 head, 02 links, 03 cuts, 04 labels of bones 0 to n − 1, 06 close, 07 refusal
unfoldable pub head_line : ℕ → ℕ → List ℕ
head_line n k = line 1 (n ∷ two k)

unfoldable pub link_line : Link → List ℕ
link_line l = line 2 (l.a ∷ l.b ∷ two l.tally)

unfoldable pub link_lines : List Link → List ℕ
link_lines [] = []
link_lines (l ∷ ls) = link_line l ++ link_lines ls

unfoldable pub cut_lines : ℕ → List ℕ → List ℕ
cut_lines zero bytes = []
cut_lines (suc m) bytes = line 3 (take entry_size bytes) ++ cut_lines m (drop entry_size bytes)

unfoldable pub label_line : ℕ → ℕ → List ℕ
label_line bone name = line 4 (bone ∷ name ∷ [])

unfoldable pub label_lines : ℕ → Heap → List ℕ
label_lines zero h = []
label_lines (suc n) h = label_lines n h ++ label_line n (h n)

unfoldable pub close_line : ℕ → List ℕ
close_line frames = line 6 (two frames)

unfoldable pub refusal_line : ℕ → ℕ → List ℕ
refusal_line number place = line 7 (number ∷ two place)
