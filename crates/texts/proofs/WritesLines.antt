-- Lines of a kind, one behind the other: their lengths, and one line more.
-- Assumes nothing.
use Prim.Native.Nat.{ℕ, zero, suc, ◌+◌, ◌*◌, ◌/◌, ◌%◌, ◌≤◌, ◌<◌}
use mathlib.Core.Path.{◌≡◌, refl, sym, ap, ap₂, subst, ◌∙◌}
use mathlib.Core.List.{List, [], ◌∷◌, ◌++◌, append_assoc, append-nil}
use native.Mathlib.Numerals.{add-one}
use native.Mathlib.Omega.{arith}
use lib.ListN.{length, get_or, take, drop, length-append, length-drop}
use lib.Seq.{length-take-le, drop-drop, take_at, drop_at}
use Rattle.meaning.specs.declared.Link.{Link}
use Rattle.meaning.specs.Heap.{Heap}
use Rattle.cutting.specs.Record.{entry_size}
use Rattle.frames.specs.Frame.{line, line_size}
use Rattle.texts.specs.Kinds.{two, head_line, link_line, link_lines, cut_lines, label_line, label_lines, close_line, refusal_line}
use Rattle.meaning.specs.Room.{over}
use Rattle.meaning.proofs.Room.{onto}
use Rattle.frames.proofs.Writes.{length-line}
use Rattle.frames.specs.Placing.{Puts}

-- a line whose payload ends in a number, from the bytes that the number has
pub puts_two : (room room' : List ℕ) (at r kind : ℕ) (front : List ℕ) (m : ℕ) (bytes : List ℕ) → m < 65536 → bytes ≡ m / 256 % 256 ∷ m % 256 ∷ []
    → Puts room at (line kind (front ++ get_or bytes 0 0 ∷ get_or bytes 1 0 ∷ [])) room' r
    → Puts room at (line kind (front ++ two m)) room' r
unfolding two
puts_two room room' at r kind front m bytes h e put =
    let high : m / 256 % 256 ≡ m / 256 = omega arith in
    subst (λ (b : List ℕ). Puts room at (line kind (front ++ b)) room' r) (ap (λ (xs : List ℕ). get_or xs 0 0 ∷ get_or xs 1 0 ∷ []) e ∙ ap (λ (x : ℕ). x ∷ m % 256 ∷ []) high) put

-- lines of one frame
pub length_head : (n k : ℕ) → length (head_line n k) ≡ line_size 1
unfolding head_line two
length_head n k = length-line 1 (n ∷ two k)

pub length-link : (l : Link) → length (link_line l) ≡ line_size 2
unfolding link_line two
length-link l = length-line 2 (l.a ∷ l.b ∷ two l.tally)

pub length_label : (bone name : ℕ) → length (label_line bone name) ≡ line_size 4
unfolding label_line
length_label bone name = length-line 4 (bone ∷ name ∷ [])

pub length_close : (frames : ℕ) → length (close_line frames) ≡ line_size 6
unfolding close_line two
length_close frames = length-line 6 (two frames)

pub length_refusal : (number place : ℕ) → length (refusal_line number place) ≡ line_size 7
unfolding refusal_line two
length_refusal number place = length-line 7 (number ∷ two place)

-- lines of several
pub length_links : (ls : List Link) → length (link_lines ls) ≡ line_size 2 * length ls
unfolding link_lines
length_links [] = refl
length_links (l ∷ ls) = omega (arith, length-append (link_line l) (link_lines ls), length-link l, length_links ls)

pub length_cuts : (m : ℕ) (bytes : List ℕ) → entry_size * m ≤ length bytes → length (cut_lines m bytes) ≡ line_size 3 * m
unfolding cut_lines
length_cuts zero bytes h = refl
length_cuts (suc m) bytes h =
    omega (
      arith,
      length-append (line 3 (take entry_size bytes)) (cut_lines m (drop entry_size bytes)),
      length-line 3 (take entry_size bytes),
      length-take-le entry_size bytes (omega arith),
      length_cuts m (drop entry_size bytes) (omega (arith, length-drop entry_size bytes)),
    )

pub length_labels : (n : ℕ) (h : Heap) → length (label_lines n h) ≡ line_size 4 * n
unfolding label_lines
length_labels zero h = refl
length_labels (suc n) h = omega (arith, length-append (label_lines n h) (label_line n (h n)), length_label n (h n), length_labels n h)

-- one link more, one cut more, one label more
pub links_more : (ls : List Link) (l : Link) → link_lines (ls ++ l ∷ []) ≡ link_lines ls ++ link_line l
unfolding link_lines
links_more [] l = append-nil (link_line l)
links_more (x ∷ ls) l = ap (λ (r : List ℕ). link_line x ++ r) (links_more ls l) ∙ sym (append_assoc (link_line x) (link_lines ls) (link_line l))

pub cuts_more : (m : ℕ) (bytes : List ℕ) → cut_lines (suc m) bytes ≡ cut_lines m bytes ++ line 3 (take entry_size (drop (entry_size * m) bytes))
unfolding cut_lines
cuts_more zero bytes = append-nil (line 3 (take entry_size bytes))
cuts_more (suc m) bytes =
    let e : entry_size + entry_size * m ≡ entry_size * suc m = omega arith in
    ap (λ (r : List ℕ). line 3 (take entry_size bytes) ++ r) (cuts_more m (drop entry_size bytes))
    ∙ sym (append_assoc (line 3 (take entry_size bytes)) (cut_lines m (drop entry_size bytes)) _)
    ∙ ap (λ (r : List ℕ). line 3 (take entry_size bytes) ++ cut_lines m (drop entry_size bytes) ++ line 3 (take entry_size r))
    (drop-drop (entry_size * m) entry_size bytes ∙ ap (λ (x : ℕ). drop x bytes) e)

-- heaps that agree on the bones below n have the same labels
pub labels_same : (n : ℕ) (h g : Heap) → ((b : ℕ) → b < n → h b ≡ g b) → label_lines n h ≡ label_lines n g
unfolding label_lines
labels_same zero h g f = refl
labels_same (suc n) h g f = ap₂ (λ (r : List ℕ) (x : ℕ). r ++ label_line n x) (labels_same n h g (λ b l. f b (omega arith))) (f n (omega arith))

-- a turn of the loop that writes cuts: the entry in place i, its line's length, and the line behind those before it
abbrev pub entry : List ℕ → ℕ → List ℕ
entry bytes i = take entry_size (drop (entry_size * i) bytes)

module _ (bytes : List ℕ) (i : ℕ) (h : i < length bytes / entry_size) where
  pub length_part : length (entry bytes i) ≡ entry_size
  length_part = length-take-le entry_size (drop (entry_size * i) bytes) (omega (arith, length-drop (entry_size * i) bytes))

  pub length_cut : length (line 3 (entry bytes i)) ≡ line_size 3
  length_cut = omega (arith, length-line 3 (entry bytes i), length_part)

  pub next_cut : (room r : List ℕ) (at place : ℕ) → at + line_size 3 * (length bytes / entry_size) ≤ length room
      → r ≡ over room at (cut_lines i bytes)
      → place ≡ at + line_size 3 * i
      → over r place (line 3 (entry bytes i)) ≡ over room at (cut_lines (i + 1) bytes)
  next_cut room r at place k e f =
      let long : length (cut_lines i bytes) ≡ line_size 3 * i = length_cuts i bytes (omega arith) in
      onto room at (cut_lines i bytes) (line 3 (entry bytes i)) r place e (omega arith) (omega arith)
      ∙ ap (over room at) (sym (cuts_more i bytes) ∙ ap (λ (m : ℕ). cut_lines m bytes) (sym (add-one i)))

-- what the iterator over a record's entries gives in that turn
pub next_entry : (bytes rest rest' x : List ℕ) (i size : ℕ) → size ≡ entry_size → rest ≡ drop (entry_size * i) bytes → i ≤ length bytes / entry_size
    → rest ≡ x ++ rest' → length x ≡ size
    → (i < length bytes / entry_size) × (x ≡ entry bytes i) × (rest' ≡ drop (entry_size * (i + 1)) bytes)
next_entry bytes rest rest' x i size s r h e l =
    let n : entry_size * i + entry_size ≡ entry_size * (i + 1) = omega arith in (
      omega (arith, ap length r, length-drop (entry_size * i) bytes, ap length e, length-append x rest'),
      sym (take_at x rest' entry_size (l ∙ s)) ∙ ap (take entry_size) (sym e ∙ r),
      sym (drop_at x rest' entry_size (l ∙ s)) ∙ ap (drop entry_size) (sym e ∙ r) ∙ drop-drop entry_size (entry_size * i) bytes ∙ ap (λ (m : ℕ). drop m bytes) n,
    )

-- and of the loop that writes labels
pub next_label : (room r : List ℕ) (at place bone : ℕ) (h : Heap) → at + line_size 4 * bone ≤ length room
    → r ≡ over room at (label_lines bone h)
    → place ≡ at + line_size 4 * bone
    → over r place (label_line bone (h bone)) ≡ over room at (label_lines (bone + 1) h)
unfolding label_lines
next_label room r at place bone h k e f =
    let long : length (label_lines bone h) ≡ line_size 4 * bone = length_labels bone h in
    onto room at (label_lines bone h) (label_line bone (h bone)) r place e (omega arith) (omega arith)
    ∙ ap (λ (m : ℕ). over room at (label_lines m h)) (sym (add-one bone))
