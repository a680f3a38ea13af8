-- What the input writer writes is read back: the lines of an input text, what is read from them, and that no row refuses them.
-- Assumes nothing.
use Prim.Native.Nat.{ℕ, zero, suc, ◌+◌, ◌*◌, ◌/◌, ◌%◌, ◌≤◌, ◌<◌}
use mathlib.Core.Path.{◌≡◌, refl, sym, ◌∙◌, ap, ap₂}
use mathlib.Core.List.{List, [], ◌∷◌, ◌++◌, append_assoc, append-nil}
use native.Mathlib.Omega.{arith}
use lib.Dec.{T, eqb}
use lib.ListN.{length, get_or, take, drop, length-drop}
use lib.Seq.{length-take-le, take_all, take-add, take_at}
use Rattle.meaning.specs.declared.Link.{Link}
use Rattle.meaning.specs.Judge.{Accepted, refuse, first}
use Rattle.meaning.proofs.Tests.{eq→eqb}
use Rattle.cutting.specs.Record.{entry_size}
use Rattle.frames.specs.Frame.{is_kind, line}
use Rattle.frames.specs.declared.stage.Stage.{Stage}
use Rattle.frames.specs.declared.stage.Stage.TheVariants.{Opening, Linking, Cutting, Closed}
use Rattle.texts.specs.Lines.{Line, lines_of, pair, line_rows}
use Rattle.frames.specs.Stages.{follows, after, open_at}
use Rattle.texts.specs.Reader.{link_in, links_in, entry_in, entries_in, bones_in, threshold_in}
use Rattle.texts.specs.Kinds.{two, head_line, link_line, link_lines, cut_lines, close_line}
use Rattle.texts.specs.Inputs.{InFrame, AllInFrames, input_text}
use Rattle.meaning.specs.Bytes.{Bytes}
use Rattle.texts.proofs.RoundTripLines.{line_of, first-line, frame_is, kind_is, pair_is, row_passed}
use Rattle.texts.proofs.Rows.{twice}

-- runs of bytes
pub bytes_none : Bytes []
bytes_none i = omega arith

pub bytes_cons : (x : ℕ) (xs : List ℕ) → x < 256 → Bytes xs → Bytes (x ∷ xs)
bytes_cons x xs h f zero = h
bytes_cons x xs h f (suc i) = f i

pub bytes_take : (m : ℕ) (xs : List ℕ) → Bytes xs → Bytes (take m xs)
bytes_take zero xs f = bytes_none
bytes_take (suc m) [] f = bytes_none
bytes_take (suc m) (x ∷ xs) f = bytes_cons x (take m xs) (f 0) (bytes_take m xs (λ i. f (suc i)))

pub bytes_drop : (m : ℕ) (xs : List ℕ) → Bytes xs → Bytes (drop m xs)
bytes_drop zero xs f = f
bytes_drop (suc m) [] f = bytes_none
bytes_drop (suc m) (x ∷ xs) f = bytes_drop m xs (λ i. f (suc i))

pub bytes_two : (m : ℕ) → m < 65536 → Bytes (two m)
unfolding two
bytes_two m h = bytes_cons (m / 256) (m % 256 ∷ []) (omega arith) (bytes_cons (m % 256) [] (omega arith) bytes_none)

-- links
abbrev link_bytes : Link → List ℕ
link_bytes l = l.a ∷ l.b ∷ two l.tally

link_bytes_are : (l : Link) → InFrame l → Bytes (2 ∷ link_bytes l)
link_bytes_are l s =
    bytes_cons 2 (link_bytes l) (omega arith)
    (bytes_cons l.a (l.b ∷ two l.tally) s.first_end (bytes_cons l.b (two l.tally) s.second_end (bytes_two l.tally s.traits)))

abbrev link_ls : List Link → List Line
link_ls [] = []
link_ls (l ∷ ls) = line_of 2 (link_bytes l) ∷ link_ls ls

lines_links : (links : List Link) (rest : List ℕ) → AllInFrames links → lines_of (link_lines links ++ rest) ≡ link_ls links ++ lines_of rest
unfolding link_lines link_line
lines_links [] rest s = refl
lines_links (l ∷ ls) rest s =
    ap lines_of (append_assoc (line 2 (link_bytes l)) (link_lines ls) rest)
    ∙ first-line 2 (link_bytes l) (link_bytes_are l s.0) (link_lines ls ++ rest)
    ∙ ap (λ (ms : List Line). line_of 2 (link_bytes l) ∷ ms) (lines_links ls rest s.1)

link-read : (l : Link) → InFrame l → link_in (line_of 2 (link_bytes l)) ≡ l
unfolding link_in pair two
link-read l s =
    let whole-tally : l.tally / 256 * 256 + l.tally % 256 ≡ l.tally = omega arith in
    ap {B = Link} (λ (fs : List ℕ). record { a = get_or fs 1 0; b = get_or fs 2 0; tally = get_or fs 3 0 * 256 + get_or fs 4 0 })
    (frame_is 2 (link_bytes l) (link_bytes_are l s))
    ∙ ap {B = Link} (λ (t : ℕ). record { a = l.a; b = l.b; tally = t }) whole-tally

links_are_read : (links : List Link) (ls : List Line) → AllInFrames links → links_in (link_ls links ++ ls) ≡ links ++ links_in ls
unfolding links_in
links_are_read [] ls s = refl
links_are_read (l ∷ links) ls s = rw (kind_is 2 (link_bytes l) (link_bytes_are l s.0)) (ap₂ ◌∷◌ (link-read l s.0) (links_are_read links ls s.1))

links_entries : (links : List Link) (ls : List Line) → AllInFrames links → entries_in (link_ls links ++ ls) ≡ entries_in ls
unfolding entries_in
links_entries [] ls s = refl
links_entries (l ∷ links) ls s = rw (kind_is 2 (link_bytes l) (link_bytes_are l s.0)) (links_entries links ls s.1)

links_rows_lem : (links : List Link) (i : ℕ) (ls : List Line) → AllInFrames links
    → first (line_rows Linking i (link_ls links ++ ls)) ≡ first (line_rows Linking (i + length links) ls)
unfolding follows after is_kind two
links_rows_lem [] i ls s = let e : i ≡ i + 0 = omega arith in ap (λ (m : ℕ). first (line_rows Linking m ls)) e
links_rows_lem (l ∷ links) i ls s =
    let e : suc i + length links ≡ i + suc (length links) = omega arith in
    row_passed 2 (link_bytes l) (link_bytes_are l s.0) tt refl Linking i (link_ls links ++ ls) tt tt
    ∙ links_rows_lem links (suc i) ls s.1
    ∙ ap (λ (m : ℕ). first (line_rows Linking m ls)) e

-- cuts: so many whole entries
abbrev cut_ls : ℕ → List ℕ → List Line
cut_ls zero bytes = []
cut_ls (suc m) bytes = line_of 3 (take entry_size bytes) ∷ cut_ls m (drop entry_size bytes)

cut_bytes_are : (bytes : List ℕ) → Bytes bytes → Bytes (3 ∷ take entry_size bytes)
cut_bytes_are bytes f = bytes_cons 3 (take entry_size bytes) (omega arith) (bytes_take entry_size bytes f)

lines_cuts : (m : ℕ) (bytes rest : List ℕ) → Bytes bytes → lines_of (cut_lines m bytes ++ rest) ≡ cut_ls m bytes ++ lines_of rest
unfolding cut_lines
lines_cuts zero bytes rest f = refl
lines_cuts (suc m) bytes rest f =
    ap lines_of (append_assoc (line 3 (take entry_size bytes)) (cut_lines m (drop entry_size bytes)) rest)
    ∙ first-line 3 (take entry_size bytes) (cut_bytes_are bytes f) (cut_lines m (drop entry_size bytes) ++ rest)
    ∙ ap (λ (ms : List Line). line_of 3 (take entry_size bytes) ∷ ms) (lines_cuts m (drop entry_size bytes) rest (bytes_drop entry_size bytes f))

cuts_links : (m : ℕ) (bytes : List ℕ) (ls : List Line) → Bytes bytes → links_in (cut_ls m bytes ++ ls) ≡ links_in ls
unfolding links_in
cuts_links zero bytes ls f = refl
cuts_links (suc m) bytes ls f =
    rw (kind_is 3 (take entry_size bytes) (cut_bytes_are bytes f)) (cuts_links m (drop entry_size bytes) ls (bytes_drop entry_size bytes f))

module _ (m : ℕ) (bytes : List ℕ) (f : Bytes bytes) (h : entry_size * suc m ≤ length bytes) where
  entry_long : length (take entry_size bytes) ≡ entry_size
  entry_long = length-take-le entry_size bytes (omega arith)

  entries_left : entry_size * m ≤ length (drop entry_size bytes)
  entries_left = omega (arith, length-drop entry_size bytes)

  entry_read : entry_in (line_of 3 (take entry_size bytes)) ≡ take entry_size bytes
  unfolding entry_in
  entry_read =
      ap (λ (fs : List ℕ). take entry_size (drop 1 fs)) (frame_is 3 (take entry_size bytes) (cut_bytes_are bytes f))
      ∙ take_at (take entry_size bytes) _ entry_size entry_long

cuts_are_read : (m : ℕ) (bytes : List ℕ) (ls : List Line) → Bytes bytes → entry_size * m ≤ length bytes
    → entries_in (cut_ls m bytes ++ ls) ≡ take (entry_size * m) bytes ++ entries_in ls
unfolding entries_in
cuts_are_read zero bytes ls f h = refl
cuts_are_read (suc m) bytes ls f h =
    let e : entry_size + entry_size * m ≡ entry_size * suc m = omega arith in
    rw (kind_is 3 (take entry_size bytes) (cut_bytes_are bytes f))
    (ap₂ ◌++◌ (entry_read m bytes f h) (cuts_are_read m (drop entry_size bytes) ls (bytes_drop entry_size bytes f) (entries_left m bytes f h))
    ∙ sym (append_assoc (take entry_size bytes) (take (entry_size * m) (drop entry_size bytes)) (entries_in ls))
    ∙ ap (λ (xs : List ℕ). xs ++ entries_in ls) (sym (take-add entry_size (entry_size * m) bytes) ∙ ap (λ (x : ℕ). take x bytes) e))

-- after the links or after a cut, cuts are passed
cut_passed : (m : ℕ) (bytes : List ℕ) (i : ℕ) (ls : List Line) (stage : Stage) → T (follows stage 3) → Bytes bytes → entry_size * suc m ≤ length bytes
    → first (line_rows stage i (cut_ls (suc m) bytes ++ ls)) ≡ first (line_rows (after stage 3) (suc i) (cut_ls m (drop entry_size bytes) ++ ls))
unfolding is_kind
cut_passed m bytes i ls stage t f h =
    row_passed 3 (take entry_size bytes) (cut_bytes_are bytes f) tt (entry_long m bytes f h) stage i (cut_ls m (drop entry_size bytes) ++ ls) t tt

cuts_rows : (m : ℕ) (bytes : List ℕ) (i : ℕ) (ls : List Line) → Bytes bytes → entry_size * m ≤ length bytes
    → first (line_rows Cutting i (cut_ls m bytes ++ ls)) ≡ first (line_rows Cutting (i + m) ls)
unfolding follows after
cuts_rows zero bytes i ls f h = let e : i ≡ i + 0 = omega arith in ap (λ (m : ℕ). first (line_rows Cutting m ls)) e
cuts_rows (suc m) bytes i ls f h =
    let e : suc i + m ≡ i + suc m = omega arith in
    cut_passed m bytes i ls Cutting tt f h
    ∙ cuts_rows m (drop entry_size bytes) (suc i) ls (bytes_drop entry_size bytes f) (entries_left m bytes f h)
    ∙ ap (λ (x : ℕ). first (line_rows Cutting x ls)) e

-- the close, after the links or after a cut
close_bytes_are : (i : ℕ) → i < 65536 → Bytes (6 ∷ two i)
close_bytes_are i h = bytes_cons 6 (two i) (omega arith) (bytes_two i h)

close_rows : (i : ℕ) (stage : Stage) → i < 65536 → T (follows stage 6) → after stage 6 ≡ Closed → first (line_rows stage i (line_of 6 (two i) ∷ [])) ≡ Accepted
unfolding is_kind two line_rows open_at refuse first
close_rows i stage h t e =
    let count : pair (line_of 6 (two i)) 1 ≡ i = pair_is 6 (two i) (close_bytes_are i h) 1 ∙ omega arith in
    row_passed 6 (two i) (close_bytes_are i h) tt refl stage i [] t (twice (eqb (pair (line_of 6 (two i)) 1) i) (eq→eqb (pair (line_of 6 (two i)) 1) i count))
    ∙ ap (λ (s : Stage). first (line_rows s (suc i) [])) e

ending_rows : (m : ℕ) (bytes : List ℕ) (i : ℕ) → Bytes bytes → entry_size * m ≤ length bytes → i + m < 65536
    → first (line_rows Linking i (cut_ls m bytes ++ line_of 6 (two (i + m)) ∷ [])) ≡ Accepted
unfolding follows after
ending_rows zero bytes i f h k =
    let e : i + 0 ≡ i = omega arith in
    ap (λ (m : ℕ). first (line_rows Linking i (line_of 6 (two m) ∷ []))) e ∙ close_rows i Linking (omega arith) tt refl
ending_rows (suc m) bytes i f h k =
    let e : suc i + m ≡ i + suc m = omega arith in
    cut_passed m bytes i (line_of 6 (two (i + suc m)) ∷ []) Linking tt f h
    ∙ cuts_rows m (drop entry_size bytes) (suc i) (line_of 6 (two (i + suc m)) ∷ []) (bytes_drop entry_size bytes f) (entries_left m bytes f h)
    ∙ ap (λ (x : ℕ). first (line_rows Cutting x (line_of 6 (two (i + suc m)) ∷ []))) e
    ∙ close_rows (i + suc m) Cutting k tt refl

-- the whole text: what it is written from fits its frames
pub record Written (n k : ℕ) (links : List Link) (bytes : List ℕ) : Type 0 where
  pub bones : n < 256
  pub threshold : k < 65536
  pub tallies : AllInFrames links
  pub entries : Bytes bytes
  pub entire : length bytes % entry_size ≡ 0
  pub frames : 1 + length links + length bytes / entry_size < 65536

module _ (n k : ℕ) (links : List Link) (bytes : List ℕ) (w : Written n k links bytes) where
  cuts : ℕ
  cuts = length bytes / entry_size

  whole_entries : entry_size * cuts ≡ length bytes
  unfolding cuts
  whole_entries = omega (arith, w.entire)

  head_bytes_are : Bytes (1 ∷ n ∷ two k)
  head_bytes_are = bytes_cons 1 (n ∷ two k) (omega arith) (bytes_cons n (two k) w.bones (bytes_two k w.threshold))

  ending : List Line
  ending = cut_ls cuts bytes ++ line_of 6 (two (1 + length links + cuts)) ∷ []

  text_lines : lines_of (input_text n k links bytes) ≡ line_of 1 (n ∷ two k) ∷ (link_ls links ++ ending)
  unfolding input_text head_line close_line ending cuts lines_of
  text_lines =
      ap lines_of (regroup (line 1 (n ∷ two k)) (link_lines links) (cut_lines cuts bytes) (line 6 (two (1 + length links + cuts))))
      ∙ first-line 1 (n ∷ two k) head_bytes_are (link_lines links ++ (cut_lines cuts bytes ++ line 6 (two (1 + length links + cuts))))
      ∙ ap (λ (ls : List Line). line_of 1 (n ∷ two k) ∷ ls)
      (lines_links links (cut_lines cuts bytes ++ line 6 (two (1 + length links + cuts))) w.tallies
      ∙ ap (λ (ls : List Line). link_ls links ++ ls)
      (lines_cuts cuts bytes (line 6 (two (1 + length links + cuts))) w.entries
      ∙ ap (λ (ls : List Line). cut_ls cuts bytes ++ ls)
      (ap lines_of (sym (append-nil (line 6 (two (1 + length links + cuts)))))
      ∙ first-line 6 (two (1 + length links + cuts)) (close_bytes_are (1 + length links + cuts) w.frames) [])))
    where
      regroup : (a b c d : List ℕ) → a ++ b ++ c ++ d ≡ a ++ (b ++ (c ++ d))
      regroup a b c d = simp append_assoc

  pub rows_passed : first (line_rows Opening 0 (lines_of (input_text n k links bytes))) ≡ Accepted
  unfolding is_kind two follows after ending cuts
  rows_passed =
      ap (λ (ls : List Line). first (line_rows Opening 0 ls)) text_lines
      ∙ row_passed 1 (n ∷ two k) head_bytes_are tt refl Opening 0 (link_ls links ++ ending) tt tt
      ∙ links_rows_lem links 1 ending w.tallies
      ∙ ending_rows cuts bytes (1 + length links) w.entries (omega (arith, whole_entries)) w.frames

  pub bones_back : bones_in (lines_of (input_text n k links bytes)) ≡ n
  unfolding bones_in
  bones_back = ap bones_in text_lines ∙ ap (λ (fs : List ℕ). get_or fs 1 0) (frame_is 1 (n ∷ two k) head_bytes_are)

  pub threshold_back : threshold_in (lines_of (input_text n k links bytes)) ≡ k
  unfolding threshold_in two
  threshold_back =
      let h = w.threshold in
      ap threshold_in text_lines ∙ pair_is 1 (n ∷ two k) head_bytes_are 2 ∙ omega arith

  pub links_back : links_in (lines_of (input_text n k links bytes)) ≡ links
  unfolding links_in ending cuts
  links_back =
      ap links_in text_lines
      ∙ rw (kind_is 1 (n ∷ two k) head_bytes_are)
      (links_are_read links ending w.tallies
      ∙ ap (λ (ls : List Link). links ++ ls)
      (cuts_links cuts bytes (line_of 6 (two (1 + length links + cuts)) ∷ []) w.entries
      ∙ rw (kind_is 6 (two (1 + length links + cuts)) (close_bytes_are (1 + length links + cuts) w.frames)))
      ∙ append-nil links)

  pub entries_back : entries_in (lines_of (input_text n k links bytes)) ≡ bytes
  unfolding entries_in ending cuts
  entries_back =
      ap entries_in text_lines
      ∙ rw (kind_is 1 (n ∷ two k) head_bytes_are)
      (links_entries links ending w.tallies
      ∙ cuts_are_read cuts bytes (line_of 6 (two (1 + length links + cuts)) ∷ []) w.entries (omega (arith, whole_entries))
      ∙ ap (λ (xs : List ℕ). take (entry_size * cuts) bytes ++ xs)
      (rw (kind_is 6 (two (1 + length links + cuts)) (close_bytes_are (1 + length links + cuts) w.frames)))
      ∙ append-nil (take (entry_size * cuts) bytes)
      ∙ take_all (entry_size * cuts) bytes (omega (arith, whole_entries)))
