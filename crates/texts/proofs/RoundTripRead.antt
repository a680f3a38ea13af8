-- A text without notes that the reader's rows accept is the input text of what is read from it.
-- Assumes nothing.
use Prim.Native.Nat.{ℕ, zero, suc, ◌+◌, ◌*◌, ◌/◌, ◌%◌, ◌≤◌, ◌<◌}
use mathlib.Core.Path.{◌≡◌, refl, sym, ◌∙◌, ap, ap₂, subst}
use mathlib.Core.Logic.{⊎_elim}
use mathlib.Core.Bool.{Bool, true, false, cond, not, ◌&&◌, ◌||◌}
use mathlib.Core.List.{List, [], ◌∷◌, ◌++◌, append_assoc, append-nil}
use native.Mathlib.Omega.{arith}
use lib.Dec.{T, eqb, eqb→eq, T_not}
use lib.ListN.{length, get_or, take, drop, length-append, length-drop}
use lib.Seq.{drop-cons, length-take-le, take_at, drop_at}
use Rattle.meaning.specs.declared.Link.{Link}
use Rattle.meaning.specs.declared.Row.TheVariants.{Line as LineRow, Sum, Order, Close}
use Rattle.meaning.specs.Judge.{Accepted, first}
use Rattle.meaning.proofs.Tests.{left_of, right_of, either, eq→eqb, neqb→ne, is_true, taut, so, ◌⊃◌}
use Rattle.cutting.specs.Record.{entry_size}
use Rattle.frames.specs.Frame.{payloads, byte_sum, line, well_formed}
use Rattle.frames.specs.declared.stage.Stage.{Stage}
use Rattle.frames.specs.declared.stage.Stage.TheVariants.{Opening, Linking, Cutting, Closed}
use Rattle.texts.specs.Lines.{Line, before, lines_of, frame, kind, pair, line_rows}
use Rattle.frames.specs.Stages.{follows, after, open_at}
use Rattle.texts.specs.Reader.{link_in, links_in, entry_in, entries_in, bones_in, threshold_in}
use Rattle.texts.specs.Kinds.{two, head_line, link_line, link_lines, cut_lines, close_line}
use Rattle.texts.specs.Inputs.{input_text}
use Rattle.texts.specs.Writers.{unnoted}
use Rattle.meaning.specs.Bytes.{Bytes}
use Rattle.frames.proofs.Frames.{bytes_bytes_of, well_parts, line-only}
use Rattle.texts.proofs.Rows.{row_accepted, once}

-- a text is its lines, one behind the other
pub joined : List Line → List ℕ
joined [] = []
joined (l ∷ ls) = l.characters ++ cond l.ended (10 ∷ []) [] ++ joined ls

joined-before : (c : ℕ) (ls : List Line) → joined (before c ls) ≡ c ∷ joined ls
unfolding joined before
joined-before c [] = refl
joined-before c (l ∷ ls) = refl

pub joined_lines : (text : List ℕ) → joined (lines_of text) ≡ text
unfolding joined lines_of
joined_lines [] = refl
joined_lines (c ∷ cs) = feed c cs (eqb c 10) refl (joined_lines cs)
  where
    feed : (c : ℕ) (cs : List ℕ) (b : Bool) → eqb c 10 ≡ b → joined (lines_of cs) ≡ cs
        → joined (cond b (record { characters = []; ended = true } ∷ lines_of cs) (before c (lines_of cs))) ≡ c ∷ cs
    feed c cs true e h = ap₂ ◌∷◌ (sym (eqb→eq c 10 (subst T (sym e) tt))) h
    feed c cs false e h = joined-before c (lines_of cs) ∙ ap (λ (l : List ℕ). c ∷ l) h

-- what rows 16 to 19 show of a line that they pass
record Passed (stage : Stage) (i : ℕ) (l : Line) (ls : List Line) : Type 0 where
  ended : T l.ended
  well : T (well_formed l.characters)
  sum : byte_sum (frame l) ≡ 0
  order : T (follows stage (kind l))
  counted : T (not (eqb (kind l) 6 && not (eqb (pair l 1) i)))
  rest : first (line_rows (after stage (kind l)) (suc i) ls) ≡ Accepted

passed : (stage : Stage) (i : ℕ) (l : Line) (ls : List Line) → first (line_rows stage i (l ∷ ls)) ≡ Accepted → Passed stage i l ls
unfolding line_rows
passed stage i l ls e =
    let r₁ = row_accepted _ LineRow i _ e in
    let r₂ = row_accepted _ Sum i _ r₁.1 in
    let r₃ = row_accepted _ Order i _ r₂.1 in
    let r₄ = row_accepted _ Close i _ r₃.1 in
    let both = once (l.ended && well_formed l.characters) r₁.0 in
    record {
      ended = left_of l.ended (well_formed l.characters) both;
      well = right_of l.ended (well_formed l.characters) both;
      sum = eqb→eq (byte_sum (frame l)) 0 (once (eqb (byte_sum (frame l)) 0) r₂.0);
      order = once (follows stage (kind l)) r₃.0;
      counted = r₄.0;
      rest = r₄.1;
    }

-- the elements of a part, one by one
abbrev items : ℕ → ℕ → List ℕ → List ℕ
items zero j fs = []
items (suc m) j fs = get_or fs j 0 ∷ items m (suc j) fs

taken : (m j : ℕ) (fs : List ℕ) → j + m ≤ length fs → take m (drop j fs) ≡ items m j fs
taken zero j fs h = refl
taken (suc m) j fs h = ap (take (suc m)) (drop-cons fs j 0 (omega arith)) ∙ ap (λ (l : List ℕ). get_or fs j 0 ∷ l) (taken m (suc j) fs (omega arith))

two-pair : (x y : ℕ) → y < 256 → two (x * 256 + y) ≡ x ∷ y ∷ []
unfolding two
two-pair x y h =
    let high : (x * 256 + y) / 256 ≡ x = omega arith in
    let low : (x * 256 + y) % 256 ≡ y = omega arith in
    ap₂ (λ (a b : ℕ). a ∷ b ∷ []) high low

module _ (stage : Stage) (i : ℕ) (l : Line) (ls : List Line) (p : Passed stage i l ls) where
  frame_bytes : Bytes (frame l)
  unfolding frame
  frame_bytes = bytes_bytes_of l.characters (well_parts l.characters p.well).0

  frame_long : length (frame l) ≡ get_or payloads (kind l) 0 + 2
  unfolding frame kind
  frame_long = (well_parts l.characters p.well).2

  frame_of : (k : ℕ) → kind l ≡ k → length (frame l) ≡ get_or payloads k 0 + 2
  frame_of k e = frame_long ∙ ap (λ (x : ℕ). get_or payloads x 0 + 2) e

  line_back : joined (l ∷ ls) ≡ line (kind l) (take (get_or payloads (kind l) 0) (drop 1 (frame l))) ++ joined ls
  unfolding joined frame kind
  line_back =
      ap (λ (b : Bool). l.characters ++ cond b (10 ∷ []) [] ++ joined ls) (is_true l.ended p.ended)
      ∙ ap (λ (xs : List ℕ). xs ++ joined ls) (line-only l.characters p.well p.sum)

  head_back : kind l ≡ 1 → joined (l ∷ ls) ≡ head_line (get_or (frame l) 1 0) (pair l 2) ++ joined ls
  unfolding head_line pair
  head_back e =
      let size = frame_of 1 e in
      line_back
      ∙ ap (λ (x : ℕ). line x (take (get_or payloads x 0) (drop 1 (frame l))) ++ joined ls) e
      ∙ ap (λ (xs : List ℕ). line 1 xs ++ joined ls)
      (taken 3 1 (frame l) (omega arith) ∙ ap (λ (xs : List ℕ). get_or (frame l) 1 0 ∷ xs) (sym (two-pair (get_or (frame l) 2 0) (get_or (frame l) 3 0) (frame_bytes 3))))

  link_back : kind l ≡ 2 → joined (l ∷ ls) ≡ link_line (link_in l) ++ joined ls
  unfolding link_line link_in pair
  link_back e =
      let size = frame_of 2 e in
      line_back
      ∙ ap (λ (x : ℕ). line x (take (get_or payloads x 0) (drop 1 (frame l))) ++ joined ls) e
      ∙ ap (λ (xs : List ℕ). line 2 xs ++ joined ls)
      (taken 4 1 (frame l) (omega arith)
      ∙ ap (λ (xs : List ℕ). get_or (frame l) 1 0 ∷ get_or (frame l) 2 0 ∷ xs) (sym (two-pair (get_or (frame l) 3 0) (get_or (frame l) 4 0) (frame_bytes 4))))

  entry_long : kind l ≡ 3 → length (entry_in l) ≡ entry_size
  unfolding entry_in
  entry_long e =
      let size = frame_of 3 e in
      length-take-le entry_size (drop 1 (frame l)) (omega (arith, length-drop 1 (frame l)))

  entry_back : kind l ≡ 3 → joined (l ∷ ls) ≡ line 3 (entry_in l) ++ joined ls
  unfolding entry_in
  entry_back e = line_back ∙ ap (λ (x : ℕ). line x (take (get_or payloads x 0) (drop 1 (frame l))) ++ joined ls) e

  count_is : kind l ≡ 6 → pair l 1 ≡ i
  count_is e =
      eqb→eq (pair l 1) i
      (taut 2 (λ a b. not (a && not b) ⊃ a ⊃ so b) tt (eqb (kind l) 6) (eqb (pair l 1) i) p.counted (eq→eqb (kind l) 6 e))

  close_back : kind l ≡ 6 → joined (l ∷ ls) ≡ close_line i ++ joined ls
  unfolding close_line pair
  close_back e =
      let size = frame_of 6 e in
      line_back
      ∙ ap (λ (x : ℕ). line x (take (get_or payloads x 0) (drop 1 (frame l))) ++ joined ls) e
      ∙ ap (λ (xs : List ℕ). line 6 xs ++ joined ls)
      (taken 2 1 (frame l) (omega arith) ∙ sym (two-pair (get_or (frame l) 1 0) (get_or (frame l) 2 0) (frame_bytes 2)) ∙ ap two (count_is e))

-- nothing stands after the close
nothing-after : (i : ℕ) (ls : List Line) → first (line_rows Closed i ls) ≡ Accepted → ls ≡ []
unfolding follows
nothing-after i [] e = refl
nothing-after i (l ∷ ls) e = absurd (passed Closed i l ls e).order

-- what a line adds to the links and the entries, by its kind
links_by : (l : Line) (ls : List Line) (c : ℕ) → kind l ≡ c → links_in (l ∷ ls) ≡ cond (eqb c 2) (link_in l ∷ links_in ls) (links_in ls)
unfolding links_in
links_by l ls c e = ap (λ (x : ℕ). cond (eqb x 2) (link_in l ∷ links_in ls) (links_in ls)) e

entries_by : (l : Line) (ls : List Line) (c : ℕ) → kind l ≡ c → entries_in (l ∷ ls) ≡ cond (eqb c 3) (entry_in l ++ entries_in ls) (entries_in ls)
unfolding entries_in
entries_by l ls c e = ap (λ (x : ℕ). cond (eqb x 3) (entry_in l ++ entries_in ls) (entries_in ls)) e

-- the cuts of a run of entries and the close, from line i on; none, and one cut in front
closing : ℕ → List ℕ → List ℕ
closing i es = cut_lines (length es / entry_size) es ++ close_line (i + length es / entry_size)

closing_none : (i : ℕ) → closing i [] ≡ close_line i
unfolding closing cut_lines
closing_none i = let e : i + 0 ≡ i = omega arith in ap close_line e

closing_more : (i : ℕ) (e es : List ℕ) → length e ≡ entry_size → closing i (e ++ es) ≡ line 3 e ++ closing (suc i) es
unfolding closing cut_lines
closing_more i e es h =
    let m = length es / entry_size in
    let one : length (e ++ es) / entry_size ≡ suc m = omega (arith, length-append e es) in
    let count : i + suc m ≡ suc i + m = omega arith in
    ap (λ (x : ℕ). cut_lines x (e ++ es) ++ close_line (i + x)) one
    ∙ ap₂ (λ (a b : List ℕ). line 3 a ++ cut_lines m b ++ close_line (i + suc m)) (take_at e es entry_size h) (drop_at e es entry_size h)
    ∙ ap (λ (x : ℕ). line 3 e ++ cut_lines m es ++ close_line x) count
    ∙ append_assoc (line 3 e) (cut_lines m es) (close_line (suc i + m))

-- lines that are cuts and a close, with no links among them
record AtClose (i : ℕ) (ls : List Line) : Type 0 where
  text : joined ls ≡ closing i (entries_in ls)
  no_links : links_in ls ≡ []

module _ (stage : Stage) (i : ℕ) (l : Line) (ls : List Line) (p : Passed stage i l ls) where
  at_close : kind l ≡ 6 → after stage 6 ≡ Closed → AtClose i (l ∷ ls)
  unfolding joined links_in entries_in
  at_close e f =
      let stop : after stage (kind l) ≡ Closed = ap (after stage) e ∙ f in
      let none : ls ≡ [] = nothing-after (suc i) ls (subst (λ (s : Stage). first (line_rows s (suc i) ls) ≡ Accepted) stop p.rest) in
      record {
        text =
            close_back stage i l ls p e
            ∙ ap (λ (ms : List Line). close_line i ++ joined ms) none
            ∙ append-nil (close_line i)
            ∙ sym (closing_none i)
            ∙ sym (ap (closing i) (entries_by l ls 6 e ∙ ap entries_in none));
        no_links = links_by l ls 6 e ∙ ap links_in none;
      }

  at_cut : kind l ≡ 3 → AtClose (suc i) ls → AtClose i (l ∷ ls)
  at_cut e c =
      record {
        text =
            entry_back stage i l ls p e
            ∙ ap (λ (xs : List ℕ). line 3 (entry_in l) ++ xs) c.text
            ∙ sym (closing_more i (entry_in l) (entries_in ls) (entry_long stage i l ls p e))
            ∙ sym (ap (closing i) (entries_by l ls 3 e));
        no_links = links_by l ls 3 e ∙ c.no_links;
      }

  no_note : T (unnoted (l ∷ ls)) → kind l ≡ 5 → ⊥
  unfolding unnoted
  no_note t = neqb→ne (kind l) 5 (left_of (not (eqb (kind l) 5)) (unnoted ls) t)

unnoted_rest : (l : Line) (ls : List Line) → T (unnoted (l ∷ ls)) → T (unnoted ls)
unfolding unnoted
unnoted_rest l ls t = right_of (not (eqb (kind l) 5)) (unnoted ls) t

rest_at : (stage : Stage) (i : ℕ) (l : Line) (ls : List Line) (c : ℕ) → Passed stage i l ls → kind l ≡ c → first (line_rows (after stage c) (suc i) ls) ≡ Accepted
rest_at stage i l ls c p e = subst (λ (x : ℕ). first (line_rows (after stage x) (suc i) ls) ≡ Accepted) e p.rest

-- after a cut: cuts and a close
cutting_step : (i : ℕ) (l : Line) (ls : List Line) → Passed Cutting i l ls → T (unnoted (l ∷ ls))
    → (first (line_rows Cutting (suc i) ls) ≡ Accepted → AtClose (suc i) ls)
    → AtClose i (l ∷ ls)
unfolding follows after
cutting_step i l ls p t ih =
    ⊎_elim
    (λ c. let e = eqb→eq (kind l) 3 c in at_cut Cutting i l ls p e (ih (rest_at Cutting i l ls 3 p e)))
    (λ d.
    ⊎_elim
    (λ c. absurd (no_note Cutting i l ls p t (eqb→eq (kind l) 5 c)))
    (λ c. at_close Cutting i l ls p (eqb→eq (kind l) 6 c) refl)
    (either (eqb (kind l) 5) (eqb (kind l) 6) d))
    (either (eqb (kind l) 3) (eqb (kind l) 5 || eqb (kind l) 6) p.order)

unclosed : (stage : Stage) (i : ℕ) → T (open_at stage) → first (line_rows stage i []) ≡ Accepted → ⊥
unfolding line_rows
unclosed stage i t e = T_not (open_at stage) (row_accepted (open_at stage) Order i [] e).0 t

cutting_back : (ls : List Line) (i : ℕ) → first (line_rows Cutting i ls) ≡ Accepted → T (unnoted ls) → AtClose i ls
unfolding open_at
cutting_back [] i e t = absurd (unclosed Cutting i tt e)
cutting_back (l ∷ ls) i e t = cutting_step i l ls (passed Cutting i l ls e) t (λ h. cutting_back ls (suc i) h (unnoted_rest l ls t))

-- after the head: links, cuts and a close
Linked : ℕ → List Line → Type 0
Linked i ls = joined ls ≡ link_lines (links_in ls) ++ closing (i + length (links_in ls)) (entries_in ls)

unlinked : (i : ℕ) (ls : List Line) → AtClose i ls → Linked i ls
unfolding Linked link_lines
unlinked i ls c =
    let e : i ≡ i + 0 = omega arith in
    c.text
    ∙ ap (λ (x : ℕ). closing x (entries_in ls)) e
    ∙ sym (ap (λ (xs : List Link). link_lines xs ++ closing (i + length xs) (entries_in ls)) c.no_links)

at_link : (i : ℕ) (l : Line) (ls : List Line) → Passed Linking i l ls → kind l ≡ 2 → Linked (suc i) ls → Linked i (l ∷ ls)
unfolding Linked link_lines
at_link i l ls p e h =
    let count : suc i + length (links_in ls) ≡ i + suc (length (links_in ls)) = omega arith in
    link_back Linking i l ls p e
    ∙ ap (λ (xs : List ℕ). link_line (link_in l) ++ xs) (h ∙ ap (λ (x : ℕ). link_lines (links_in ls) ++ closing x (entries_in ls)) count)
    ∙ sym (append_assoc (link_line (link_in l)) (link_lines (links_in ls)) (closing (i + suc (length (links_in ls))) (entries_in ls)))
    ∙ sym (ap₂ (λ (xs : List Link) (es : List ℕ). link_lines xs ++ closing (i + length xs) es) (links_by l ls 2 e) (entries_by l ls 2 e))

linking_step : (i : ℕ) (l : Line) (ls : List Line) → Passed Linking i l ls → T (unnoted (l ∷ ls))
    → (first (line_rows Linking (suc i) ls) ≡ Accepted → Linked (suc i) ls)
    → Linked i (l ∷ ls)
unfolding follows after
linking_step i l ls p t ih =
    ⊎_elim
    (λ d.
    ⊎_elim
    (λ c. let e = eqb→eq (kind l) 2 c in at_link i l ls p e (ih (rest_at Linking i l ls 2 p e)))
    (λ c.
    let e = eqb→eq (kind l) 3 c in
    unlinked i (l ∷ ls) (at_cut Linking i l ls p e (cutting_back ls (suc i) (rest_at Linking i l ls 3 p e) (unnoted_rest l ls t))))
    (either (eqb (kind l) 2) (eqb (kind l) 3) d))
    (λ d.
    ⊎_elim
    (λ c. absurd (no_note Linking i l ls p t (eqb→eq (kind l) 5 c)))
    (λ c. unlinked i (l ∷ ls) (at_close Linking i l ls p (eqb→eq (kind l) 6 c) refl))
    (either (eqb (kind l) 5) (eqb (kind l) 6) d))
    (either (eqb (kind l) 2 || eqb (kind l) 3) (eqb (kind l) 5 || eqb (kind l) 6) p.order)

linking_back : (ls : List Line) (i : ℕ) → first (line_rows Linking i ls) ≡ Accepted → T (unnoted ls) → Linked i ls
unfolding open_at
linking_back [] i e t = absurd (unclosed Linking i tt e)
linking_back (l ∷ ls) i e t = linking_step i l ls (passed Linking i l ls e) t (λ h. linking_back ls (suc i) h (unnoted_rest l ls t))

-- the whole text
opening_back : (ls : List Line) → first (line_rows Opening 0 ls) ≡ Accepted → T (unnoted ls)
    → joined ls ≡ input_text (bones_in ls) (threshold_in ls) (links_in ls) (entries_in ls)
unfolding open_at after follows bones_in threshold_in input_text Linked closing
opening_back [] e t = absurd (unclosed Opening 0 tt e)
opening_back (l ∷ ls) e t =
    let p = passed Opening 0 l ls e in
    let one = eqb→eq (kind l) 1 p.order in
    head_back Opening 0 l ls p one
    ∙ ap (λ (xs : List ℕ). head_line (get_or (frame l) 1 0) (pair l 2) ++ xs) (linking_back ls 1 p.rest (unnoted_rest l ls t))
    ∙ regroup (head_line (get_or (frame l) 1 0) (pair l 2)) (link_lines (links_in ls)) (cut_lines (length (entries_in ls) / entry_size) (entries_in ls)) _
    ∙ sym (ap₂ (input_text (get_or (frame l) 1 0) (pair l 2)) (links_by l ls 1 one) (entries_by l ls 1 one))
  where
    regroup : (a b c d : List ℕ) → a ++ (b ++ (c ++ d)) ≡ a ++ b ++ c ++ d
    regroup a b c d = simp append_assoc

pub text_back : (text : List ℕ) → first (line_rows Opening 0 (lines_of text)) ≡ Accepted → T (unnoted (lines_of text))
    → text ≡ input_text (bones_in (lines_of text)) (threshold_in (lines_of text)) (links_in (lines_of text)) (entries_in (lines_of text))
text_back text e t = sym (joined_lines text) ∙ opening_back (lines_of text) e t
