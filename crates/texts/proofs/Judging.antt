-- Laws of judging a line: which row refuses it, and what is left to read behind one that passed.
-- Assumes nothing.
use Prim.Native.Nat.{ℕ, suc, ◌+◌, ◌*◌, ◌<◌}
use mathlib.Core.Path.{◌≡◌, refl, sym, ◌∙◌, ap, ap₂, subst}
use mathlib.Core.Bool.{Bool, true, false, cond, not, ◌&&◌}
use mathlib.Core.List.{List, [], ◌∷◌}
use native.Mathlib.Nat.{add_assoc}
use native.Mathlib.Omega.{arith}
use lib.Dec.{T, eqb, eqb→eq, not_T, T_not}
use lib.ListN.{length, get_or, take, drop}
use lib.Seq.{drop-drop}
use Rattle.meaning.specs.declared.Row.TheVariants.{Line as LineRow, Sum, Order, Close}
use Rattle.meaning.specs.Judge.{Judged, Refused, refuse, first}
use Rattle.meaning.proofs.Tests.{both, left_of, right_of, holds, fails, eq→eqb, ne→neqb}
use Rattle.frames.specs.declared.stage.Stage.{Stage}
use Rattle.frames.specs.declared.stage.Stage.TheVariants.{Opening, Linking, Cutting, Closed}
use Rattle.frames.specs.Frame.{payloads, byte_sum, bytes_of, well_formed}
use Rattle.frames.specs.Stages.{follows, after}
use Rattle.texts.specs.Lines.{Line, before, lines_of, frame, kind, pair, line_rows}
use Rattle.texts.specs.Walk.{byte_at, size_at, Well}
use Rattle.texts.specs.Judging.{Passes, head_from}
use Rattle.texts.proofs.Rows.{row_applies, row_passes, twice}
use Rattle.texts.proofs.Lines.{front, front_lines, front_at, front_kind, front_well, well_first, well_first_lem}

-- the test on a frame's kind, said of the kind at the front of a text
pub follows-not : (stage : Stage) (k k' : ℕ) (r : Bool) → r ≡ follows stage k → k ≡ k' → r ≡ false → T (not (follows stage k'))
follows-not stage k k' r e q f = subst (λ (x : ℕ). T (not (follows stage x))) q (fails (sym e ∙ f))

pub follows-yes : (stage : Stage) (k k' : ℕ) (r : Bool) → r ≡ follows stage k → k ≡ k' → r ≡ true → T (follows stage k')
follows-yes stage k k' r e q f = subst (λ (x : ℕ). T (follows stage x)) q (holds (sym e ∙ f))

-- a text that is not at its end has a line; where that is not well formed, 16
lines_before : (c : ℕ) (ls : List Line) → 0 < length (before c ls)
unfolding before
lines_before c [] = omega arith
lines_before c (l ∷ ls) = omega arith

pub lines_some : (cs : List ℕ) → 0 < length cs → 0 < length (lines_of cs)
unfolding lines_of
lines_some [] h = absurd (omega arith)
lines_some (c ∷ cs) h = by_test (eqb c 10)
  where
    by_test : (b : Bool) → 0 < length (cond b (record { characters = []; ended = true } ∷ lines_of cs) (before c (lines_of cs)))
    by_test true = omega arith
    by_test false = lines_before c (lines_of cs)

row_16_of : (ls : List Line) (stage : Stage) (line : ℕ) → 0 < length ls → T (not (well_first ls)) → first (line_rows stage line ls) ≡ Refused LineRow line
unfolding line_rows
row_16_of [] stage line h t = absurd (omega arith)
row_16_of (l ∷ ls) stage line h t = row_applies (not (l.ended && well_formed l.characters)) LineRow line _ t

pub row_16 : (cs : List ℕ) (stage : Stage) (line : ℕ) → 0 < length cs → (Well cs → ⊥) → first (line_rows stage line (lines_of cs)) ≡ Refused LineRow line
row_16 cs stage line h f = row_16_of (lines_of cs) stage line (lines_some cs h) (not_T (well_first (lines_of cs)) (λ t. f (well_first_lem cs t)))

-- the rows of a line, behind row 16
abbrev rows_19 : Line → List Line → Stage → ℕ → List Judged
rows_19 l ls stage line = refuse (eqb (kind l) 6 && not (eqb (pair l 1) line)) Close line ∷ line_rows (after stage (kind l)) (suc line) ls

abbrev rows_18 : Line → List Line → Stage → ℕ → List Judged
rows_18 l ls stage line = refuse (not (follows stage (kind l))) Order line ∷ rows_19 l ls stage line

abbrev rows_17 : Line → List Line → Stage → ℕ → List Judged
rows_17 l ls stage line = refuse (not (eqb (byte_sum (frame l)) 0)) Sum line ∷ rows_18 l ls stage line

rows_16 : (l : Line) (ls : List Line) (stage : Stage) (line : ℕ) → T (l.ended && well_formed l.characters) → first (line_rows stage line (l ∷ ls)) ≡ first (rows_17 l ls stage line)
unfolding line_rows
rows_16 l ls stage line t =
    row_passes (not (l.ended && well_formed l.characters)) LineRow line (rows_17 l ls stage line) (twice (l.ended && well_formed l.characters) t)

-- behind a frame
abbrev pub rest : List ℕ → List Line
rest cs = lines_of (drop (2 * size_at cs + 1) cs)

-- behind the frame at a place
pub rest_at : (text : List ℕ) (at next : ℕ) → next ≡ at + 2 * size_at (drop at text) + 1 → rest (drop at text) ≡ lines_of (drop next text)
rest_at text at next e =
    ap lines_of (drop-drop (2 * size_at (drop at text) + 1) at text)
    ∙ ap (λ (n : ℕ). lines_of (drop n text)) (sym (add_assoc at (2 * size_at (drop at text)) 1) ∙ sym e)

module _ (cs : List ℕ) (w : Well cs) (stage : Stage) (line : ℕ) where
  rows_well : first (line_rows stage line (lines_of cs)) ≡ first (rows_17 (front cs) (rest cs) stage line)
  rows_well = ap (λ (ls : List Line). first (line_rows stage line ls)) (front_lines cs w) ∙ rows_16 (front cs) (rest cs) stage line (front_well cs w)

  pub row_17 : (byte_sum (bytes_of (take (2 * size_at cs) cs)) ≡ 0 → ⊥) → first (line_rows stage line (lines_of cs)) ≡ Refused Sum line
  unfolding frame
  row_17 f = rows_well ∙ row_applies _ Sum line (rows_18 (front cs) (rest cs) stage line) (ne→neqb _ 0 f)

  past_17 : byte_sum (bytes_of (take (2 * size_at cs) cs)) ≡ 0 → first (line_rows stage line (lines_of cs)) ≡ first (rows_18 (front cs) (rest cs) stage line)
  unfolding frame
  past_17 e = rows_well ∙ row_passes (not (eqb (byte_sum (frame (front cs))) 0)) Sum line (rows_18 (front cs) (rest cs) stage line) (twice (eqb (byte_sum (frame (front cs))) 0) (eq→eqb _ 0 e))

  pub row_18 : byte_sum (bytes_of (take (2 * size_at cs) cs)) ≡ 0 → T (not (follows stage (byte_at cs 0))) → first (line_rows stage line (lines_of cs)) ≡ Refused Order line
  row_18 e t =
      past_17 e
      ∙ row_applies (not (follows stage (kind (front cs)))) Order line (rows_19 (front cs) (rest cs) stage line) (rw (front_kind cs w) t)

  past_18 : byte_sum (bytes_of (take (2 * size_at cs) cs)) ≡ 0 → T (follows stage (byte_at cs 0)) → first (line_rows stage line (lines_of cs)) ≡ first (rows_19 (front cs) (rest cs) stage line)
  past_18 e t =
      past_17 e
      ∙ row_passes (not (follows stage (kind (front cs)))) Order line (rows_19 (front cs) (rest cs) stage line)
      (twice (follows stage (kind (front cs))) (rw (front_kind cs w) t))

  -- the number that a close states
  close_count : byte_at cs 0 ≡ 6 → pair (front cs) 1 ≡ byte_at cs 1 * 256 + byte_at cs 2
  unfolding pair size_at
  close_count e =
      let s : size_at cs ≡ 4 = ap (λ (x : ℕ). get_or payloads x 0 + 2) e in
      ap₂ (λ (x y : ℕ). x * 256 + y) (front_at cs w 1 (omega arith)) (front_at cs w 2 (omega arith))

  pub row_19 : byte_sum (bytes_of (take (2 * size_at cs) cs)) ≡ 0 → T (follows stage (byte_at cs 0)) → byte_at cs 0 ≡ 6
      → (byte_at cs 1 * 256 + byte_at cs 2 ≡ line → ⊥) → first (line_rows stage line (lines_of cs)) ≡ Refused Close line
  row_19 e t six f =
      past_18 e t
      ∙ row_applies (eqb (kind (front cs)) 6 && not (eqb (pair (front cs) 1) line)) Close line (line_rows (after stage (kind (front cs))) (suc line) (rest cs))
      (both (eqb (kind (front cs)) 6) (not (eqb (pair (front cs) 1) line)) (eq→eqb (kind (front cs)) 6 (front_kind cs w ∙ six))
      (ne→neqb (pair (front cs) 1) line (λ q. f (sym (close_count six) ∙ q))))

  past_19 : (byte_at cs 0 ≡ 6 → byte_at cs 1 * 256 + byte_at cs 2 ≡ line) → T (not (eqb (kind (front cs)) 6 && not (eqb (pair (front cs) 1) line)))
  past_19 f =
      not_T (eqb (kind (front cs)) 6 && not (eqb (pair (front cs) 1) line))
      (λ t.
      let six = sym (front_kind cs w) ∙ eqb→eq (kind (front cs)) 6 (left_of (eqb (kind (front cs)) 6) (not (eqb (pair (front cs) 1) line)) t) in
      T_not (eqb (pair (front cs) 1) line) (right_of (eqb (kind (front cs)) 6) (not (eqb (pair (front cs) 1) line)) t)
      (eq→eqb (pair (front cs) 1) line (close_count six ∙ f six)))

-- past a line that passed, the lines behind it are judged
pub rows_pass : (cs : List ℕ) (stage : Stage) (line : ℕ) → Passes cs stage line
    → first (line_rows stage line (lines_of cs)) ≡ first (line_rows (after stage (byte_at cs 0)) (suc line) (rest cs))
rows_pass cs stage line p =
    past_18 cs p.well stage line p.sum p.order
    ∙ row_passes (eqb (kind (front cs)) 6 && not (eqb (pair (front cs) 1) line)) Close line (line_rows (after stage (kind (front cs))) (suc line) (rest cs)) (past_19 cs p.well stage line p.count)
    ∙ ap (λ (x : ℕ). first (line_rows (after stage x) (suc line) (rest cs))) (front_kind cs p.well)

-- the head's numbers: read from a head, and kept behind any other frame
pub head_read : (stage : Stage) (kind : ℕ) → T (follows stage kind) → kind ≡ 1 → (a b had : ℕ) → head_from stage a had ≡ head_from (after stage kind) b a
unfolding head_from follows after
head_read Opening kind t e a b had = refl
head_read Linking kind t e a b had = absurd (subst (λ (k : ℕ). T (follows Linking k)) e t)
head_read Cutting kind t e a b had = absurd (subst (λ (k : ℕ). T (follows Cutting k)) e t)
head_read Closed kind t e a b had = absurd t

kept : (c : Bool) (x y : Stage) (b had : ℕ) → had ≡ head_from x b had → had ≡ head_from y b had → had ≡ head_from (cond c x y) b had
kept true x y b had p q = p
kept false x y b had p q = q

pub head_kept : (stage : Stage) (kind : ℕ) → T (follows stage kind) → (kind ≡ 1 → ⊥) → (a b had : ℕ) → head_from stage a had ≡ head_from (after stage kind) b had
unfolding head_from follows after
head_kept Opening kind t f a b had = absurd (f (eqb→eq kind 1 t))
head_kept Linking kind t f a b had = kept (eqb kind 6) Closed (cond (eqb kind 3) Cutting Linking) b had refl (kept (eqb kind 3) Cutting Linking b had refl refl)
head_kept Cutting kind t f a b had = kept (eqb kind 6) Closed Cutting b had refl refl
head_kept Closed kind t f a b had = absurd t
