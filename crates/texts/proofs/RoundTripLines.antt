-- The line of a frame as the reader has it: what is read from it, and that rows 16 to 19 pass over it.
-- Assumes nothing.
use Prim.Native.Nat.{ℕ, suc, ◌+◌, ◌*◌}
use mathlib.Core.Path.{◌≡◌, ◌∙◌, ap}
use mathlib.Core.Bool.{true, not, ◌&&◌}
use mathlib.Core.List.{List, [], ◌∷◌, ◌++◌, append_assoc}
use lib.Dec.{T, eqb}
use lib.ListN.{length, get_or}
use Rattle.meaning.specs.declared.Row.TheVariants.{Line as LineRow, Sum, Order, Close}
use Rattle.meaning.specs.Judge.{first}
use Rattle.meaning.proofs.Tests.{eq→eqb}
use Rattle.frames.specs.Frame.{payloads, is_kind, byte_sum, hex, line, well_formed}
use Rattle.frames.specs.declared.stage.Stage.{Stage}
use Rattle.frames.specs.Stages.{follows, after}
use Rattle.texts.specs.Lines.{Line, lines_of, frame, kind, pair, line_rows}
use Rattle.meaning.specs.Bytes.{Bytes}
use Rattle.frames.proofs.Frames.{whole, whole_bytes, whole_sum, line_means, line_well, is_hex-hex}
use Rattle.texts.proofs.Rows.{row_passes, twice}
use Rattle.texts.proofs.Lines.{lines_ended, plain_digits}

-- the line that a frame is written as
abbrev pub line_of : ℕ → List ℕ → Line
line_of kind payload = record { characters = hex (whole kind payload); ended = true }

module _ (k : ℕ) (payload : List ℕ) (bytes : Bytes (k ∷ payload)) where
  pub first-line : (rest : List ℕ) → lines_of (line k payload ++ rest) ≡ line_of k payload ∷ lines_of rest
  unfolding line
  first-line rest =
      ap lines_of (append_assoc (hex (whole k payload)) (10 ∷ []) rest)
      ∙ lines_ended (hex (whole k payload)) rest (plain_digits (hex (whole k payload)) (is_hex-hex (whole k payload) (whole_bytes k payload bytes)))

  pub frame_is : frame (line_of k payload) ≡ whole k payload
  unfolding frame
  frame_is = line_means k payload bytes

  pub kind_is : Rattle.texts.specs.Lines.kind (line_of k payload) ≡ k
  unfolding kind
  kind_is = ap (λ (l : List ℕ). get_or l 0 0) frame_is

  pub pair_is : (i : ℕ) → pair (line_of k payload) i ≡ get_or (whole k payload) i 0 * 256 + get_or (whole k payload) (suc i) 0
  unfolding pair
  pair_is i = ap (λ (l : List ℕ). get_or l i 0 * 256 + get_or l (suc i) 0) frame_is

  -- a frame in its order, and a close with the right count, are passed
  pub row_passed : T (is_kind k) → length payload ≡ get_or payloads k 0 → (stage : Stage) (i : ℕ) (ls : List Line)
      → T (follows stage k)
      → T (not (eqb k 6 && not (eqb (pair (line_of k payload) 1) i)))
      → first (line_rows stage i (line_of k payload ∷ ls)) ≡ first (line_rows (after stage k) (suc i) ls)
  unfolding line_rows
  row_passed t e stage i ls f c =
      rw kind_is
      (row_passes _ LineRow i _ (twice (well_formed (hex (whole k payload))) (line_well k payload bytes t e))
      ∙ row_passes _ Sum i _ (twice (eqb (byte_sum (frame (line_of k payload))) 0) (eq→eqb (byte_sum (frame (line_of k payload))) 0 (ap byte_sum frame_is ∙ whole_sum k payload)))
      ∙ row_passes _ Order i _ (twice (follows stage k) f)
      ∙ row_passes _ Close i _ c)
