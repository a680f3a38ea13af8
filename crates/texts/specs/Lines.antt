-- A text as lines, and the rows 16 to 19 that are tried on each line in turn.
use Rattle.std.specs.Prelude.{ℕ, suc, ◌+◌, ◌*◌, Bool, true, false, cond, not, ◌&&◌, List, [], ◌∷◌, eqb, get_or}
use Rattle.meaning.specs.declared.Row.TheVariants.{Line as LineRow, Sum, Order, Close}
use Rattle.meaning.specs.Judge.{Judged, refuse}
use Rattle.frames.specs.declared.stage.Stage.{Stage}
use Rattle.frames.specs.Stages.{follows, after, open_at}
use Rattle.frames.specs.Frame.{byte_sum, bytes_of, well_formed}

-- a line: its characters, and whether a line feed ended it
pub record Line : Type 0 where
  pub characters : List ℕ
  pub ended : Bool

-- one character more at the front of the first line
unfoldable pub before : ℕ → List Line → List Line
before c [] = record { characters = c ∷ []; ended = false } ∷ []
before c (l ∷ ls) = record { characters = c ∷ l.characters; ended = l.ended } ∷ ls

-- the lines of a text; what follows the last line feed, if anything, is a line that is not ended
unfoldable pub lines_of : List ℕ → List Line
lines_of [] = []
lines_of (c ∷ cs) = cond (eqb c 10) (record { characters = []; ended = true } ∷ lines_of cs) (before c (lines_of cs))

-- the bytes of a line's frame, its kind and the number that two of its bytes give
unfoldable pub frame : Line → List ℕ
frame l = bytes_of l.characters

unfoldable pub kind : Line → ℕ
kind l = get_or (frame l) 0 0

unfoldable pub pair : Line → ℕ → ℕ
pair l i = get_or (frame l) i 0 * 256 + get_or (frame l) (suc i) 0

-- 16 to 19 on each line in turn, from line i on; a missing close is refused at the line after the last
unfoldable pub line_rows : Stage → ℕ → List Line → List Judged
line_rows stage i [] = refuse (open_at stage) Order i ∷ []
line_rows stage i (l ∷ ls) =
    refuse (not (l.ended && well_formed l.characters)) LineRow i
    ∷ refuse (not (eqb (byte_sum (frame l)) 0)) Sum i
    ∷ refuse (not (follows stage (kind l))) Order i
    ∷ refuse (eqb (kind l) 6 && not (eqb (pair l 1) i)) Close i
    ∷ line_rows (after stage (kind l)) (suc i) ls
