-- What the input writer's parts promise each other: the frames around the links first, and the links after them.
use Rattle.std.specs.Prelude.{ℕ, ◌+◌, ◌*◌, ◌/◌, ◌≤◌, ◌<◌, ◌≡◌, List, [], ◌∷◌, ◌++◌, ltb, length, Result}
use Rattle.meaning.specs.declared.Refusal.{Refusal}
use Rattle.meaning.specs.declared.Row.TheVariants.{TextSpace}
use Rattle.meaning.specs.Judge.{Judged, answered, refuse}
use Rattle.meaning.specs.Room.{over, settled}
use Rattle.cutting.specs.Record.{entry_size}
use Rattle.cutting.specs.RecordRows.{record_row}
use Rattle.frames.specs.Frame.{line_size}
use Rattle.texts.specs.Kinds.{head_line, cut_lines, close_line}

-- what the input writer has found when rows 1 to 6 are passed
pub record Counts (n k count : ℕ) : Type 0 where
  pub some_bones : 0 < n
  pub bones : n ≤ 128
  pub threshold : k < 65536
  pub links : count ≤ 4096

-- the length of an input text of so many links and cuts, and of a result text of so many cuts and bones
abbrev pub input_size : ℕ → ℕ → ℕ
input_size count cuts = line_size 1 + line_size 6 + line_size 2 * count + line_size 3 * cuts

abbrev pub result_size : ℕ → ℕ → ℕ
result_size cuts n = line_size 1 + line_size 6 + line_size 3 * cuts + line_size 4 * n

-- rows 9 and 20 of the input writer, of so many links
unfoldable pub later_rows : ℕ → ℕ → List ℕ → ℕ → List Judged
later_rows n count bytes room = record_row n (length bytes) ∷ refuse (ltb room (input_size count (length bytes / entry_size))) TextSpace 0 ∷ []

-- an input text's frames but its links, around the room that so many links take
unfoldable pub around : ℕ → ℕ → ℕ → List ℕ → List ℕ → List ℕ
around n k count bytes room =
    over (over room 0 (head_line n k)) (line_size 1 + line_size 2 * count) (cut_lines (length bytes / entry_size) bytes ++ close_line (1 + count + length bytes / entry_size))

pub record Surrounds (rows : Judged) (n k count : ℕ) (bytes room room' : List ℕ) (r : Result ℕ Refusal) : Type 0 where
  pub answer : r ≡ answered rows (input_size count (length bytes / entry_size))
  pub text_left : room' ≡ settled rows room (around n k count bytes room)
