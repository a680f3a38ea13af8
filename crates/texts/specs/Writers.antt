-- What the result writer writes and tries, and which texts the input writer can write.
use Rattle.std.specs.Prelude.{ℕ, ◌+◌, ◌/◌, Bool, true, not, ◌&&◌, List, [], ◌∷◌, ◌++◌, eqb, length, Result}
use Rattle.meaning.specs.declared.Link.{Link}
use Rattle.meaning.specs.declared.Refusal.{Refusal}
use Rattle.meaning.specs.Judge.{Judged, first}
use Rattle.meaning.specs.Tally.{pair_tally}
use Rattle.links.specs.Links.{table_rows}
use Rattle.cutting.specs.Record.{entry_size}
use Rattle.cutting.specs.Runs.{names_left}
use Rattle.cutting.specs.RecordRows.{record_rows}
use Rattle.texts.specs.Lines.{Line, kind}
use Rattle.texts.specs.Kinds.{head_line, cut_lines, label_lines, close_line}
use Rattle.texts.specs.Writing.{text_row, Writes}

-- a result text: head, the record's cuts, the pile names that they leave, close
unfoldable pub result_text : ℕ → ℕ → List ℕ → List ℕ
result_text n k bytes =
    head_line n k ++ cut_lines (length bytes / entry_size) bytes ++ label_lines n (names_left n bytes) ++ close_line (1 + length bytes / entry_size + n)

-- whether a text has no notes, of which the input writer writes none
unfoldable pub unnoted : List Line → Bool
unnoted [] = true
unnoted (l ∷ ls) = not (eqb (kind l) 5) && unnoted ls

-- what the result writer tries: 1 to 6, 9 to 13, 20
unfoldable pub result_rows : ℕ → ℕ → List Link → List ℕ → ℕ → List Judged
result_rows n k links bytes room =
    table_rows n k true links ++ record_rows n (pair_tally links) k bytes ++ text_row (result_text n k bytes) room ∷ []

-- and what it promises
abbrev pub WritingResult : ℕ → ℕ → List Link → List ℕ → List ℕ → List ℕ → Result ℕ Refusal → Type 0
WritingResult n k links bytes room room' r = Writes (first (result_rows n k links bytes (length room))) (result_text n k bytes) room room' r
