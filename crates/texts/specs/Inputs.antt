-- What the input writer writes, and what it tries.
use Rattle.std.specs.Prelude.{ℕ, ◌+◌, ◌/◌, ◌<◌, true, List, [], ◌∷◌, ◌++◌, Result, length}
use Rattle.meaning.specs.declared.Link.{Link}
use Rattle.meaning.specs.declared.Refusal.{Refusal}
use Rattle.meaning.specs.Judge.{Judged, first}
use Rattle.links.specs.Links.{table_rows}
use Rattle.cutting.specs.Record.{entry_size}
use Rattle.cutting.specs.RecordRows.{record_row}
use Rattle.texts.specs.Kinds.{head_line, link_lines, cut_lines, close_line}
use Rattle.texts.specs.Writing.{text_row, Writes}

-- a link that its frame holds, as the types of its parts in code have it; and so each link of a list
pub record InFrame (l : Link) : Type 0 where
  pub first_end : l.a < 256
  pub second_end : l.b < 256
  pub traits : l.tally < 65536

abbrev pub AllInFrames : List Link → Type 0
AllInFrames [] = Unit {0}
AllInFrames (l ∷ ls) = InFrame l × AllInFrames ls

-- an input text: head, links, cuts, close
unfoldable pub input_text : ℕ → ℕ → List Link → List ℕ → List ℕ
input_text n k links bytes =
    head_line n k ++ link_lines links ++ cut_lines (length bytes / entry_size) bytes ++ close_line (1 + length links + length bytes / entry_size)

-- what the writer tries: 1 to 6, 9, 20
unfoldable pub input_rows : ℕ → ℕ → List Link → List ℕ → ℕ → List Judged
input_rows n k links bytes room =
    table_rows n k true links ++ record_row n (length bytes) ∷ text_row (input_text n k links bytes) room ∷ []

-- what the writer promises
abbrev pub WritingInput : ℕ → ℕ → List Link → List ℕ → List ℕ → List ℕ → Result ℕ Refusal → Type 0
WritingInput n k links bytes room room' r = Writes (first (input_rows n k links bytes (length room))) (input_text n k links bytes) room room' r
