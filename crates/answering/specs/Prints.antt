-- What the program prints for an input text: the frame of the first refusal alone, or a result text.
use Rattle.std.specs.Prelude.{ℕ, ◌*◌, ◌%◌, ◌≡◌, true, List, [], ◌++◌, T, length, take, Result, Ok, Err}
use Rattle.meaning.specs.declared.Link.{Link}
use Rattle.meaning.specs.declared.Refusal.{Refusal}
use Rattle.meaning.specs.Judge.{Judged, first, number_of}
use Rattle.meaning.specs.Bytes.{Bytes}
use Rattle.meaning.specs.Tally.{pair_tally}
use Rattle.meaning.specs.Heap.{Cut, start, LawfulRun, left, finished}
use Rattle.cutting.specs.Record.{entry_size, cuts_of}
use Rattle.cutting.specs.Rows.{grouping_rows}
use Rattle.texts.specs.Lines.{lines_of}
use Rattle.texts.specs.Reader.{links_in, entries_in, bones_in, threshold_in, reader_rows}
use Rattle.texts.specs.Kinds.{refusal_line}
use Rattle.texts.specs.Writing.{WritesWhole}
use Rattle.texts.specs.Writers.{result_text}

-- what the program tries: what the reader tries, and on what was read what grouping tries; there is room for 4,096 links, 127 cuts and 128 labels
unfoldable pub grouped_rows : ℕ → ℕ → List Link → List ℕ → List Judged
grouped_rows n k links given = grouping_rows n k true links given 128 (entry_size * 127)

unfoldable pub program_rows : List ℕ → List Judged
program_rows input =
    reader_rows input 4096 (entry_size * 127)
    ++ grouped_rows (bones_in (lines_of input)) (threshold_in (lines_of input)) (links_in (lines_of input)) (entries_in (lines_of input))

-- a record that may be printed: bytes, whole entries, the given ones first, a lawful run, and finished
pub record Finishes (n k : ℕ) (links : List Link) (given bytes : List ℕ) : Type 0 where
  pub are_bytes : Bytes bytes
  pub whole : length bytes % entry_size ≡ 0
  pub kept : take (length given) bytes ≡ given
  pub lawful : LawfulRun n (pair_tally links) k start (cuts_of bytes)
  pub done : T (finished n (pair_tally links) k (left n start (cuts_of bytes)))

-- the result text of such a record
pub record ResultText (n k : ℕ) (links : List Link) (given text : List ℕ) : Type 0 where
  pub bytes : List ℕ
  pub finishes : Finishes n k links given bytes
  pub result : text ≡ result_text n k bytes

-- what is printed, by the first refusal
unfoldable pub Printed : Judged → ℕ → ℕ → List Link → List ℕ → List ℕ → Type 0
Printed (Ok done) n k links given text = ResultText n k links given text
Printed (Err refusal) n k links given text = text ≡ refusal_line (number_of refusal.row) refusal.place

-- the cuts that are printed; none with a refusal
unfoldable pub shown_cuts : (j : Judged) (n k : ℕ) (links : List Link) (given text : List ℕ) → Printed j n k links given text → List Cut
unfolding Printed
shown_cuts (Ok done) n k links given text p = cuts_of p.bytes
shown_cuts (Err refusal) n k links given text p = []

-- the text at the front of the space lent for it, the rest as it was, and its length; or refusal 20, and nothing written
pub record Answers (rows : Judged) (n k : ℕ) (links : List Link) (given out out' : List ℕ) (r : Result ℕ Refusal) : Type 0 where
  pub text : List ℕ
  pub printed : Printed rows n k links given text
  pub writes : WritesWhole text out out' r

-- the program's answer to an input text
abbrev pub Answering : List ℕ → List ℕ → List ℕ → Result ℕ Refusal → Type 0
Answering input out out' r =
    Answers (first (program_rows input)) (bones_in (lines_of input)) (threshold_in (lines_of input)) (links_in (lines_of input)) (entries_in (lines_of input)) out out' r
