-- What the program `thin` prints for an input text: the frame of the first refusal alone, or the input text of the links that stay inside groups.
use Rattle.std.specs.Prelude.{ℕ, ◌*◌, true, List, [], ◌++◌, Result, Ok, Err}
use Rattle.meaning.specs.declared.Link.{Link}
use Rattle.meaning.specs.declared.Refusal.{Refusal}
use Rattle.meaning.specs.Judge.{Judged, first, number_of}
use Rattle.meaning.specs.Tally.{pair_tally}
use Rattle.cutting.specs.Record.{entry_size}
use Rattle.cutting.specs.Rows.{thinning_rows}
use Rattle.cutting.specs.Calls.{kept}
use Rattle.texts.specs.Lines.{lines_of}
use Rattle.texts.specs.Reader.{links_in, bones_in, threshold_in, reader_rows}
use Rattle.texts.specs.Kinds.{refusal_line}
use Rattle.texts.specs.Writing.{WritesWhole}
use Rattle.texts.specs.Inputs.{input_text}

-- what it tries: what the reader tries, and on what was read what thinning tries; there is room for 4,096 links and 127 cuts. Of the input writer's rows only
-- 20 can refuse what thinning kept (`writer_accepts` in proofs/ThinTheorems)
unfoldable pub thinned_rows : ℕ → ℕ → List Link → List Judged
thinned_rows n k links = thinning_rows n k true links 4096

unfoldable pub thin_rows : List ℕ → List Judged
thin_rows input = reader_rows input 4096 (entry_size * 127) ++ thinned_rows (bones_in (lines_of input)) (threshold_in (lines_of input)) (links_in (lines_of input))

-- head, the links whose ends share a group, close: no cuts, whatever was given
unfoldable pub thinned_text : ℕ → ℕ → List Link → List ℕ
thinned_text n k links = input_text n k (kept n (pair_tally links) k links) []

-- what is printed, by the first refusal
unfoldable pub thin_printed : Judged → ℕ → ℕ → List Link → List ℕ
thin_printed (Ok done) n k links = thinned_text n k links
thin_printed (Err refusal) n k links = refusal_line (number_of refusal.row) refusal.place

-- it stands at the front of the space lent for it, the rest as it was; or the answer is refusal 20, and nothing is written
abbrev pub ThinAnswers : Judged → ℕ → ℕ → List Link → List ℕ → List ℕ → Result ℕ Refusal → Type 0
ThinAnswers rows n k links out out' r = WritesWhole (thin_printed rows n k links) out out' r

-- the program's answer to an input text
abbrev pub ThinsText : List ℕ → List ℕ → List ℕ → Result ℕ Refusal → Type 0
ThinsText input out out' r = ThinAnswers (first (thin_rows input)) (bones_in (lines_of input)) (threshold_in (lines_of input)) (links_in (lines_of input)) out out' r
