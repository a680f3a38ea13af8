-- The theorems about texts, over all inputs, each closed by a citation.
-- A link's bones are below 256 and its tally below 65,536 (`AllInFrames`), and a run of bytes holds bytes (`Bytes`), as their types in code have it.
-- Assumes nothing.
use Prim.Native.Nat.{ℕ, ◌*◌, ◌/◌, ◌≤◌}
use mathlib.Core.Path.{◌≡◌, sym, ◌∙◌}
use mathlib.Core.List.{List}
use lib.Dec.{T}
use lib.ListN.{length, take}
use Rattle.meaning.specs.declared.Link.{Link}
use Rattle.std.proofs.Common.{Result, Ok}
use Rattle.meaning.specs.declared.Refusal.{Refusal}
use Rattle.meaning.specs.Judge.{Judged, Accepted, first}
use Rattle.meaning.specs.Room.{over}
use Rattle.cutting.specs.Record.{entry_size}
use Rattle.texts.specs.declared.Reading.{Reading}
use Rattle.texts.specs.Lines.{lines_of}
use Rattle.texts.specs.Reader.{links_in, entries_in, bones_in, threshold_in, reader_rows, Reads}
use Rattle.texts.specs.Writing.{Writes}
use Rattle.texts.specs.Inputs.{AllInFrames, input_text, input_rows}
use Rattle.texts.specs.Writers.{result_text, unnoted}
use Rattle.texts.specs.Steps.{input_size, result_size}
use Rattle.meaning.specs.Bytes.{Bytes}
use Rattle.texts.proofs.WritesLinks.{length_input}
use Rattle.texts.proofs.WritesTexts.{length_result}
use Rattle.texts.proofs.RoundTripRead.{text_back}
use Rattle.texts.proofs.ReadsRows.{lines_accepted}
use Rattle.texts.proofs.RoundTripCalls.{write_read, read_write}

-- what the input writer writes, the reader reads back as the same n, k, links and cuts
pub written_then_read : (n k : ℕ) (links : List Link) (bytes room room' : List ℕ) (count : ℕ) → AllInFrames links → Bytes bytes
    → Writes (first (input_rows n k links bytes (length room))) (input_text n k links bytes) room room' (Ok count)
    → (link_space link_space' : List Link) (space space' : List ℕ) (r : Result Reading Refusal)
    → length links ≤ length link_space
    → length bytes ≤ length space
    → Reads (take count room') link_space link_space' space space' r
    → (r ≡ Ok (record { n = n; k = k; links = length links; cuts = length bytes / entry_size }))
    × (link_space' ≡ over link_space 0 links)
    × (space' ≡ over space 0 bytes)
written_then_read = write_read

-- a text without notes whose contents the input writer accepts, read and written again, is the same text
pub read_then_written : (text : List ℕ) (link_space link_space' : List Link) (space space' : List ℕ) (n k l c : ℕ)
    → Reads text link_space link_space' space space' (Ok (record { n = n; k = k; links = l; cuts = c }))
    → T (unnoted (lines_of text))
    → (room room' : List ℕ) (r : Result ℕ Refusal)
    → first (input_rows n k (take l link_space') (take (entry_size * c) space') (length room)) ≡ Accepted
    → Writes (first (input_rows n k (take l link_space') (take (entry_size * c) space') (length room))) (input_text n k (take l link_space') (take (entry_size * c) space')) room room' r
    → (r ≡ Ok (length text)) × (room' ≡ over room 0 text)
read_then_written = read_write

-- a text without notes that the reader accepts is the input text of what is read from it, whatever its numbers
pub read_is_input : (text : List ℕ) (link_room record_room : ℕ) → first (reader_rows text link_room record_room) ≡ Accepted → T (unnoted (lines_of text))
    → text ≡ input_text (bones_in (lines_of text)) (threshold_in (lines_of text)) (links_in (lines_of text)) (entries_in (lines_of text))
read_is_input text link_room record_room e t = text_back text (lines_accepted text link_room record_room e) t

-- a text has one reading, and one text is written: what the promises say of the answer and of lent room settles both
pub one_reading : (text : List ℕ) (links links₁ links₂ : List Link) (space space₁ space₂ : List ℕ) (r s : Result Reading Refusal)
    → Reads text links links₁ space space₁ r
    → Reads text links links₂ space space₂ s
    → (r ≡ s) × (links₁ ≡ links₂) × (space₁ ≡ space₂)
one_reading text links links₁ links₂ space space₁ space₂ r s a b =
    (a.answer ∙ sym b.answer, a.links_after ∙ sym b.links_after, a.record_left ∙ sym b.record_left)

pub one_writing : (j : Judged) (text room room₁ room₂ : List ℕ) (r s : Result ℕ Refusal) → Writes j text room room₁ r → Writes j text room room₂ s
    → (r ≡ s) × (room₁ ≡ room₂)
one_writing j text room room₁ room₂ r s a b = (a.answer ∙ sym b.answer, a.text_left ∙ sym b.text_left)

-- how long the texts are
pub input_length : (n k : ℕ) (links : List Link) (bytes : List ℕ) → length (input_text n k links bytes) ≡ input_size (length links) (length bytes / entry_size)
input_length = length_input

pub result_length : (n k : ℕ) (bytes : List ℕ) → length (result_text n k bytes) ≡ result_size (length bytes / entry_size) n
result_length = length_result
