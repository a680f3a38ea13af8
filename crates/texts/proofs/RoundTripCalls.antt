-- The round trips over the promises of the reader and the input writer.
-- Assumes nothing.
use Prim.Native.Nat.{ℕ, ◌*◌, ◌/◌, ◌≤◌}
use mathlib.Core.Path.{◌≡◌, refl, sym, ◌∙◌, ap, ap₂, subst}
use mathlib.Core.Bool.{true, not}
use mathlib.Core.List.{List, []}
use native.Mathlib.Omega.{arith}
use borrow.Author.Tests.{le-ltb}
use lib.Dec.{T, ltb}
use lib.ListN.{length, take}
use Rattle.meaning.specs.declared.Link.{Link}
use Rattle.std.proofs.Common.{Result, Ok}
use Rattle.meaning.specs.declared.Refusal.{Refusal}
use Rattle.meaning.specs.declared.Row.TheVariants.{TextLength, Links, Record, LinkSpace, RecordSpace}
use Rattle.meaning.specs.Judge.{Judged, Accepted, first}
use Rattle.meaning.specs.Room.{over}
use Rattle.meaning.proofs.Room.{settled_new, take_front}
use Rattle.meaning.proofs.Tests.{fails}
use Rattle.links.proofs.LinksRows.{first_accepted, table_counted}
use Rattle.cutting.specs.Record.{entry_size}
use Rattle.texts.specs.declared.Reading.{Reading}
use Rattle.frames.specs.declared.stage.Stage.TheVariants.{Opening}
use Rattle.texts.specs.Lines.{lines_of, line_rows}
use Rattle.texts.specs.Reader.{links_in, entries_in, bones_in, threshold_in, found_in, reader_rows, Reads}
use Rattle.texts.specs.Writing.{Writes}
use Rattle.texts.specs.Inputs.{AllInFrames, input_text, input_rows}
use Rattle.texts.specs.Writers.{unnoted}
use Rattle.meaning.specs.Bytes.{Bytes}
use Rattle.texts.proofs.Rows.{row_passes, answered_accepted, told_accepted}
use Rattle.texts.proofs.ReadsRows.{accepted_well, entries_whole, lines_accepted}
use Rattle.texts.proofs.Advances.{numbers}
use Rattle.texts.proofs.WritesLinks.{length_input}
use Rattle.texts.proofs.WritesRows.{later_accepted}
use Rattle.texts.proofs.WritesInput.{rows_left, table_accepted}
use Rattle.texts.proofs.RoundTripWritten.{Written as Fits, rows_passed, bones_back, threshold_back, links_back, entries_back}
use Rattle.texts.proofs.RoundTripRead.{text_back}

-- a number that is not over a bound passes the row that refuses those over it
within : (a b : ℕ) → b ≤ a → T (not (ltb a b))
within a b h = fails (le-ltb a b h)

-- what the input writer accepts fits its frames, and the numbers that the reader allows
record Accepts (n k : ℕ) (links : List Link) (bytes : List ℕ) : Type 0 where
  fits : Fits n k links bytes
  few_links : length links ≤ 4096
  few_entries : length bytes ≤ entry_size * 127

accepts : (n k : ℕ) (links : List Link) (bytes : List ℕ) (room : ℕ) → AllInFrames links → Bytes bytes → first (input_rows n k links bytes room) ≡ Accepted
    → Accepts n k links bytes
accepts n k links bytes room s f e =
    let table = table_accepted n k links bytes room e in
    let c = table_counted n k true links table in
    let later = later_accepted n (length links) bytes room (sym (rows_left n k links bytes room table) ∙ e) in
    record {
      fits =
          record {
            bones = omega (arith, c.few_bones);
            threshold = omega (arith, c.low_threshold);
            tallies = s;
            entries = f;
            entire = later.entire;
            frames = omega (arith, c.few_links, c.few_bones, later.cuts);
          };
      few_links = c.few_links;
      few_entries = omega (arith, c.few_bones, later.entire, later.cuts);
    }

none_refused : first [] ≡ Accepted
unfolding first
none_refused = refl

-- the reader accepts what the input writer wrote
module _ (n k : ℕ) (links : List Link) (bytes : List ℕ) (a : Accepts n k links bytes) (link_room record_room : ℕ)
    (more_links : length links ≤ link_room) (more-entries : length bytes ≤ record_room) where
  accepted_again : first (reader_rows (input_text n k links bytes) link_room record_room) ≡ Accepted
  unfolding reader_rows
  accepted_again =
      let text = input_text n k links bytes in
      let many = ap length (links_back n k links bytes a.fits) in
      let long = ap length (entries_back n k links bytes a.fits) in
      row_passes _ TextLength 0 _ (within 65536 (length text) (omega (arith, length_input n k links bytes, a.few_links, a.few_entries)))
      ∙ first_accepted (line_rows Opening 0 (lines_of text)) _ (rows_passed n k links bytes a.fits)
      ∙ row_passes _ Links 0 _ (within 4096 (length (links_in (lines_of text))) (omega (arith, a.few_links)))
      ∙ row_passes _ Record 0 _ (within (entry_size * 127) (length (entries_in (lines_of text))) (omega (arith, a.few_entries)))
      ∙ row_passes _ LinkSpace 0 _ (within link_room (length (links_in (lines_of text))) (omega arith))
      ∙ row_passes _ RecordSpace 0 [] (within record_room (length (entries_in (lines_of text))) (omega arith))
      ∙ none_refused

-- a writer that gives a count has accepted, and left its text at the front
did_write : (j : Judged) (text room room' : List ℕ) (count : ℕ) → Writes j text room room' (Ok count)
    → (j ≡ Accepted) × (count ≡ length text) × (room' ≡ over room 0 text)
did_write j text room room' count w =
    let t = told_accepted j (length text) count w.answer in
    (t.0, t.1, w.text_left ∙ settled_new room _ t.0)

-- and one that has accepted gives its text's length
does_write : (j : Judged) (text room room' : List ℕ) (r : Result ℕ Refusal) → Writes j text room room' r → j ≡ Accepted
    → (r ≡ Ok (length text)) × (room' ≡ over room 0 text)
does_write j text room room' r w e =
    (w.answer ∙ answered_accepted (length text) e, w.text_left ∙ settled_new room _ e)

-- what a reader gives that has accepted
did_read : (text : List ℕ) (links links' : List Link) (space space' : List ℕ) (r : Result Reading Refusal) → Reads text links links' space space' r
    → first (reader_rows text (length links) (length space)) ≡ Accepted
    → (r ≡ Ok (found_in (lines_of text)))
    × (links' ≡ over links 0 (links_in (lines_of text)))
    × (space' ≡ over space 0 (entries_in (lines_of text)))
did_read text links links' space space' r s e = (
  s.answer ∙ answered_accepted (found_in (lines_of text)) e,
  s.links_after ∙ settled_new links _ e,
  s.record_left ∙ settled_new space _ e,
)

-- what is read from a text that the input writer wrote
pub write_read : (n k : ℕ) (links : List Link) (bytes room room' : List ℕ) (count : ℕ) → AllInFrames links → Bytes bytes
    → Writes (first (input_rows n k links bytes (length room))) (input_text n k links bytes) room room' (Ok count)
    → (link_space link_space' : List Link) (space space' : List ℕ) (r : Result Reading Refusal)
    → length links ≤ length link_space
    → length bytes ≤ length space
    → Reads (take count room') link_space link_space' space space' r
    → (r ≡ Ok (record { n = n; k = k; links = length links; cuts = length bytes / entry_size }))
    × (link_space' ≡ over link_space 0 links)
    × (space' ≡ over space 0 bytes)
unfolding found_in
write_read n k links bytes room room' count s f w link_space link_space' space space' r h g reads =
    let text = input_text n k links bytes in
    let d = did_write _ text room room' count w in
    let a = accepts n k links bytes (length room) s f d.0 in
    let same : take count room' ≡ text = ap (take count) d.2 ∙ take_front room text count d.1 in
    let again = accepted_again n k links bytes a (length link_space) (length space) h g in
    let back = did_read text link_space link_space' space space' r (subst (λ (t : List ℕ). Reads t link_space link_space' space space' r) same reads) again in
    let bones = bones_back n k links bytes a.fits in
    let threshold = threshold_back n k links bytes a.fits in
    let ls = links_back n k links bytes a.fits in
    let es = entries_back n k links bytes a.fits in (
      back.0 ∙ (λ i. Ok (numbers (bones i) (threshold i) (length (ls i)) (length (es i) / entry_size))),
      back.1 ∙ ap (over link_space 0) ls,
      back.2 ∙ ap (over space 0) es,
    )

-- what is written of a text that the reader read
pub read_write : (text : List ℕ) (link_space link_space' : List Link) (space space' : List ℕ) (n k l c : ℕ)
    → Reads text link_space link_space' space space' (Ok (record { n = n; k = k; links = l; cuts = c }))
    → T (unnoted (lines_of text))
    → (room room' : List ℕ) (r : Result ℕ Refusal)
    → first (input_rows n k (take l link_space') (take (entry_size * c) space') (length room)) ≡ Accepted
    → Writes (first (input_rows n k (take l link_space') (take (entry_size * c) space') (length room))) (input_text n k (take l link_space') (take (entry_size * c) space')) room room' r
    → (r ≡ Ok (length text)) × (room' ≡ over room 0 text)
unfolding found_in
read_write text link_space link_space' space space' n k l c reads t room room' r e w =
    let ls = lines_of text in
    let told = told_accepted _ (found_in ls) (numbers n k l c) reads.answer in
    let back = did_read text link_space link_space' space space' _ reads told.0 in
    let n-is : n ≡ bones_in ls = ap (λ (x : Reading). x.n) told.1 in
    let k-is : k ≡ threshold_in ls = ap (λ (x : Reading). x.k) told.1 in
    let l-is : l ≡ length (links_in ls) = ap (λ (x : Reading). x.links) told.1 in
    let c-is : c ≡ length (entries_in ls) / entry_size = ap (λ (x : Reading). x.cuts) told.1 in
    let rows = lines_accepted text (length link_space) (length space) told.0 in
    let whole = entries_whole ls (accepted_well ls Opening 0 rows) in
    let size : entry_size * c ≡ length (entries_in ls) = omega arith in
    let links-are : take l link_space' ≡ links_in ls = ap (take l) back.1 ∙ take_front link_space (links_in ls) l l-is in
    let entries-are : take (entry_size * c) space' ≡ entries_in ls = ap (take (entry_size * c)) back.2 ∙ take_front space (entries_in ls) (entry_size * c) size in
    let same : input_text n k (take l link_space') (take (entry_size * c) space') ≡ text
    = ap₂ (λ (x y : ℕ). input_text x y (take l link_space') (take (entry_size * c) space')) n-is k-is
    ∙ ap₂ (input_text (bones_in ls) (threshold_in ls)) links-are entries-are
    ∙ sym (text_back text rows t) in
    let d = does_write _ _ room room' r w e in
    (d.0 ∙ ap (λ (x : List ℕ). Ok (length x)) same, d.1 ∙ ap (over room 0) same)
