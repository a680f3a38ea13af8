-- Laws of reading a text whole: what was judged can be stored, and storing it leaves what the reader promises.
-- Assumes nothing.
use Rattle.std.proofs.Common.{◌≡◌, ℕ, ◌*◌, ◌/◌, T, List, length, Ok, Err, sym, ap, arith}
use Rattle.cutting.specs.Record.{entry_size}
use Rattle.meaning.specs.declared.Link.{Link}
use Rattle.meaning.specs.declared.Refusal.{Refusal}
use Rattle.meaning.specs.Judge.{Judged, Accepted, answered, first}
use Rattle.meaning.specs.Room.{over}
use Rattle.meaning.proofs.Room.{settled_new, settled_was}
use Rattle.texts.specs.declared.Reading.{Reading}
use Rattle.texts.specs.Lines.{lines_of}
use Rattle.texts.specs.Reader.{links_in, entries_in, found_in, reader_rows, Reads}
use Rattle.texts.specs.Judging.{all_well}
use Rattle.texts.specs.Storing.{Storable}
use Rattle.texts.proofs.Rows.{told_accepted, told_refused}
use Rattle.texts.proofs.ReadsRows.{accepted_well, entries_whole, lines_accepted, has_room}

module _ (text : List ℕ) (links : List Link) (space : List ℕ) where
  abbrev judged : Judged
  judged = first (reader_rows text (length links) (length space))

  -- a text that is refused changes nothing
  pub read_refused : (refusal : Refusal) → Err refusal ≡ answered judged (found_in (lines_of text)) → Reads text links links space space (Err refusal)
  read_refused refusal e =
      let j = told_refused judged (found_in (lines_of text)) refusal e in
      record { answer = e; links_after = sym (settled_was links _ j); record_left = sym (settled_was space _ j) }

  -- what one that is not holds can be stored, and then it is read
  module _ (r : Reading) (e : Ok r ≡ answered judged (found_in (lines_of text))) where
    accepted : judged ≡ Accepted
    accepted = (told_accepted judged (found_in (lines_of text)) r e).0

    well : T (all_well (lines_of text))
    well = accepted_well (lines_of text) _ _ (lines_accepted text (length links) (length space) accepted)

    pub links_storable : Storable text (links_in (lines_of text)) links
    links_storable = record { well = well; fits = (has_room text (length links) (length space) accepted).links_fit }

    pub entries_storable : Storable text (entries_in (lines_of text)) space
    entries_storable = record { well = well; fits = (has_room text (length links) (length space) accepted).entries_fit }

    -- as many links and bytes of entries as were found
    pub links_counted : r.links ≡ length (links_in (lines_of text))
    unfolding found_in
    links_counted = ap (λ (x : Reading). x.links) (told_accepted judged (found_in (lines_of text)) r e).1

    pub entries_counted : r.cuts * entry_size ≡ length (entries_in (lines_of text))
    unfolding found_in
    entries_counted =
        let whole = entries_whole (lines_of text) well in
        let cuts : r.cuts ≡ length (entries_in (lines_of text)) / entry_size = ap (λ (x : Reading). x.cuts) (told_accepted judged (found_in (lines_of text)) r e).1 in
        omega (arith, whole, cuts)

    pub reads_so : Reads text links (over links 0 (links_in (lines_of text))) space (over space 0 (entries_in (lines_of text))) (Ok r)
    reads_so = record { answer = e; links_after = sym (settled_new links _ accepted); record_left = sym (settled_new space _ accepted) }
