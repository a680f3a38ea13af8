-- From the reader's promise to those of the programs: what was read fits the rooms and is what the text holds; a refusal fits its frame, and is the program's.
-- Assumes nothing.
use Rattle.std.proofs.Common.{ℕ, ◌*◌, ◌/◌, ◌≤◌, ◌≡◌, refl, sym, ◌∙◌, ap, ap₂, subst, arith, List, ◌++◌, length, take, Result, Ok, Err}
use Rattle.meaning.specs.declared.Link.{Link}
use Rattle.meaning.specs.declared.Refusal.{Refusal}
use Rattle.meaning.specs.Judge.{Judged, Accepted, answered, first, number_of}
use Rattle.meaning.proofs.Room.{settled_new, take_front}
use Rattle.links.proofs.LinksRows.{first_accepted, first-refused}
use Rattle.cutting.specs.Record.{entry_size}
use Rattle.texts.specs.declared.Reading.{Reading}
use Rattle.texts.specs.Lines.{Line, lines_of}
use Rattle.texts.specs.Reader.{links_in, entries_in, bones_in, threshold_in, found_in, reader_rows, Reads}
use Rattle.texts.specs.Kinds.{refusal_line}
use Rattle.texts.specs.Writing.{Refuses}
use Rattle.texts.proofs.Rows.{told_accepted, told_refused}
use Rattle.texts.proofs.ReadsRows.{accepted_well, entries_whole, lines_accepted, has_room}
use Rattle.answering.specs.Prints.{grouped_rows, program_rows, Printed, Answers, Answering}
use Rattle.answering.specs.Steps.{Framed}
use Rattle.answering.specs.ThinPrints.{thinned_rows, thin_rows, thin_printed, ThinAnswers, ThinsText}
use Rattle.answering.proofs.Fitting.{Fits, reader_fits}

module _ {input : List ℕ} {links links' : List Link} {space space' : List ℕ} {g : Result Reading Refusal} (many : length links ≡ 4096) (wide : length space ≡ entry_size * 127) (reads : Reads input links links' space space' g) where
  abbrev ls : List Line
  ls = lines_of input

  abbrev rows : List Judged
  rows = reader_rows input 4096 (entry_size * 127)

  same : first (reader_rows input (length links) (length space)) ≡ first rows
  same = ap first (ap₂ (reader_rows input) many wide)

  says : g ≡ answered (first rows) (found_in ls)
  says = reads.answer ∙ ap (λ (j : Judged). answered j (found_in ls)) same

  module _ {refusal : Refusal} (e : g ≡ Err refusal) where
    refused : first rows ≡ Err refusal
    refused = told_refused (first rows) (found_in ls) refusal (sym e ∙ says)

    pub read_framed : Framed refusal
    unfolding Fits
    read_framed = subst Fits refused (reader_fits input 4096 (entry_size * 127))

    -- it is the program's refusal, and its frame is printed
    pub read_refused : {out out' : List ℕ} {r : Result ℕ Refusal} → Refuses (number_of refusal.row) refusal.place out out' r → Answering input out out' r
    unfolding program_rows Printed
    read_refused {out = out} {out' = out'} {r = r} a =
        subst (λ (j : Judged). Answers j (bones_in ls) (threshold_in ls) (links_in ls) (entries_in ls) out out' r) (sym (first-refused rows _ refusal refused))
        (record { text = refusal_line (number_of refusal.row) refusal.place; printed = refl; writes = a })

    pub read_thin_refused : {out out' : List ℕ} {r : Result ℕ Refusal} → Refuses (number_of refusal.row) refusal.place out out' r → ThinsText input out out' r
    unfolding thin_rows thin_printed
    read_thin_refused {out = out} {out' = out'} {r = r} a =
        subst (λ (j : Judged). ThinAnswers j (bones_in ls) (threshold_in ls) (links_in ls) out out' r) (sym (first-refused rows _ refusal refused)) a

  module _ {found : Reading} (e : g ≡ Ok found) where
    told : (first rows ≡ Accepted) × (found ≡ found_in ls)
    told = told_accepted (first rows) (found_in ls) found (sym e ∙ says)

    entire : length (entries_in ls) / entry_size * entry_size ≡ length (entries_in ls)
    entire = omega (arith, entries_whole ls (accepted_well ls _ _ (lines_accepted input 4096 (entry_size * 127) told.0)))

    read_accepted : (others : List Judged) → first (rows ++ others) ≡ first others
    read_accepted others = first_accepted rows others told.0

    bones_read : found.n ≡ bones_in ls
    unfolding found_in
    bones_read = ap (λ (x : Reading). x.n) told.1

    threshold_read : found.k ≡ threshold_in ls
    unfolding found_in
    threshold_read = ap (λ (x : Reading). x.k) told.1

    links_found : found.links ≡ length (links_in ls)
    unfolding found_in
    links_found = ap (λ (x : Reading). x.links) told.1

    cuts_found : found.cuts * entry_size ≡ length (entries_in ls)
    unfolding found_in
    cuts_found = ap (λ (x : Reading). x.cuts * entry_size) told.1 ∙ entire

    pub links_held : found.links ≤ length links
    links_held = omega (arith, links_found, many, (has_room input 4096 (entry_size * 127) told.0).links_fit)

    pub cuts_held : found.cuts * entry_size ≤ length space
    cuts_held = omega (arith, cuts_found, wide, (has_room input 4096 (entry_size * 127) told.0).entries_fit)

    links_read : take found.links links' ≡ links_in ls
    links_read = ap (take found.links) (reads.links_after ∙ settled_new links _ (same ∙ told.0)) ∙ take_front links (links_in ls) found.links links_found

    entries_read : take (found.cuts * entry_size) space' ≡ entries_in ls
    entries_read =
        ap (take (found.cuts * entry_size)) (reads.record_left ∙ settled_new space _ (same ∙ told.0)) ∙ take_front space (entries_in ls) (found.cuts * entry_size) cuts_found

    -- what the programs' next steps write of it
    pub read_answers : {n k size : ℕ} {out out' : List ℕ} {r : Result ℕ Refusal} → n ≡ found.n → k ≡ found.k → size ≡ found.cuts * entry_size
        → Answers (first (grouped_rows n k (take found.links links') (take size space'))) n k (take found.links links') (take size space') out out' r → Answering input out out' r
    unfolding program_rows
    read_answers {size = size} {out = out} {out' = out'} {r = r} bones threshold whole a =
        let entries : take size space' ≡ entries_in ls = ap (λ (m : ℕ). take m space') whole ∙ entries_read in
        subst (λ (j : Judged). Answers j (bones_in ls) (threshold_in ls) (links_in ls) (entries_in ls) out out' r) (sym (read_accepted (grouped_rows (bones_in ls) (threshold_in ls) (links_in ls) (entries_in ls))))
        (rw (bones ∙ bones_read, threshold ∙ threshold_read, links_read, entries) at a)

    pub read_thins : {n k : ℕ} {out out' : List ℕ} {r : Result ℕ Refusal} → n ≡ found.n → k ≡ found.k
        → ThinAnswers (first (thinned_rows n k (take found.links links'))) n k (take found.links links') out out' r → ThinsText input out out' r
    unfolding thin_rows
    read_thins {out = out} {out' = out'} {r = r} bones threshold a =
        subst (λ (j : Judged). ThinAnswers j (bones_in ls) (threshold_in ls) (links_in ls) out out' r) (sym (read_accepted (thinned_rows (bones_in ls) (threshold_in ls) (links_in ls))))
        (rw (bones ∙ bones_read, threshold ∙ threshold_read, links_read) at a)
