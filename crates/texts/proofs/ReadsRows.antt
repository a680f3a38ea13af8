-- Laws of the reader's rows: the lines first, then the counts; and of a text that is accepted: all of its lines are well formed.
-- Assumes nothing.
use Prim.Native.Nat.{ℕ, suc, ◌*◌, ◌/◌, ◌%◌, ◌≤◌, ◌<◌}
use mathlib.Core.Path.{◌≡◌, refl, sym, ◌∙◌, ap}
use mathlib.Core.Logic.{⊎_elim}
use mathlib.Core.Bool.{not, ◌&&◌}
use mathlib.Core.List.{List, [], ◌∷◌, ◌++◌}
use native.Mathlib.Omega.{arith}
use borrow.Author.Tests.{le-ltb}
use lib.Dec.{T, eqb, ltb, eqb→eq, lt→ltb, nltb→le}
use lib.ListN.{length, get_or, drop, length-append, length-drop}
use lib.Seq.{length-take-le}
use Rattle.std.proofs.Common.{Ok, Err, ap₂}
use Rattle.meaning.specs.declared.Refusal.{Refusal}
use Rattle.meaning.specs.declared.Row.TheVariants.{TextLength, Line as LineRow, Sum, Order, Close, Links, Record, LinkSpace, RecordSpace}
use Rattle.meaning.specs.Judge.{Judged, Accepted, Refused, answered, refuse, first}
use Rattle.links.proofs.LinksRows.{first_accepted, first-refused, accepted_left, accepted_right}
use Rattle.meaning.proofs.Tests.{both, left_of, right_of, fails}
use Rattle.cutting.specs.Record.{entry_size}
use Rattle.texts.specs.declared.Reading.{Reading}
use Rattle.frames.specs.declared.stage.Stage.{Stage}
use Rattle.frames.specs.declared.stage.Stage.TheVariants.{Opening}
use Rattle.frames.specs.Frame.{payloads, byte_sum, well_formed}
use Rattle.frames.specs.Stages.{follows, after}
use Rattle.texts.specs.Lines.{Line, lines_of, frame, kind, pair, line_rows}
use Rattle.texts.specs.Reader.{entry_in, links_in, entries_in, found_in, reader_rows}
use Rattle.texts.specs.Judging.{all_well}
use Rattle.frames.proofs.Frames.{chosen, well_parts}
use Rattle.texts.proofs.Rows.{row_applies, row_passes, row_accepted, once, told_accepted, answered_accepted, answered_refused}
use Rattle.meaning.specs.declared.Row.{Row}

-- the lines of an accepted text are well formed
pub accepted_well : (ls : List Line) (stage : Stage) (line : ℕ) → first (line_rows stage line ls) ≡ Accepted → T (all_well ls)
unfolding line_rows all_well
accepted_well [] stage line e = tt
accepted_well (l ∷ ls) stage line e =
    let r16 = row_accepted (not (l.ended && well_formed l.characters)) LineRow line _ e in
    let r17 = row_accepted (not (eqb (byte_sum (frame l)) 0)) Sum line _ r16.1 in
    let r18 = row_accepted (not (follows stage (kind l))) Order line _ r17.1 in
    let r19 = row_accepted (eqb (kind l) 6 && not (eqb (pair l 1) line)) Close line _ r18.1 in
    both (l.ended && well_formed l.characters) (all_well ls) (once (l.ended && well_formed l.characters) r16.0)
    (accepted_well ls (after stage (kind l)) (suc line) r19.1)

-- the entries of well formed lines are whole
line_entry : (l : Line) → T (well_formed l.characters) → kind l ≡ 3 → length (entry_in l) ≡ entry_size
unfolding entry_in frame kind
line_entry l t e =
    let w = well_parts l.characters t in
    length-take-le entry_size (drop 1 (frame l)) (omega (arith, length-drop 1 (frame l), w.2, ap (λ (x : ℕ). get_or payloads x 0) e))

pub entries_whole : (ls : List Line) → T (all_well ls) → length (entries_in ls) % entry_size ≡ 0
unfolding entries_in all_well
entries_whole [] t = refl
entries_whole (l ∷ ls) t =
    let here = left_of (l.ended && well_formed l.characters) (all_well ls) t in
    let more = entries_whole ls (right_of (l.ended && well_formed l.characters) (all_well ls) t) in
    ⊎_elim
    (λ c.
    omega (
      arith,
      more,
      ap length c.1,
      length-append (entry_in l) (entries_in ls),
      line_entry l (right_of l.ended (well_formed l.characters) here) (eqb→eq (kind l) 3 c.0),
    ))
    (λ c. omega (arith, more, ap length c.1))
    (chosen (eqb (kind l) 3) (entry_in l ++ entries_in ls) (entries_in ls))

-- rows 3, 9, 14 and 8, by how many links there are and how many bytes their entries have
unfoldable pub counts : ℕ → ℕ → ℕ → ℕ → List Judged
counts links entries lent room =
    refuse (ltb 4096 links) Links 0
    ∷ refuse (ltb (entry_size * 127) entries) Record 0
    ∷ refuse (ltb lent links) LinkSpace 0
    ∷ refuse (ltb room entries) RecordSpace 0
    ∷ []

-- what they accept
pub record Roomy (links entries lent room : ℕ) : Type 0 where
  pub links_fit : links ≤ lent
  pub entries_fit : entries ≤ room

pub counts_roomy : (links entries lent room : ℕ) → first (counts links entries lent room) ≡ Accepted → Roomy links entries lent room
unfolding counts
counts_roomy links entries lent room e =
    let three = row_accepted _ Links 0 _ e in
    let nine = row_accepted _ Record 0 _ three.1 in
    let fourteen = row_accepted _ LinkSpace 0 _ nine.1 in
    let eight = row_accepted _ RecordSpace 0 [] fourteen.1 in
    record { links_fit = nltb→le lent links fourteen.0; entries_fit = nltb→le room entries eight.0 }

-- the reader's rows: row 15, the lines, and the counts
module _ (text : List ℕ) (lent room : ℕ) where
  abbrev line_judged : Judged
  line_judged = first (line_rows Opening 0 (lines_of text))

  abbrev counted : Judged
  counted = first (counts (length (links_in (lines_of text))) (length (entries_in (lines_of text))) lent room)

  pub long-text : 65536 < length text → first (reader_rows text lent room) ≡ Refused TextLength 0
  unfolding reader_rows
  long-text h = row_applies (ltb 65536 (length text)) TextLength 0 _ (lt→ltb 65536 (length text) h)

  rows_are : length text ≤ 65536 → first (reader_rows text lent room) ≡ first (line_rows Opening 0 (lines_of text) ++ counts (length (links_in (lines_of text))) (length (entries_in (lines_of text))) lent room)
  unfolding reader_rows counts
  rows_are h = row_passes (ltb 65536 (length text)) TextLength 0 _ (fails (le-ltb 65536 (length text) h))

  pub by-line : length text ≤ 65536 → (refusal : Refusal) → line_judged ≡ Err refusal → first (reader_rows text lent room) ≡ Err refusal
  by-line h refusal e = rows_are h ∙ first-refused (line_rows Opening 0 (lines_of text)) _ refusal e

  pub by_counts : length text ≤ 65536 → line_judged ≡ Accepted → first (reader_rows text lent room) ≡ counted
  by_counts h e = rows_are h ∙ first_accepted (line_rows Opening 0 (lines_of text)) _ e

  -- what an accepted text passes
  parts_accepted : first (reader_rows text lent room) ≡ Accepted → (line_judged ≡ Accepted) × (counted ≡ Accepted)
  unfolding reader_rows counts
  parts_accepted e =
      let behind = (row_accepted (ltb 65536 (length text)) TextLength 0 _ e).1 in
      (accepted_left (line_rows Opening 0 (lines_of text)) _ behind, accepted_right (line_rows Opening 0 (lines_of text)) _ behind)

  pub lines_accepted : first (reader_rows text lent room) ≡ Accepted → line_judged ≡ Accepted
  lines_accepted e = (parts_accepted e).0

  pub has_room : first (reader_rows text lent room) ≡ Accepted → Roomy (length (links_in (lines_of text))) (length (entries_in (lines_of text))) lent room
  has_room e = counts_roomy _ _ lent room (parts_accepted e).1

-- what was found counts the links, and the bytes of the entries, which are whole
module _ (text : List ℕ) (r : Reading) (e : Ok r ≡ answered (first (line_rows Opening 0 (lines_of text))) (found_in (lines_of text))) where
  told : (first (line_rows Opening 0 (lines_of text)) ≡ Accepted) × (r ≡ found_in (lines_of text))
  told = told_accepted _ (found_in (lines_of text)) r e

  pub links_are_read : length (links_in (lines_of text)) ≡ r.links
  unfolding found_in
  links_are_read = ap (λ (x : Reading). x.links) (sym told.1)

  pub entries_read : length (entries_in (lines_of text)) ≡ r.cuts * entry_size
  unfolding found_in
  entries_read =
      let whole = entries_whole (lines_of text) (accepted_well (lines_of text) Opening 0 told.0) in
      let cuts : r.cuts ≡ length (entries_in (lines_of text)) / entry_size = ap (λ (x : Reading). x.cuts) told.1 in
      omega (arith, whole, cuts)

-- what the lines of a text gave, where none was refused: the rows that are left, on the numbers that were found
pub record Found (text : List ℕ) (lent room : ℕ) (r : Reading) : Type 0 where
  pub is : r ≡ found_in (lines_of text)
  pub rows : first (reader_rows text lent room) ≡ first (counts r.links (r.cuts * entry_size) lent room)

pub found : (text : List ℕ) (lent room : ℕ) (r : Reading) → length text ≤ 65536
    → Ok r ≡ answered (first (line_rows Opening 0 (lines_of text))) (found_in (lines_of text))
    → Found text lent room r
unfolding found_in
found text lent room r h e =
    let t = told_accepted _ (found_in (lines_of text)) r e in
    let whole = entries_whole (lines_of text) (accepted_well (lines_of text) Opening 0 t.0) in
    let links : length (links_in (lines_of text)) ≡ r.links = ap (λ (x : Reading). x.links) (sym t.1) in
    let cuts : r.cuts ≡ length (entries_in (lines_of text)) / entry_size = ap (λ (x : Reading). x.cuts) t.1 in
    let entries : length (entries_in (lines_of text)) ≡ r.cuts * entry_size = omega (arith, whole, cuts) in
    record {
      is = t.1;
      rows = by_counts text lent room h t.0 ∙ ap₂ (λ (a b : ℕ). first (counts a b lent room)) links entries;
    }

-- the reader's answer by the counts: the first of rows 3, 9, 14 and 8 that refuses, or what was found
module _ (text : List ℕ) (lent room : ℕ) (small : length text ≤ 65536) (r : Reading)
    (e : Ok r ≡ answered (first (line_rows Opening 0 (lines_of text))) (found_in (lines_of text))) where
  abbrev rows_left : List Judged
  rows_left = counts r.links (r.cuts * entry_size) lent room

  here : Found text lent room r
  here = found text lent room r small e

  by_row : (row : Row) → first rows_left ≡ Refused row 0 → Err (record { row = row; place = 0 }) ≡ answered (first (reader_rows text lent room)) (found_in (lines_of text))
  by_row row q = sym (answered_refused (found_in (lines_of text)) (here.rows ∙ q))

  pub by_3 : 4096 < r.links → Err (record { row = Links; place = 0 }) ≡ answered (first (reader_rows text lent room)) (found_in (lines_of text))
  unfolding counts
  by_3 h = by_row Links (row_applies (ltb 4096 r.links) Links 0 (drop 1 rows_left) (lt→ltb 4096 r.links h))

  past_3 : r.links ≤ 4096 → first rows_left ≡ first (drop 1 rows_left)
  unfolding counts
  past_3 h = row_passes (ltb 4096 r.links) Links 0 (drop 1 rows_left) (fails (le-ltb 4096 r.links h))

  pub by_9 : r.links ≤ 4096 → 127 < r.cuts → Err (record { row = Record; place = 0 }) ≡ answered (first (reader_rows text lent room)) (found_in (lines_of text))
  unfolding counts
  by_9 a h =
      by_row Record
      (past_3 a
      ∙ row_applies (ltb (entry_size * 127) (r.cuts * entry_size)) Record 0 (drop 2 rows_left) (lt→ltb (entry_size * 127) (r.cuts * entry_size) (omega arith)))

  past_9 : r.links ≤ 4096 → r.cuts ≤ 127 → first rows_left ≡ first (drop 2 rows_left)
  unfolding counts
  past_9 a b =
      past_3 a
      ∙ row_passes (ltb (entry_size * 127) (r.cuts * entry_size)) Record 0 (drop 2 rows_left) (fails (le-ltb (entry_size * 127) (r.cuts * entry_size) (omega arith)))

  pub by_14 : r.links ≤ 4096 → r.cuts ≤ 127 → lent < r.links → Err (record { row = LinkSpace; place = 0 }) ≡ answered (first (reader_rows text lent room)) (found_in (lines_of text))
  unfolding counts
  by_14 a b h = by_row LinkSpace (past_9 a b ∙ row_applies (ltb lent r.links) LinkSpace 0 (drop 3 rows_left) (lt→ltb lent r.links h))

  past_14 : r.links ≤ 4096 → r.cuts ≤ 127 → r.links ≤ lent → first rows_left ≡ first (drop 3 rows_left)
  unfolding counts
  past_14 a b c = past_9 a b ∙ row_passes (ltb lent r.links) LinkSpace 0 (drop 3 rows_left) (fails (le-ltb lent r.links c))

  pub by_8 : r.links ≤ 4096 → r.cuts ≤ 127 → r.links ≤ lent → room < r.cuts * entry_size
      → Err (record { row = RecordSpace; place = 0 }) ≡ answered (first (reader_rows text lent room)) (found_in (lines_of text))
  unfolding counts
  by_8 a b c h = by_row RecordSpace (past_14 a b c ∙ row_applies (ltb room (r.cuts * entry_size)) RecordSpace 0 [] (lt→ltb room (r.cuts * entry_size) h))

  pub by_none : r.links ≤ 4096 → r.cuts ≤ 127 → r.links ≤ lent → r.cuts * entry_size ≤ room → Ok r ≡ answered (first (reader_rows text lent room)) (found_in (lines_of text))
  unfolding counts first
  by_none a b c d =
      ap Ok here.is
      ∙ sym (answered_accepted (found_in (lines_of text))
      (here.rows ∙ past_14 a b c ∙ row_passes (ltb room (r.cuts * entry_size)) RecordSpace 0 [] (fails (le-ltb room (r.cuts * entry_size) d))))
