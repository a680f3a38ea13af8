-- The input writer from its parts: rows 1 to 6, then rows 9 and 20; the frames around the links, then the links.
-- Assumes nothing.
use Rattle.std.proofs.Common.{◌≡◌, ℕ, ◌+◌, ◌*◌, ◌/◌, ◌≤◌, true, ltb, List, [], ◌∷◌, ◌++◌, length, Result, Ok, Err, sym, ap, ◌∙◌, arith, length-append, refl}
use Rattle.meaning.specs.declared.Link.{Link}
use Rattle.meaning.specs.declared.Refusal.{Refusal}
use Rattle.meaning.specs.declared.Row.TheVariants.{TextSpace}
use Rattle.meaning.specs.Judge.{Accepted, refuse, first, Judged}
use Rattle.meaning.specs.Room.{over, settled}
use Rattle.meaning.proofs.Room.{settled_new, settled_was, length_over}
use Rattle.links.specs.Links.{table_rows}
use Rattle.links.proofs.LinksRows.{table_counted, first_accepted, first-refused, accepted_left, never_both}
use Rattle.cutting.specs.Record.{entry_size}
use Rattle.cutting.specs.RecordRows.{record_row}
use Rattle.frames.specs.Frame.{line_size}
use Rattle.texts.specs.Kinds.{head_line, link_lines, cut_lines, close_line}
use Rattle.texts.specs.Writing.{Writes}
use Rattle.texts.specs.Inputs.{input_text, input_rows}
use Rattle.texts.specs.Steps.{Counts, input_size, later_rows, around, Surrounds}
use Rattle.texts.proofs.Rows.{told_accepted, told_refused, first_both}
use Rattle.texts.proofs.Fronts.{writes_refused, writes_done}
use Rattle.texts.proofs.WritesLines.{length_head, length_cuts, length_close}
use Rattle.texts.proofs.WritesRows.{later_accepted}
use Rattle.texts.proofs.WritesLinks.{length_input, between}
use Rattle.std.specs.Result.{result_and}

-- past rows 1 to 6, rows 9 and 20 are left
pub rows_left : (n k : ℕ) (links : List Link) (bytes : List ℕ) (room : ℕ) → first (table_rows n k true links) ≡ Accepted
    → first (input_rows n k links bytes room) ≡ first (later_rows n (length links) bytes room)
unfolding input_rows later_rows
rows_left n k links bytes room e =
    first_accepted (table_rows n k true links) _ e
    ∙ ap (λ (m : ℕ). first (record_row n (length bytes) ∷ refuse (ltb room m) TextSpace 0 ∷ [])) (length_input n k links bytes)

pub table_accepted : (n k : ℕ) (links : List Link) (bytes : List ℕ) (room : ℕ) → first (input_rows n k links bytes room) ≡ Accepted → first (table_rows n k true links) ≡ Accepted
unfolding input_rows
table_accepted n k links bytes room e = accepted_left (table_rows n k true links) _ e

both_accepted : (i j : Judged) → result_and i j ≡ Accepted → (i ≡ Accepted) × (j ≡ Accepted)
both_accepted (Ok done) j e = (refl, e)
both_accepted (Err refusal) j e = absurd (never_both (Err refusal) refusal e refl)

module _ (n k : ℕ) (links : List Link) (bytes room : List ℕ) where
  abbrev Written : List ℕ → Result ℕ Refusal → Type 0
  Written room' r = Writes (first (input_rows n k links bytes (length room))) (input_text n k links bytes) room room' r

  abbrev Begun : List ℕ → Result ℕ Refusal → Type 0
  Begun room' r = Surrounds (first (later_rows n (length links) bytes (length room))) n k (length links) bytes room room' r

  -- what the rows come to
  abbrev pub judged_input : Judged
  judged_input = result_and (first (table_rows n k true links)) (first (later_rows n (length links) bytes (length room)))

  -- whether the frames around the links are put or not, the room keeps its length
  around_long : input_size (length links) (length bytes / entry_size) ≤ length room → length (around n k (length links) bytes room) ≡ length room
  unfolding around
  around_long fits =
      let m = length bytes / entry_size in
      let l₁ = length_head n k in
      let l₂ = length_cuts m bytes (omega arith) in
      let l₃ = length_close (1 + length links + m) in
      let l₄ = length-append (cut_lines m bytes) (close_line (1 + length links + m)) in
      let l₅ = length_over room 0 (head_line n k) (omega arith) in
      length_over (over room 0 (head_line n k)) (line_size 1 + line_size 2 * length links) (cut_lines m bytes ++ close_line (1 + length links + m)) (omega arith) ∙ l₅

  settled_long : (j : Judged) → j ≡ judged_input → length (settled j room (around n k (length links) bytes room)) ≡ length room
  unfolding settled
  settled_long (Err refusal) e = refl
  settled_long (Ok done) e =
      let later = both_accepted (first (table_rows n k true links)) (first (later_rows n (length links) bytes (length room))) (sym e) in
      around_long (later_accepted n (length links) bytes (length room) later.1).fits

  pub surrounds_long : (room' : List ℕ) (r : Result ℕ Refusal) → Surrounds judged_input n k (length links) bytes room room' r → length room' ≡ length room
  surrounds_long room' r b = ap length b.text_left ∙ settled_long judged_input refl

  rows_are : first (input_rows n k links bytes (length room)) ≡ judged_input
  unfolding input_rows later_rows
  rows_are =
      first_both (table_rows n k true links) _
      ∙ ap (λ (m : ℕ). result_and (first (table_rows n k true links)) (first (record_row n (length bytes) ∷ refuse (ltb (length room) m) TextSpace 0 ∷ []))) (length_input n k links bytes)

  -- refused by rows 1 to 6
  pub input_refused : (refusal : Refusal) → first (table_rows n k true links) ≡ Err refusal → Written room (Err refusal)
  unfolding input_rows
  input_refused refusal e = writes_refused (input_text n k links bytes) room (first-refused (table_rows n k true links) _ refusal e)

  -- where they accept: what they show
  module _ (accepted : first (table_rows n k true links) ≡ Accepted) where
    pub counts : Counts n k (length links)
    counts =
        let c = table_counted n k true links accepted in
        record { some_bones = c.some_bones; bones = c.few_bones; threshold = omega (arith, c.low_threshold); links = c.few_links }

    module _ (room' : List ℕ) (r : Result ℕ Refusal) (begun : Begun room' r) where
      -- refused by row 9 or 20
      pub later_refused : (refusal : Refusal) → r ≡ Err refusal → Written room' (Err refusal)
      later_refused refusal e =
          let j = told_refused (first (later_rows n (length links) bytes (length room))) _ refusal (sym e ∙ begun.answer) in
          rw (begun.text_left ∙ settled_was room _ j) (writes_refused (input_text n k links bytes) room (rows_left n k links bytes (length room) accepted ∙ j))

      -- accepted: the links fit between the frames, and then all is written
      module _ (count : ℕ) (e : r ≡ Ok count) where
        judged : (first (later_rows n (length links) bytes (length room)) ≡ Accepted) × (count ≡ input_size (length links) (length bytes / entry_size))
        judged = told_accepted (first (later_rows n (length links) bytes (length room))) _ count (sym e ∙ begun.answer)

        fits : input_size (length links) (length bytes / entry_size) ≤ length room
        fits = (later_accepted n (length links) bytes (length room) judged.0).fits

        around_is : room' ≡ around n k (length links) bytes room
        around_is = begun.text_left ∙ settled_new room _ judged.0

        pub links_fit : line_size 1 + line_size 2 * length links ≤ length room'
        links_fit = omega (arith, ap length around_is, around_long fits, fits)

        pub input_done : (room'' : List ℕ) → room'' ≡ over room' (line_size 1) (link_lines links) → Written room'' (Ok count)
        input_done room'' f =
            writes_done (input_text n k links bytes) room room'' count (rows_left n k links bytes (length room) accepted ∙ judged.0) (judged.1 ∙ sym (length_input n k links bytes))
            (f ∙ ap (λ (x : List ℕ). over x (line_size 1) (link_lines links)) around_is ∙ between n k links bytes room fits)
