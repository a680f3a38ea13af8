-- The input writer's rows 9 and 20, and the frames around the links.
-- Assumes nothing.
use Prim.Native.Nat.{ℕ, ◌+◌, ◌*◌, ◌-◌, ◌/◌, ◌%◌, ◌≤◌, ◌<◌}
use mathlib.Core.Path.{◌≡◌, ◌∙◌, ap, ap₂}
use mathlib.Core.Bool.{not, ◌||◌}
use mathlib.Core.List.{List, [], ◌++◌}
use native.Mathlib.Omega.{arith}
use lib.Dec.{eqb, ltb, eqb→eq, nltb→le}
use lib.ListN.{length}
use Rattle.std.proofs.Common.{Ok, Err, sym}
use Rattle.meaning.specs.declared.Refusal.{Refusal}
use Rattle.meaning.specs.declared.Row.TheVariants.{Record, TextSpace}
use Rattle.meaning.specs.Judge.{Judged, Accepted, first, Refused, refuse}
use Rattle.meaning.proofs.Tests.{taut, so, ◌⊃◌}
use Rattle.cutting.specs.Record.{entry_size}
use Rattle.cutting.specs.RecordRows.{record_row}
use Rattle.meaning.specs.Room.{over}
use Rattle.frames.specs.Placing.{Puts}
use Rattle.meaning.proofs.Room.{onto, length_over, settled_new, settled_was}
use Rattle.frames.proofs.Places.{puts_fit}
use Rattle.frames.specs.Frame.{line_size}
use Rattle.texts.specs.Kinds.{head_line, cut_lines, close_line}
use Rattle.texts.proofs.WritesLines.{length_head, length_cuts, length_close}
use Rattle.texts.specs.Steps.{input_size, later_rows, around, Surrounds}
use Rattle.texts.proofs.Rows.{row_accepted, answered_accepted, answered_refused}
use borrow.Author.Tests.{ne_eqb, eq-eqb, lt-ltb, le-ltb}

-- rows 9 and 20 by what the code finds
module _ (n count : ℕ) (bytes : List ℕ) (room : ℕ) where
  pub later_uneven : (length bytes % entry_size ≡ 0 → ⊥) → Refused Record 0 ≡ first (later_rows n count bytes room)
  unfolding later_rows record_row refuse first
  later_uneven f = simp (ne_eqb _ _ f)

  pub later_many : length bytes % entry_size ≡ 0 → n - 1 < length bytes / entry_size → Refused Record 0 ≡ first (later_rows n count bytes room)
  unfolding later_rows record_row refuse first
  later_many e h = simp (eq-eqb _ _ e, lt-ltb _ _ h)

  pub later_short : length bytes % entry_size ≡ 0 → length bytes / entry_size ≤ n - 1 → room < input_size count (length bytes / entry_size)
      → Refused TextSpace 0 ≡ first (later_rows n count bytes room)
  unfolding later_rows record_row refuse first
  later_short e h k = simp (eq-eqb _ _ e, le-ltb _ _ h, lt-ltb _ _ k)

  pub later_fine : length bytes % entry_size ≡ 0 → length bytes / entry_size ≤ n - 1 → input_size count (length bytes / entry_size) ≤ room
      → Accepted ≡ first (later_rows n count bytes room)
  unfolding later_rows record_row refuse first
  later_fine e h k = simp (eq-eqb _ _ e, le-ltb _ _ h, le-ltb _ _ k)

-- where rows 9 and 20 accept
pub record Later (n count : ℕ) (bytes : List ℕ) (room : ℕ) : Type 0 where
  pub entire : length bytes % entry_size ≡ 0
  pub cuts : length bytes / entry_size ≤ n - 1
  pub fits : input_size count (length bytes / entry_size) ≤ room

pub later_accepted : (n count : ℕ) (bytes : List ℕ) (room : ℕ) → first (later_rows n count bytes room) ≡ Accepted → Later n count bytes room
unfolding later_rows record_row
later_accepted n count bytes room e =
    let nine = row_accepted _ Record 0 _ e in
    let twenty = row_accepted _ TextSpace 0 [] nine.1 in
    record {
      entire =
          eqb→eq (length bytes % entry_size) 0
          (taut 2 (λ a b. not (not a || b) ⊃ so a) tt (eqb (length bytes % entry_size) 0) (ltb (n - 1) (length bytes / entry_size)) nine.0);
      cuts =
          nltb→le (n - 1) (length bytes / entry_size)
          (taut 2 (λ a b. not (not a || b) ⊃ so (not b)) tt (eqb (length bytes % entry_size) 0) (ltb (n - 1) (length bytes / entry_size)) nine.0);
      fits = nltb→le room (input_size count (length bytes / entry_size)) twenty.0;
    }

-- what is begun, by whether it was refused
module _ (n k count : ℕ) (bytes room : List ℕ) {j : Judged} where
  pub surrounds_refused : {refusal : Refusal} → j ≡ Err refusal → Surrounds j n k count bytes room room (Err refusal)
  surrounds_refused e = record { answer = sym (answered_refused _ e); text_left = sym (settled_was room _ e) }

  pub surrounds_whole : (room' : List ℕ) (r : ℕ) → j ≡ Accepted → r ≡ input_size count (length bytes / entry_size) → room' ≡ around n k count bytes room
      → Surrounds j n k count bytes room room' (Ok r)
  surrounds_whole room' r e f g = record { answer = ap Ok f ∙ sym (answered_accepted _ e); text_left = g ∙ sym (settled_new room _ e) }

-- the frames around the links from their parts
module _ (n k count : ℕ) (bytes room : List ℕ) (fits : input_size count (length bytes / entry_size) ≤ length room) where
  -- the head is put at the front, and the cuts behind the room that the links take
  pub head_put : (r : List ℕ) (o : ℕ) → Puts room 0 (head_line n k) r o → (o ≡ line_size 1) × (r ≡ over room 0 (head_line n k)) × (length r ≡ length room)
  head_put r o p =
      let long = length_head n k in
      let e = puts_fit room 0 (head_line n k) r o (omega arith) p in
      (omega (arith, e.0), e.1, ap length e.1 ∙ length_over room 0 (head_line n k) (omega arith))

  cuts_put : (r s : List ℕ) (o p : ℕ) → o ≡ line_size 1 → length r ≡ length room → Puts r (o + line_size 2 * count) (cut_lines (length bytes / entry_size) bytes) s p
      → (p ≡ o + line_size 2 * count + line_size 3 * (length bytes / entry_size))
      × (s ≡ over r (o + line_size 2 * count) (cut_lines (length bytes / entry_size) bytes))
      × (length s ≡ length room)
  cuts_put r s o p o_is same q =
      let cuts = cut_lines (length bytes / entry_size) bytes in
      let long = length_cuts (length bytes / entry_size) bytes (omega arith) in
      let e = puts_fit r (o + line_size 2 * count) cuts s p (omega arith) q in
      (omega (arith, e.0), e.1, ap length e.1 ∙ length_over r (o + line_size 2 * count) cuts (omega arith) ∙ same)

  pub around_made : (r s u : List ℕ) (o p q f : ℕ)
      → Puts room 0 (head_line n k) r o
      → Puts r (o + line_size 2 * count) (cut_lines (length bytes / entry_size) bytes) s p
      → f ≡ 1 + count + length bytes / entry_size
      → Puts s p (close_line f) u q
      → u ≡ around n k count bytes room
  unfolding around
  around_made r s u o p q f e₁ e₂ f-is e₃ =
      let m = length bytes / entry_size in
      let head = head_put r o e₁ in
      let cuts = cuts_put r s o p head.0 head.2 e₂ in
      let l₂ = length_cuts m bytes (omega arith) in
      let l₃ = length_close f in
      (puts_fit s p (close_line f) u q (omega (arith, head.0, cuts.0, cuts.2)) e₃).1
      ∙ ap (λ (x : ℕ). over s p (close_line x)) f-is
      ∙ onto r (o + line_size 2 * count) (cut_lines m bytes) (close_line (1 + count + m)) s p cuts.1 (omega (arith, cuts.0)) (omega (arith, head.0, head.2))
      ∙ ap₂ (λ (a : List ℕ) (b : ℕ). over a (b + line_size 2 * count) (cut_lines m bytes ++ close_line (1 + count + m))) head.1 head.0
