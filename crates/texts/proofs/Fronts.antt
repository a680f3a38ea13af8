-- What a writer gives and leaves, by what its rows come to; and row 20, which asks whether its text fits the room lent for it.
-- Assumes nothing.
use Rattle.std.proofs.Common.{◌≡◌, ℕ, ◌≤◌, ◌<◌, List, length, Ok, Err, sym, ap, ◌∙◌, lt-ltb, le-ltb}
use Rattle.meaning.specs.declared.Refusal.{Refusal}
use Rattle.meaning.specs.declared.Row.TheVariants.{TextSpace}
use Rattle.meaning.specs.Judge.{Judged, Accepted, Refused, refuse}
use Rattle.meaning.specs.Room.{over}
use Rattle.meaning.proofs.Room.{settled_new, settled_was}
use Rattle.texts.specs.Writing.{text_row, Writes}
use Rattle.texts.proofs.Rows.{answered_accepted, answered_refused}

module _ (text room : List ℕ) {j : Judged} where
  pub writes_refused : {refusal : Refusal} → j ≡ Err refusal → Writes j text room room (Err refusal)
  writes_refused e = record { answer = sym (answered_refused (length text) e); text_left = sym (settled_was room (over room 0 text) e) }

  pub writes_done : (room' : List ℕ) (count : ℕ) → j ≡ Accepted → count ≡ length text → room' ≡ over room 0 text → Writes j text room room' (Ok count)
  writes_done room' count e c f =
      record { answer = ap Ok c ∙ sym (answered_accepted (length text) e); text_left = f ∙ sym (settled_new room (over room 0 text) e) }

module _ (text : List ℕ) (room : ℕ) where
  pub too_short : room < length text → text_row text room ≡ Refused TextSpace 0
  unfolding refuse
  too_short h = rw (lt-ltb room (length text) h)

  pub long_enough : length text ≤ room → text_row text room ≡ Accepted
  unfolding refuse
  long_enough h = rw (le-ltb room (length text) h)
