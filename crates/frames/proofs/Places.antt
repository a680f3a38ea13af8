-- A text put at a place of lent room, by whether it fits.
-- Assumes nothing.
use Rattle.std.proofs.lemmas.Grind.{common_steps}
use Rattle.std.proofs.Common.{arith, ◌≡◌, ℕ, ◌+◌, ◌<◌, ◌≤◌, List, length}
use Rattle.meaning.specs.Room.{over}
use Rattle.frames.specs.Placing.{placed, behind, Puts}

-- where it fits, it is written over the room
module _ (room : List ℕ) (at : ℕ) (text room' : List ℕ) (r : ℕ) (fits : at + length text ≤ length room) where
  pub puts_fit : Puts room at text room' r → (r ≡ at + length text) × (room' ≡ over room at text)
  unfolding placed behind
  puts_fit p = grind (arith, common_steps, p.next, p.room_left)

  pub puts_whole : r ≡ at + length text → room' ≡ over room at text → Puts room at text room' r
  unfolding placed behind
  puts_whole e f = record { next = grind (arith, common_steps); room_left = grind (arith, common_steps) }

-- where it does not, nothing is
pub puts_short : (room : List ℕ) (at : ℕ) (text : List ℕ) → length room < at + length text → Puts room at text room at
unfolding placed behind
puts_short room at text h = record { next = grind (arith, common_steps); room_left = grind (arith, common_steps) }
