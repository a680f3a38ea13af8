-- A text at a place of lent room: written whole where it fits, and not at all where it does not.
use Rattle.std.specs.Prelude.{◌≡◌, ℕ, ◌+◌, List, length, nat_lt, if◌then◌else◌}
use Rattle.meaning.specs.Room.{over}

-- a text at a place of lent room, where it fits behind the place; else the room as it was
unfoldable pub placed : List ℕ → ℕ → List ℕ → List ℕ
placed room at text = if nat_lt (length room) (at + length text) then room else over room at text

-- the place behind what was written
unfoldable pub behind : List ℕ → ℕ → List ℕ → ℕ
behind room at text = if nat_lt (length room) (at + length text) then at else at + length text

-- a text is put at a place, and the place behind it is given
pub record Puts (room : List ℕ) (at : ℕ) (text room' : List ℕ) (r : ℕ) : Type 0 where
  pub next : r ≡ behind room at text
  pub room_left : room' ≡ placed room at text
