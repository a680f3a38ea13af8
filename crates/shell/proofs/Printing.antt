-- How much is printed of an answer: that it is in the space, and all of it where all that was written is.
-- Assumes nothing.
use Rattle.std.proofs.Common.{ℕ, ◌≤◌, ◌≡◌, Result, Ok, Err, arith}
use Rattle.shell.specs.Shown.{shown}

pub least : {E : Type 0} (r : Result ℕ E) (room : ℕ) → shown r room ≤ room
unfolding shown
least (Ok count) room = omega arith
least (Err e) room = omega arith

-- all that was written, where it was written to the space
pub shown_all : (E : Type 0) (count room : ℕ) → count ≤ room → shown {E = E} (Ok count) room ≡ count
unfolding shown
shown_all E count room h = omega arith
