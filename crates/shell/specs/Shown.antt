-- How much of the space that an answer was written to is printed: as many bytes as were written, all of which are in the space; nothing where it is refused.
use Rattle.std.specs.Prelude.{ℕ, min, Result, Ok, Err}

unfoldable pub shown : {E : Type 0} → Result ℕ E → ℕ → ℕ
shown (Ok count) room = min count room
shown (Err e) room = 0
