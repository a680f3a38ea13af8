-- Runs of bytes. What a promise says of a run that was lent is said of bytes, since its type has no other numbers; of any other list a promise has to
-- say so.
use Rattle.std.specs.Prelude.{ℕ, ◌<◌, List, get_or}

abbrev pub Bytes : List ℕ → Type 0
Bytes xs = (i : ℕ) → get_or xs i 0 < 256
