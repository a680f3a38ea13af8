-- What the programs' steps promise each other.
use Rattle.std.specs.Prelude.{◌<◌}
use Rattle.meaning.specs.declared.Refusal.{Refusal}
use Rattle.meaning.specs.Judge.{number_of}

-- a refusal's number and place fit its frame
abbrev pub Framed : Refusal → Type 0
Framed refusal = (number_of refusal.row < 256) × (refusal.place < 65536)
