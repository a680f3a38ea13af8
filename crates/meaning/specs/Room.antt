-- Lent room after a call: what was written to it, the rest as it was; and as it was where refused.
use Rattle.std.specs.Prelude.{ℕ, ◌+◌, ◌-◌, List, ◌++◌, length, take, drop, Ok, Err}
use Rattle.meaning.specs.Judge.{Judged}

-- items at a place of lent room, the rest as it was; at place 0 they stand at its front
unfoldable pub over : {A : Type 0} → List A → ℕ → List A → List A
over room at items = take at room ++ items ++ drop (at + length items) room

-- the same with as many of them as the room takes
unfoldable pub fitted : {A : Type 0} → List A → ℕ → List A → List A
fitted room at items = over room at (take (length room - at) items)

-- as it was where refused
unfoldable pub settled : {A : Type 0} → Judged → A → A → A
settled (Ok done) was new = new
settled (Err refusal) was new = was
