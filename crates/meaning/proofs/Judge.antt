-- The law of the row that is tried last: what it answers is the answer.
-- Assumes nothing.
use Rattle.std.proofs.Common.{◌≡◌, [], ◌∷◌, Ok, Err, refl}
use Rattle.meaning.specs.Judge.{Judged, first}

pub first_last : (j : Judged) → first (j ∷ []) ≡ j
unfolding first
first_last (Ok done) = refl
first_last (Err refusal) = refl
