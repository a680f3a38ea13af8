-- What a writer answers and leaves, by what its rows come to.
use Rattle.std.specs.Prelude.{ℕ, ◌≡◌, List, ltb, length, Result}
use Rattle.meaning.specs.declared.Refusal.{Refusal}
use Rattle.meaning.specs.declared.Row.TheVariants.{TextSpace}
use Rattle.meaning.specs.Judge.{Judged, answered, refuse}
use Rattle.meaning.specs.Room.{over, settled}
use Rattle.texts.specs.Kinds.{refusal_line}

-- a writer with those rows, that text and that room
pub record Writes (rows : Judged) (text room room' : List ℕ) (r : Result ℕ Refusal) : Type 0 where
  pub answer : r ≡ answered rows (length text)
  pub text_left : room' ≡ settled rows room (over room 0 text)

-- 20: text space of so many bytes is shorter than the text
abbrev pub text_row : List ℕ → ℕ → Judged
text_row text room = refuse (ltb room (length text)) TextSpace 0

-- a text is written, where there is room; and so is the frame of a refusal
abbrev pub WritesWhole : List ℕ → List ℕ → List ℕ → Result ℕ Refusal → Type 0
WritesWhole text room room' r = Writes (text_row text (length room)) text room room' r

abbrev pub Refuses : ℕ → ℕ → List ℕ → List ℕ → Result ℕ Refusal → Type 0
Refuses number place room room' r = WritesWhole (refusal_line number place) room room' r
