-- What the parts of the storing pass promise each other, over a text whose lines are all well formed frames.
use Rattle.std.specs.Prelude.{ℕ, zero, suc, ◌+◌, ◌*◌, ◌≤◌, ◌<◌, ◌≡◌, cond, List, [], ◌∷◌, ◌++◌, T, Option, MatchOption, eqb, length, drop}
use Rattle.meaning.specs.declared.Link.{Link}
use Rattle.texts.specs.Lines.{Line, lines_of, kind}
use Rattle.texts.specs.declared.store.Found.{Found}
use Rattle.texts.specs.Walk.{byte_at, size_at, Well}
use Rattle.texts.specs.Judging.{all_well}

-- the lines from the first one of that kind on
unfoldable pub skip_to : ℕ → List Line → List Line
skip_to k [] = []
skip_to k (l ∷ ls) = cond (eqb (kind l) k) (l ∷ ls) (skip_to k ls)

-- a frame of that kind, the first from a place on, with well formed lines behind it
pub record FoundAt (text : List ℕ) (from k : ℕ) (f : Found) : Type 0 where
  pub lines : lines_of (drop f.at text) ≡ skip_to k (lines_of (drop from text))
  pub frame : Well (drop f.at text)
  pub kind : byte_at (drop f.at text) 0 ≡ k
  pub next : f.next ≡ f.at + 2 * size_at (drop f.at text) + 1
  pub further : from < f.next
  pub within : f.next ≤ length text
  pub well : T (all_well (lines_of (drop f.next text)))

-- that, or no frame of that kind
abbrev pub Finds : List ℕ → ℕ → ℕ → Option Found → Type 0
Finds text from k r = MatchOption r (skip_to k (lines_of (drop from text)) ≡ []) (FoundAt text from k)

-- the first bytes of the payload of the frame at the front, and the link that they mean
unfoldable pub payload_at : List ℕ → ℕ → List ℕ
payload_at cs zero = []
payload_at cs (suc i) = payload_at cs i ++ byte_at cs (suc i) ∷ []

unfoldable pub link_here : List ℕ → Link
link_here cs = record { a = byte_at cs 1; b = byte_at cs 2; tally = byte_at cs 3 * 256 + byte_at cs 4 }

-- what the frames of one kind hold: no line holds nothing, no other frame does, and each of that kind a part
pub record Holds {A : Type 0} (kind : ℕ) (held : List Line → List A) (part : List ℕ → List A) : Type 0 where
  pub none : held [] ≡ []
  pub skipped : (ls : List Line) → held (skip_to kind ls) ≡ held ls
  pub front : (cs : List ℕ) → Well cs → byte_at cs 0 ≡ kind → held (lines_of cs) ≡ part cs ++ held (lines_of (drop (2 * size_at cs + 1) cs))

-- the lines of a text are well formed, and what they hold fits the room lent for it
pub record Storable {A : Type 0} (text : List ℕ) (items room : List A) : Type 0 where
  pub well : T (all_well (lines_of text))
  pub fits : length items ≤ length room
