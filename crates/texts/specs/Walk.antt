-- What the reader's parts promise each other: the frame at the front of what is left of a text.
use Rattle.std.specs.Prelude.{ℕ, ◌+◌, ◌*◌, ◌<◌, ◌≡◌, List, Bool, ◌&&◌, T, Option, MatchOption, SomeIff, ltb, length, get_or, take}
use Rattle.texts.specs.declared.frame.Frame.{Frame}
use Rattle.frames.specs.declared.kind.Kind.{Kind}
use Rattle.frames.specs.Kinds.{number_of}
use Rattle.frames.specs.Frame.{payloads, is_kind, byte_sum, value_of, is_hex, bytes_of}

-- the byte that the i-th pair of characters means
unfoldable pub byte_at : List ℕ → ℕ → ℕ
byte_at cs i = value_of (get_or cs (2 * i) 0) * 16 + value_of (get_or cs (2 * i + 1) 0)

-- whether that pair is of digits
unfoldable pub digits_at : List ℕ → ℕ → Bool
digits_at cs i = ltb (value_of (get_or cs (2 * i) 0)) 16 && ltb (value_of (get_or cs (2 * i + 1) 0)) 16

-- how many bytes the frame at the front has, by its kind
unfoldable pub size_at : List ℕ → ℕ
size_at cs = get_or payloads (byte_at cs 0) 0 + 2

-- a well formed line stands at the front: a kind that there is, as many pairs of digits as it has bytes, and a line feed
pub record Well (cs : List ℕ) : Type 0 where
  pub kind : T (is_kind (byte_at cs 0))
  pub digits : T (is_hex (take (2 * size_at cs) cs))
  pub room : 2 * size_at cs < length cs
  pub feed : get_or cs (2 * size_at cs) 0 ≡ 10

-- the kind and the size of the frame at the front: there is such a kind, and a line feed behind so many bytes
pub record LineAt (cs : List ℕ) (kind : Kind) (size : ℕ) : Type 0 where
  pub kind_is : number_of kind ≡ byte_at cs 0
  pub size_is : size ≡ size_at cs
  pub room : 2 * size < length cs
  pub feed : get_or cs (2 * size) 0 ≡ 10

abbrev pub LineFound : List ℕ → Option (Kind × ℕ) → Type 0
LineFound cs r = MatchOption r (Well cs → ⊥) (λ line. LineAt cs line.0 line.1)

-- the sum of the first bytes, where they are all written in digits
abbrev pub Summed : List ℕ → ℕ → Option ℕ → Type 0
Summed cs size r = SomeIff r (T (is_hex (take (2 * size) cs))) (byte_sum (bytes_of (take (2 * size) cs)))

-- the frame at the front, if there is one
pub record FrameAt (cs : List ℕ) (f : Frame) : Type 0 where
  pub well : Well cs
  pub size : f.size ≡ size_at cs
  pub kind : number_of f.kind ≡ byte_at cs 0
  pub sum : f.sum ≡ byte_sum (bytes_of (take (2 * size_at cs) cs))

abbrev pub FrameFound : List ℕ → Option Frame → Type 0
FrameFound cs r = MatchOption r (Well cs → ⊥) (FrameAt cs)
