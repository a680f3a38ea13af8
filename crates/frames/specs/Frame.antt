-- Frames: kind, payload and sum byte, as a line of lower-case hexadecimal pairs ended by one line feed.
use Rattle.std.specs.Prelude.{ℕ, ◌+◌, ◌-◌, ◌*◌, ◌/◌, ◌%◌, Bool, true, false, ◌&&◌, ◌||◌, List, [], ◌∷◌, ◌++◌, length, ◌==◌, nat_le, nat_lt, slice_index, if◌then◌else◌}

-- the payload's length by kind; there is no kind 00
abbrev pub payloads : List ℕ
payloads = 0 ∷ 3 ∷ 4 ∷ 21 ∷ 2 ∷ 16 ∷ 2 ∷ 3 ∷ []

-- the bytes of a line: two for each byte of the payload, and five for the kind, the sum and the line feed
abbrev pub line_size : ℕ → ℕ
line_size kind = 2 * slice_index payloads kind + 5

unfoldable pub is_kind : ℕ → Bool
is_kind kind = nat_le 1 kind && nat_lt kind (length payloads)

-- all bytes of a frame, added as bytes with the carry thrown away
unfoldable pub byte_sum : List ℕ → ℕ
byte_sum [] = 0
byte_sum (b ∷ bs) = (b + byte_sum bs) % 256

-- the byte that brings the sum to nought
unfoldable pub sum_byte : List ℕ → ℕ
sum_byte bs = (256 - byte_sum bs) % 256

-- a lower-case hexadecimal digit, and the digit that a character is, 16 where it is none
unfoldable pub digit : ℕ → ℕ
digit d = if nat_lt d 10 then 48 + d else 87 + d

unfoldable pub value_of : ℕ → ℕ
value_of c = if nat_le 48 c && nat_le c 57 then c - 48 else (if nat_le 97 c && nat_le c 102 then c - 87 else 16)

-- bytes as pairs of digits, high digit first
unfoldable pub hex : List ℕ → List ℕ
hex [] = []
hex (b ∷ bs) = digit (b / 16) ∷ digit (b % 16) ∷ hex bs

-- whether characters are pairs of digits, and the bytes that they mean
unfoldable pub is_hex : List ℕ → Bool
is_hex [] = true
is_hex (c ∷ []) = false
is_hex (c ∷ d ∷ cs) = (nat_lt (value_of c) 16 && nat_lt (value_of d) 16) && is_hex cs

unfoldable pub bytes_of : List ℕ → List ℕ
bytes_of [] = []
bytes_of (c ∷ []) = []
bytes_of (c ∷ d ∷ cs) = (value_of c * 16 + value_of d) ∷ bytes_of cs

-- the line that writes a kind and a payload
unfoldable pub line : ℕ → List ℕ → List ℕ
line kind payload = hex (kind ∷ payload ++ sum_byte (kind ∷ payload) ∷ []) ++ 10 ∷ []

-- whether the characters of a line are a well formed frame: pairs of digits, a kind that there is, and as many bytes as it has
unfoldable pub well_formed : List ℕ → Bool
well_formed cs =
    is_hex cs && (is_kind (slice_index (bytes_of cs) 0) && length (bytes_of cs) == slice_index payloads (slice_index (bytes_of cs) 0) + 2)

-- whether a text has no characters but the digits 0 to 9 and a to f and the line feed
unfoldable pub letter : ℕ → Bool
letter c = nat_le 48 c && nat_le c 57 || (nat_le 97 c && nat_le c 102 || c == 10)

unfoldable pub lettered : List ℕ → Bool
lettered [] = true
lettered (c ∷ cs) = letter c && lettered cs
