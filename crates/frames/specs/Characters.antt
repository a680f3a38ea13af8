-- What the parts that look at characters promise: a pair of them as a byte or a kind, and the line feed behind so many bytes.
use Rattle.std.specs.Prelude.{ℕ, ◌+◌, ◌*◌, Bool, ◌&&◌, List, length, ◌==◌, nat_lt, slice_index, if◌then◌else◌}
use Rattle.frames.specs.Frame.{is_kind, value_of}

-- the byte that two characters mean, 256 where they are not both digits
unfoldable pub pair_of : ℕ → ℕ → ℕ
pair_of c d = if nat_lt (value_of c) 16 && nat_lt (value_of d) 16 then value_of c * 16 + value_of d else 256

-- the kind that they mean, nought where there is no such kind
unfoldable pub kind_of : ℕ → ℕ → ℕ
kind_of c d = if is_kind (pair_of c d) then pair_of c d else 0

-- whether a line feed stands behind so many bytes
unfoldable pub feed_at : List ℕ → ℕ → Bool
feed_at cs size = nat_lt (2 * size) (length cs) && slice_index cs (2 * size) == 10
