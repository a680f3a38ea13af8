-- Writing lines at a place of lent room: a byte as two digits, a run of bytes with its sum, and a line from its parts.
-- Assumes nothing.
use Rattle.std.proofs.Common.{◌≡◌, ℕ, ◌+◌, ◌*◌, ◌%◌, ◌<◌, ◌≤◌, List, [], ◌∷◌, ◌++◌, length, get_or, take, set, sym, refl, ap, ◌∙◌, arith, length-take-le}
use Rattle.std.proofs.lemmas.Grind.{common_steps}
use Rattle.meaning.specs.Room.{over}
use Rattle.meaning.proofs.Room.{over_one, over_next, length_over, onto}
use Rattle.frames.specs.Frame.{byte_sum, sum_byte, hex, line}
use Rattle.frames.proofs.Frames.{length-hex, hex_append, sum_bound, sum_snoc, whole, whole_length}

-- two characters, one behind the other
pub over-two : (room : List ℕ) (at b c : ℕ) → at + 2 ≤ length room → set (set room at b) (at + 1) c ≡ over room at (b ∷ c ∷ [])
over-two room at b c h = grind (arith, common_steps, over_one room at b, over_next room at (b ∷ []) c)

-- one byte more of a run
module _ (bytes : List ℕ) (i : ℕ) (h : i < length bytes) where
  next_take : take (i + 1) bytes ≡ take i bytes ++ get_or bytes i 0 ∷ []
  next_take = grind (arith, common_steps)

  pub next_hex : (room : List ℕ) (at : ℕ) → at + 2 * length bytes ≤ length room
      → over (over room at (hex (take i bytes))) (at + 2 * i) (hex (get_or bytes i 0 ∷ [])) ≡ over room at (hex (take (i + 1) bytes))
  next_hex room at k =
      let long : length (hex (take i bytes)) ≡ 2 * i = length-hex (take i bytes) ∙ ap (λ (m : ℕ). 2 * m) (length-take-le i bytes (omega arith)) in
      onto room at (hex (take i bytes)) (hex (get_or bytes i 0 ∷ [])) _ (at + 2 * i) refl (omega arith) (omega arith)
      ∙ ap (over room at) (sym (hex_append (take i bytes) (get_or bytes i 0 ∷ [])) ∙ ap hex (sym next_take))

  pub next_sum : (first : ℕ) → (byte_sum (first ∷ take i bytes) + get_or bytes i 0) % 256 ≡ byte_sum (first ∷ take (i + 1) bytes)
  next_sum first = sym (sum_snoc (first ∷ take i bytes) (get_or bytes i 0)) ∙ ap (λ (l : List ℕ). byte_sum (first ∷ l)) (sym next_take)

-- the sum's negation is the sum byte
pub negated : (bs : List ℕ) (s b : ℕ) → s ≡ byte_sum bs → b < 256 → (b + s) % 256 ≡ 0 → b ≡ sum_byte bs
unfolding sum_byte
negated bs s b e h z = omega (arith, sum_bound bs)

-- the length of a line, and a line from its parts
pub length-line : (kind : ℕ) (payload : List ℕ) → length (line kind payload) ≡ 2 * length payload + 5
unfolding line
length-line kind payload = grind (arith, common_steps, length-hex, whole_length kind payload)

module _ (room : List ℕ) (at kind : ℕ) (payload : List ℕ) (h : at + (2 * length payload + 5) ≤ length room) where
  pub line_made : (r s t : List ℕ) (sum b : ℕ)
      → r ≡ over room at (hex (kind ∷ []))
      → sum ≡ byte_sum (kind ∷ payload)
      → s ≡ over r (at + 2) (hex payload)
      → (b + sum) % 256 ≡ 0
      → b < 256
      → t ≡ over s (at + 2 + 2 * length payload) (hex (b ∷ []))
      → set t (at + 2 + 2 * length payload + 2) 10 ≡ over room at (line kind payload)
  unfolding line hex
  line_made r s t sum b e k f z low g =
      let l₁ : length (hex (kind ∷ payload)) ≡ 2 + 2 * length payload = omega (arith, length-hex (kind ∷ payload)) in
      let l₂ : length (hex (whole kind payload)) ≡ 2 * length payload + 4 = omega (arith, length-hex (whole kind payload), whole_length kind payload) in
      let f' : s ≡ over room at (hex (kind ∷ payload)) = f ∙ onto room at (hex (kind ∷ [])) (hex payload) r (at + 2) e (omega arith) (omega arith) in
      let g' : t ≡ over room at (hex (whole kind payload))
      = g
      ∙ ap (λ (x : ℕ). over s (at + 2 + 2 * length payload) (hex (x ∷ []))) (negated (kind ∷ payload) sum b k low z)
      ∙ onto room at (hex (kind ∷ payload)) (hex (sum_byte (kind ∷ payload) ∷ [])) s (at + 2 + 2 * length payload) f' (omega arith) (omega arith)
      ∙ ap (over room at) (sym (hex_append (kind ∷ payload) (sum_byte (kind ∷ payload) ∷ []))) in
      let long : length t ≡ length room = ap length g' ∙ length_over room at (hex (whole kind payload)) (omega arith) in
      over_one t (at + 2 + 2 * length payload + 2) 10 (omega arith)
      ∙ onto room at (hex (whole kind payload)) (10 ∷ []) t (at + 2 + 2 * length payload + 2) g' (omega arith) (omega arith)
