-- Laws of frames: digits and their values, bytes as pairs of digits, the sum, and lines as frames and back.
-- Assumes nothing.
use Rattle.std.proofs.Common.{◌≡◌, ℕ, zero, suc, ◌+◌, ◌-◌, ◌*◌, ◌/◌, ◌%◌, ◌<◌, ◌≤◌, Bool, true, false, cond, not, ◌&&◌, T, ltb, leb, ◌⊎◌, List, [], ◌∷◌, ◌++◌, length, get_or, take, drop, sym, refl, ap, ◌∙◌, inl, inr, ⊎_elim, arith, ltb→lt, lt→ltb, leb→le, length-append, lt-ltb, le-leb}
use Rattle.std.proofs.lemmas.Grind.{common_steps}
use borrow.Author.Tests.{lt-leb}
use lib.Seq.{split_at}
use Rattle.meaning.specs.Bytes.{Bytes}
use Rattle.meaning.proofs.Tests.{both, left_of, right_of}
use Rattle.meaning.proofs.Bytes.{bytes_cons, bytes_append}
use Rattle.frames.specs.Frame.{payloads, is_kind, byte_sum, sum_byte, digit, value_of, hex, is_hex, bytes_of, line, well_formed}
use Rattle.frames.specs.Characters.{pair_of}

-- by which way a choice went
pub chosen : {A : Type 0} (b : Bool) (x y : A) → (T b × (cond b x y ≡ x)) ⊎ (T (not b) × (cond b x y ≡ y))
chosen true x y = inl (tt, refl)
chosen false x y = inr (tt, refl)

-- what a character is: a digit 0 to 9, a digit a to f, or none
pub value_cases : (c : ℕ) → ((48 ≤ c) × (c ≤ 57) × (value_of c ≡ c - 48)) ⊎ (((97 ≤ c) × (c ≤ 102) × (value_of c ≡ c - 87)) ⊎ (value_of c ≡ 16))
unfolding value_of
value_cases c =
    ⊎_elim
    (λ w. inl (leb→le 48 c (left_of (leb 48 c) (leb c 57) w.0), leb→le c 57 (right_of (leb 48 c) (leb c 57) w.0), w.1))
    (λ w.
    ⊎_elim
    (λ v. inr (inl (leb→le 97 c (left_of (leb 97 c) (leb c 102) v.0), leb→le c 102 (right_of (leb 97 c) (leb c 102) v.0), w.1 ∙ v.1)))
    (λ v. inr (inr (w.1 ∙ v.1)))
    (chosen (leb 97 c && leb c 102) (c - 87) 16))
    (chosen (leb 48 c && leb c 57) (c - 48) (cond (leb 97 c && leb c 102) (c - 87) 16))

pub value_low : (c : ℕ) → 48 ≤ c → c ≤ 57 → value_of c ≡ c - 48
unfolding value_of
value_low c a b = simp (le-leb _ _ a, le-leb _ _ b)

pub value_high : (c : ℕ) → 97 ≤ c → c ≤ 102 → value_of c ≡ c - 87
unfolding value_of
value_high c a b =
    let h : 57 < c = omega arith in
    let l : 48 ≤ c = omega arith in
    simp (le-leb _ _ l, lt-leb _ _ h, le-leb _ _ a, le-leb _ _ b)

pub value_none : (c : ℕ) → (48 ≤ c → c ≤ 57 → ⊥) → (97 ≤ c → c ≤ 102 → ⊥) → value_of c ≡ 16
value_none c f g =
    ⊎_elim (λ w. absurd (f w.0 w.1)) (λ w. ⊎_elim (λ v. absurd (g v.0 v.1)) (λ v. v) w) (value_cases c)

-- a digit's value, and a value's digit
pub value_digit : (d : ℕ) → d < 16 → value_of (digit d) ≡ d
unfolding digit value_of
value_digit d h = grind (arith, common_steps)

pub digit_value : (c : ℕ) → value_of c < 16 → digit (value_of c) ≡ c
unfolding digit value_of
digit_value c h = grind (arith, common_steps)

-- two characters as a pair
pub pair_digits : (c d : ℕ) → value_of c < 16 → value_of d < 16 → pair_of c d ≡ value_of c * 16 + value_of d
unfolding pair_of
pair_digits c d x y = simp (lt-ltb _ _ x, lt-ltb _ _ y)

pub pair_none : (c d : ℕ) → (value_of c < 16 → value_of d < 16 → ⊥) → pair_of c d ≡ 256
unfolding pair_of
pair_none c d f =
    ⊎_elim
    (λ w. absurd (f (ltb→lt (value_of c) 16 (left_of (ltb (value_of c) 16) (ltb (value_of d) 16) w.0)) (ltb→lt (value_of d) 16 (right_of (ltb (value_of c) 16) (ltb (value_of d) 16) w.0))))
    (λ w. w.1)
    (chosen (ltb (value_of c) 16 && ltb (value_of d) 16) (value_of c * 16 + value_of d) 256)

pub pair_bound : (c d : ℕ) → pair_of c d ≤ 256
unfolding pair_of
pair_bound c d =
    ⊎_elim
    (λ w. omega (arith, w.1, ltb→lt (value_of c) 16 (left_of (ltb (value_of c) 16) (ltb (value_of d) 16) w.0), ltb→lt (value_of d) 16 (right_of (ltb (value_of c) 16) (ltb (value_of d) 16) w.0)))
    (λ w. omega (arith, w.1))
    (chosen (ltb (value_of c) 16 && ltb (value_of d) 16) (value_of c * 16 + value_of d) 256)

-- bytes to digits and back
pub bytes_of-hex : (bs : List ℕ) → Bytes bs → bytes_of (hex bs) ≡ bs
unfolding bytes_of hex
bytes_of-hex [] f = refl
bytes_of-hex (b ∷ bs) f = let h : b < 256 = f 0 in grind (arith, value_digit, bytes_of-hex bs (λ i. f (suc i)))

-- a pair of digits in front of digits
pub hex_more : (c d : ℕ) (cs : List ℕ) → value_of c < 16 → value_of d < 16 → T (is_hex cs) → T (is_hex (c ∷ d ∷ cs))
unfolding is_hex
hex_more c d cs x y t =
    both (ltb (value_of c) 16 && ltb (value_of d) 16) (is_hex cs)
    (both (ltb (value_of c) 16) (ltb (value_of d) 16) (lt→ltb (value_of c) 16 x) (lt→ltb (value_of d) 16 y))
    t

pub hex-first : (c d : ℕ) (cs : List ℕ) → T (is_hex (c ∷ d ∷ cs)) → (value_of c < 16) × (value_of d < 16) × T (is_hex cs)
unfolding is_hex
hex-first c d cs t = grind (arith, common_steps)

pub is_hex-hex : (bs : List ℕ) → Bytes bs → T (is_hex (hex bs))
unfolding is_hex hex
is_hex-hex [] f = tt
is_hex-hex (b ∷ bs) f = let h : b < 256 = f 0 in grind (arith, common_steps, value_digit, is_hex-hex bs (λ i. f (suc i)))

-- digits to bytes and back
pub hex-bytes_of : (cs : List ℕ) → T (is_hex cs) → hex (bytes_of cs) ≡ cs
unfolding is_hex hex bytes_of
hex-bytes_of [] t = refl
hex-bytes_of (c ∷ []) t = absurd t
hex-bytes_of (c ∷ d ∷ cs) t =
    let h = hex-first c d cs t in
    grind (arith, digit_value c h.0, digit_value d h.1, hex-bytes_of cs h.2)

-- what digits mean are bytes, half as many as the digits
pub bytes_bytes_of : (cs : List ℕ) → T (is_hex cs) → Bytes (bytes_of cs)
unfolding is_hex bytes_of
bytes_bytes_of [] t i = omega arith
bytes_bytes_of (c ∷ []) t i = absurd t
bytes_bytes_of (c ∷ d ∷ cs) t zero = omega (arith, hex-first c d cs t)
bytes_bytes_of (c ∷ d ∷ cs) t (suc i) = bytes_bytes_of cs (hex-first c d cs t).2 i

pub length-hex : (bs : List ℕ) → length (hex bs) ≡ 2 * length bs
unfolding hex
length-hex [] = refl
length-hex (b ∷ bs) = omega (arith, length-hex bs)

pub length-bytes_of : (cs : List ℕ) → T (is_hex cs) → length cs ≡ 2 * length (bytes_of cs)
length-bytes_of cs t = ap length (sym (hex-bytes_of cs t)) ∙ length-hex (bytes_of cs)

pub hex_append : (xs ys : List ℕ) → hex (xs ++ ys) ≡ hex xs ++ hex ys
unfolding hex
hex_append [] ys = refl
hex_append (b ∷ bs) ys = ap (λ (l : List ℕ). digit (b / 16) ∷ digit (b % 16) ∷ l) (hex_append bs ys)

-- the sum: of two runs, of a run with its sum byte, and that no other byte brings it to nought
pub sum_bound : (bs : List ℕ) → byte_sum bs < 256
unfolding byte_sum
sum_bound [] = omega arith
sum_bound (b ∷ bs) = omega arith

pub sum_append : (xs ys : List ℕ) → byte_sum (xs ++ ys) ≡ (byte_sum xs + byte_sum ys) % 256
unfolding byte_sum
sum_append [] ys = omega (arith, sum_bound ys)
sum_append (x ∷ xs) ys = omega (arith, sum_append xs ys)

pub sum_snoc : (xs : List ℕ) (y : ℕ) → byte_sum (xs ++ y ∷ []) ≡ (byte_sum xs + y) % 256
unfolding byte_sum
sum_snoc xs y = omega (arith, sum_append xs (y ∷ []))

pub sum_nought : (bs : List ℕ) → byte_sum (bs ++ sum_byte bs ∷ []) ≡ 0
unfolding sum_byte
sum_nought bs = omega (arith, sum_snoc bs (sum_byte bs), sum_bound bs)

pub sum-only : (bs : List ℕ) (y : ℕ) → y < 256 → byte_sum (bs ++ y ∷ []) ≡ 0 → y ≡ sum_byte bs
unfolding sum_byte
sum-only bs y h e = omega (arith, sum_snoc bs y, sum_bound bs)

-- a frame's bytes: kind, payload, sum byte. They are bytes, their sum is nought, and their line is well formed and means them
abbrev pub whole : ℕ → List ℕ → List ℕ
whole kind payload = kind ∷ payload ++ sum_byte (kind ∷ payload) ∷ []

pub sum_byte_bound : (bs : List ℕ) → sum_byte bs < 256
unfolding sum_byte
sum_byte_bound bs = omega arith

pub whole_bytes : (kind : ℕ) (payload : List ℕ) → Bytes (kind ∷ payload) → Bytes (whole kind payload)
whole_bytes kind payload f =
    bytes_append (kind ∷ payload) (sum_byte (kind ∷ payload) ∷ []) f (bytes_cons (sum_byte (kind ∷ payload)) [] (sum_byte_bound (kind ∷ payload)) (λ i. omega arith))

pub whole_sum : (kind : ℕ) (payload : List ℕ) → byte_sum (whole kind payload) ≡ 0
whole_sum kind payload = sum_nought (kind ∷ payload)

pub whole_length : (kind : ℕ) (payload : List ℕ) → length (whole kind payload) ≡ length payload + 2
whole_length kind payload = omega (arith, length-append payload (sum_byte (kind ∷ payload) ∷ []))

pub line_means : (kind : ℕ) (payload : List ℕ) → Bytes (kind ∷ payload) → bytes_of (hex (whole kind payload)) ≡ whole kind payload
line_means kind payload f = bytes_of-hex (whole kind payload) (whole_bytes kind payload f)

-- of characters that are digits: well formed exactly with a kind that there is and as many bytes as it has
pub well_made : (cs : List ℕ) → T (is_hex cs) → T (is_kind (get_or (bytes_of cs) 0 0)) → length (bytes_of cs) ≡ get_or payloads (get_or (bytes_of cs) 0 0) 0 + 2 → T (well_formed cs)
unfolding well_formed
well_made cs x t e = grind (arith, common_steps)

pub well_parts : (cs : List ℕ) → T (well_formed cs) → T (is_hex cs) × T (is_kind (get_or (bytes_of cs) 0 0)) × (length (bytes_of cs) ≡ get_or payloads (get_or (bytes_of cs) 0 0) 0 + 2)
unfolding well_formed
well_parts cs t = grind (arith, common_steps)

pub line_well : (kind : ℕ) (payload : List ℕ) → Bytes (kind ∷ payload) → T (is_kind kind) → length payload ≡ get_or payloads kind 0 → T (well_formed (hex (whole kind payload)))
line_well kind payload f t e =
    well_made (hex (whole kind payload)) (is_hex-hex (whole kind payload) (whole_bytes kind payload f))
    (rw (line_means kind payload f) t)
    (rw (line_means kind payload f) (omega (arith, whole_length kind payload)))

-- bytes whose sum is nought are kind, payload and sum byte
pub whole-only : (bs : List ℕ) (m : ℕ) → length bs ≡ m + 2 → Bytes bs → byte_sum bs ≡ 0 → bs ≡ whole (get_or bs 0 0) (take m (drop 1 bs))
whole-only [] m h f e = absurd (omega arith)
whole-only (b ∷ bs) m h f e =
    let parts : bs ≡ take m bs ++ get_or bs m 0 ∷ [] = grind (arith, common_steps, split_at bs m 0 (omega arith)) in
    let last : get_or bs m 0 ≡ sum_byte (b ∷ take m bs) = sum-only (b ∷ take m bs) (get_or bs m 0) (f (suc m)) (sym (ap (λ (l : List ℕ). byte_sum (b ∷ l)) parts) ∙ e) in
    ap (λ (l : List ℕ). b ∷ l) (parts ∙ ap (λ (x : ℕ). take m bs ++ x ∷ []) last)

-- a line that reads as a frame is the line that writes it
pub line-only : (cs : List ℕ) → T (well_formed cs) → byte_sum (bytes_of cs) ≡ 0
    → cs ++ 10 ∷ [] ≡ line (get_or (bytes_of cs) 0 0) (take (get_or payloads (get_or (bytes_of cs) 0 0) 0) (drop 1 (bytes_of cs)))
unfolding line
line-only cs t e =
    let w = well_parts cs t in
    ap (λ (l : List ℕ). l ++ 10 ∷ [])
    (sym (hex-bytes_of cs w.0) ∙ ap hex (whole-only (bytes_of cs) (get_or payloads (get_or (bytes_of cs) 0 0) 0) w.2 (bytes_bytes_of cs w.0) e))
