-- Laws of lines: a text's first line and the lines that follow; and when it is a well formed frame.
-- Assumes nothing.
use Prim.Native.Nat.{ℕ, zero, suc, ◌+◌, ◌*◌, ◌≤◌, ◌<◌}
use mathlib.Core.Path.{◌≡◌, refl, sym, ◌∙◌, ap, ap₂, subst}
use mathlib.Core.Logic.{⊎_elim}
use mathlib.Core.Bool.{Bool, true, false, cond, ◌&&◌}
use mathlib.Core.List.{List, [], ◌∷◌, ◌++◌}
use native.Mathlib.Nat.{le_of_lt}
use native.Mathlib.Numerals.{add-one}
use native.Mathlib.Omega.{arith}
use borrow.Author.Tests.{ne_eqb}
use lib.Dec.{T, eqb, ltb, ltb→lt, eqb→eq}
use lib.ListN.{length, get_or, take, drop, length-append}
use lib.Seq.{split_at, length-take-le, get_or-take, take-append_seam, get_or-append_seam}
use Rattle.meaning.proofs.Tests.{both, left_of, right_of, decide, is_true, neqb→ne}
use Rattle.frames.specs.Frame.{payloads, value_of, is_hex, bytes_of, well_formed}
use Rattle.texts.specs.Lines.{Line, before, lines_of, frame, kind}
use Rattle.frames.specs.Characters.{pair_of}
use Rattle.texts.specs.Walk.{byte_at, digits_at, size_at, Well}
use Rattle.frames.proofs.Frames.{chosen, hex-first, length-bytes_of, well_parts, well_made}

-- characters among which there is no line feed
abbrev pub Plain : List ℕ → Type 0
Plain cs = (i : ℕ) → i < length cs → get_or cs i 0 ≡ 10 → ⊥

pub plain_more : (c : ℕ) (cs : List ℕ) → (c ≡ 10 → ⊥) → Plain cs → Plain (c ∷ cs)
plain_more c cs f p zero h = f
plain_more c cs f p (suc i) h = p i (omega arith)

-- the lines of characters that a line feed ends, and of characters that none ends
pub lines_ended : (cs rest : List ℕ) → Plain cs → lines_of (cs ++ 10 ∷ rest) ≡ record { characters = cs; ended = true } ∷ lines_of rest
unfolding lines_of before
lines_ended [] rest p = refl
lines_ended (c ∷ cs) rest p =
    rw (ne_eqb c 10 (p 0 (omega arith))) (ap (before c) (lines_ended cs rest (λ i h. p (suc i) (omega arith))))

pub lines_open : (c : ℕ) (cs : List ℕ) → Plain (c ∷ cs) → lines_of (c ∷ cs) ≡ record { characters = c ∷ cs; ended = false } ∷ []
unfolding lines_of before
lines_open c [] p = rw (ne_eqb c 10 (p 0 (omega arith)))
lines_open c (d ∷ cs) p =
    rw (ne_eqb c 10 (p 0 (omega arith))) (ap (before c) (lines_open d cs (λ i h. p (suc i) (omega arith))))

-- every text is characters up to its first line feed and a rest, or has no line feed
pub data Split (cs : List ℕ) : Type 0 where
  fed : (xs rest : List ℕ) → Plain xs → cs ≡ xs ++ 10 ∷ rest → Split cs
  bare : Plain cs → Split cs

split_more : (c : ℕ) (cs : List ℕ) → (c ≡ 10 → ⊥) → Split cs → Split (c ∷ cs)
split_more c cs f (fed xs rest p e) = fed (c ∷ xs) rest (plain_more c xs f p) (ap (λ (l : List ℕ). c ∷ l) e)
split_more c cs f (bare p) = bare (plain_more c cs f p)

pub split : (cs : List ℕ) → Split cs
split [] = bare (λ i h. absurd (omega arith))
split (c ∷ cs) =
    ⊎_elim
    (λ t. fed [] cs (λ i h. absurd (omega arith)) (ap (λ (x : ℕ). x ∷ cs) (eqb→eq c 10 t)))
    (λ t. split_more c cs (neqb→ne c 10 t) (split cs))
    (decide (eqb c 10))

-- digits have no line feed among them
not_feed : (c : ℕ) → value_of c < 16 → c ≡ 10 → ⊥
unfolding value_of
not_feed c h e = omega (arith, ap value_of e)

pub plain_digits : (cs : List ℕ) → T (is_hex cs) → Plain cs
unfolding is_hex
plain_digits [] t = λ i h. absurd (omega arith)
plain_digits (c ∷ []) t = absurd t
plain_digits (c ∷ d ∷ cs) t =
    let h = hex-first c d cs t in
    plain_more c (d ∷ cs) (not_feed c h.0) (plain_more d cs (not_feed d h.1) (plain_digits cs h.2))

-- twice a number more
pub twice : (i : ℕ) → 2 * suc i ≡ suc (suc (2 * i))
twice i = omega arith

odd : (i : ℕ) → suc (suc (2 * i)) + 1 ≡ suc (suc (2 * i + 1))
odd i = omega arith

even : (i : ℕ) → suc (suc (2 * i)) + 2 ≡ suc (suc (2 * i + 2))
even i = omega arith

-- the bytes that characters mean, pair by pair
pub byte_at_more : (c d : ℕ) (cs : List ℕ) (i : ℕ) → byte_at (c ∷ d ∷ cs) (suc i) ≡ byte_at cs i
unfolding byte_at
byte_at_more c d cs i = rw (twice i, odd i)

pub digits_at_more : (c d : ℕ) (cs : List ℕ) (i : ℕ) → digits_at (c ∷ d ∷ cs) (suc i) ≡ digits_at cs i
unfolding digits_at
digits_at_more c d cs i = rw (twice i, odd i)

pub bytes_of_at : (cs : List ℕ) (i : ℕ) → 2 * i + 2 ≤ length cs → get_or (bytes_of cs) i 0 ≡ byte_at cs i
unfolding bytes_of byte_at
bytes_of_at [] i h = absurd (omega arith)
bytes_of_at (c ∷ []) i h = absurd (omega arith)
bytes_of_at (c ∷ d ∷ cs) zero h = refl
bytes_of_at (c ∷ d ∷ cs) (suc i) h = bytes_of_at cs i (omega arith) ∙ sym (byte_at_more c d cs i)

pub bytes_of_snoc : (cs : List ℕ) (i : ℕ) → 2 * i + 2 ≤ length cs → bytes_of (take (2 * i + 2) cs) ≡ bytes_of (take (2 * i) cs) ++ byte_at cs i ∷ []
unfolding bytes_of byte_at
bytes_of_snoc [] i h = absurd (omega arith)
bytes_of_snoc (c ∷ []) i h = absurd (omega arith)
bytes_of_snoc (c ∷ d ∷ cs) zero h = refl
bytes_of_snoc (c ∷ d ∷ cs) (suc i) h =
    rw (twice i, even i, odd i) (ap (λ (l : List ℕ). (value_of c * 16 + value_of d) ∷ l) (bytes_of_snoc cs i (omega arith)))

-- characters are digits pair by pair
hex-pair : (c d : ℕ) (cs : List ℕ) (n : ℕ) → is_hex (take (suc (suc n)) (c ∷ d ∷ cs)) ≡ (ltb (value_of c) 16 && ltb (value_of d) 16) && is_hex (take n cs)
unfolding is_hex
hex-pair c d cs n = refl

hex-take : (c d : ℕ) (cs : List ℕ) (i : ℕ) → is_hex (take (2 * suc i) (c ∷ d ∷ cs)) ≡ (ltb (value_of c) 16 && ltb (value_of d) 16) && is_hex (take (2 * i) cs)
hex-take c d cs i = ap (λ (n : ℕ). is_hex (take n (c ∷ d ∷ cs))) (twice i) ∙ hex-pair c d cs (2 * i)

pub hex_snoc : (cs : List ℕ) (i : ℕ) → 2 * i + 2 ≤ length cs → T (is_hex (take (2 * i) cs)) → T (digits_at cs i) → T (is_hex (take (2 * i + 2) cs))
unfolding is_hex digits_at
hex_snoc [] i h t s = absurd (omega arith)
hex_snoc (c ∷ []) i h t s = absurd (omega arith)
hex_snoc (c ∷ d ∷ cs) zero h t s = both (ltb (value_of c) 16 && ltb (value_of d) 16) true s tt
hex_snoc (c ∷ d ∷ cs) (suc i) h t s =
    let u : T ((ltb (value_of c) 16 && ltb (value_of d) 16) && is_hex (take (2 * i) cs)) = subst T (hex-take c d cs i) t in
    subst T (sym (ap (λ (n : ℕ). is_hex (take n (c ∷ d ∷ cs))) (ap (λ (n : ℕ). n + 2) (twice i) ∙ even i) ∙ hex-pair c d cs (2 * i + 2)))
    (both (ltb (value_of c) 16 && ltb (value_of d) 16) (is_hex (take (2 * i + 2) cs))
    (left_of (ltb (value_of c) 16 && ltb (value_of d) 16) (is_hex (take (2 * i) cs)) u)
    (hex_snoc cs i (omega arith) (right_of (ltb (value_of c) 16 && ltb (value_of d) 16) (is_hex (take (2 * i) cs)) u) (subst T (digits_at_more c d cs i) s)))

pub hex_at : (cs : List ℕ) (i m : ℕ) → 2 * m ≤ length cs → T (is_hex (take (2 * m) cs)) → i < m → T (digits_at cs i)
unfolding digits_at
hex_at [] i m h t l = absurd (omega arith)
hex_at (c ∷ []) i m h t l = absurd (omega arith)
hex_at (c ∷ d ∷ cs) i zero h t l = absurd (omega arith)
hex_at (c ∷ d ∷ cs) zero (suc m) h t l =
    left_of (ltb (value_of c) 16 && ltb (value_of d) 16) (is_hex (take (2 * m) cs)) (subst T (hex-take c d cs m) t)
hex_at (c ∷ d ∷ cs) (suc i) (suc m) h t l =
    subst T (sym (digits_at_more c d cs i))
    (hex_at cs i m (omega arith) (right_of (ltb (value_of c) 16 && ltb (value_of d) 16) (is_hex (take (2 * m) cs)) (subst T (hex-take c d cs m) t)) (omega arith))

-- a text's first pairs are those of its first part
pub byte_at-take : (n : ℕ) (cs : List ℕ) (i : ℕ) → 2 * i + 2 ≤ n → byte_at (take n cs) i ≡ byte_at cs i
unfolding byte_at
byte_at-take n cs i h =
    ap₂ (λ (x y : ℕ). value_of x * 16 + value_of y) (get_or-take n cs (2 * i) 0 (omega arith)) (get_or-take n cs (2 * i + 1) 0 (omega arith))

-- a pair of characters: the byte there if it is below 256, and else no digits
pub pair_digits_at : (cs : List ℕ) (i : ℕ) → pair_of (get_or cs (2 * i) 0) (get_or cs (2 * i + 1) 0) < 256 → T (digits_at cs i)
unfolding digits_at pair_of
pair_digits_at cs i h =
    let x = value_of (get_or cs (2 * i) 0) in
    let y = value_of (get_or cs (2 * i + 1) 0) in
    ⊎_elim (λ w. w.0) (λ w. absurd (omega (arith, w.1))) (chosen (ltb x 16 && ltb y 16) (x * 16 + y) 256)

pub pair_byte_at : (cs : List ℕ) (i : ℕ) → T (digits_at cs i) → pair_of (get_or cs (2 * i) 0) (get_or cs (2 * i + 1) 0) ≡ byte_at cs i
unfolding digits_at byte_at pair_of
pair_byte_at cs i t =
    let x = value_of (get_or cs (2 * i) 0) in
    let y = value_of (get_or cs (2 * i + 1) 0) in
    ap (λ (b : Bool). cond b (x * 16 + y) 256) (is_true (ltb x 16 && ltb y 16) t)

-- the two values of a pair of digits, and the byte that they make
pub values_at : (cs : List ℕ) (i : ℕ) → T (digits_at cs i) → (value_of (get_or cs (2 * i) 0) < 16) × (value_of (get_or cs (2 * i + 1) 0) < 16)
unfolding digits_at
values_at cs i t =
    let x = value_of (get_or cs (2 * i) 0) in
    let y = value_of (get_or cs (2 * i + 1) 0) in
    (ltb→lt x 16 (left_of (ltb x 16) (ltb y 16) t), ltb→lt y 16 (right_of (ltb x 16) (ltb y 16) t))

pub byte_at_bound : (cs : List ℕ) (i : ℕ) → T (digits_at cs i) → byte_at cs i < 256
unfolding digits_at byte_at
byte_at_bound cs i t =
    let x = value_of (get_or cs (2 * i) 0) in
    let y = value_of (get_or cs (2 * i + 1) 0) in
    omega (arith, ltb→lt x 16 (left_of (ltb x 16) (ltb y 16) t), ltb→lt y 16 (right_of (ltb x 16) (ltb y 16) t))

-- the frame at the front of a text: its line and the lines after it, and its bytes
abbrev pub front : List ℕ → Line
front cs = record { characters = take (2 * size_at cs) cs; ended = true }

module _ (cs : List ℕ) (w : Well cs) where
  pub front_lines : lines_of cs ≡ front cs ∷ lines_of (drop (2 * size_at cs + 1) cs)
  front_lines =
      ap lines_of (split_at cs (2 * size_at cs) 0 w.room ∙ ap (λ (x : ℕ). take (2 * size_at cs) cs ++ x ∷ drop (suc (2 * size_at cs)) cs) w.feed)
      ∙ lines_ended (take (2 * size_at cs) cs) (drop (suc (2 * size_at cs)) cs) (plain_digits (take (2 * size_at cs) cs) w.digits)
      ∙ ap (λ (n : ℕ). front cs ∷ lines_of (drop n cs)) (sym (add-one (2 * size_at cs)))

  front_characters : length (take (2 * size_at cs) cs) ≡ 2 * size_at cs
  front_characters = length-take-le (2 * size_at cs) cs (le_of_lt w.room)

  pub front_length : length (frame (front cs)) ≡ size_at cs
  unfolding frame
  front_length = omega (arith, front_characters, length-bytes_of (take (2 * size_at cs) cs) w.digits)

  pub front_at : (i : ℕ) → i < size_at cs → get_or (frame (front cs)) i 0 ≡ byte_at cs i
  unfolding frame
  front_at i h =
      bytes_of_at (take (2 * size_at cs) cs) i (omega (arith, front_characters)) ∙ byte_at-take (2 * size_at cs) cs i (omega arith)

  pub front_kind : kind (front cs) ≡ byte_at cs 0
  unfolding kind size_at
  front_kind = front_at 0 (omega arith)

  pub front_well : T (well_formed (front cs).characters)
  unfolding frame kind size_at
  front_well = well_made (front cs).characters w.digits (rw front_kind w.kind) (rw front_kind front_length)

-- whether the first line is a well formed frame
abbrev pub well_first : List Line → Bool
well_first [] = false
well_first (l ∷ ls) = l.ended && well_formed l.characters

module _ (xs rest : List ℕ) (t : T (well_formed xs)) where
  ended_kind : byte_at (xs ++ 10 ∷ rest) 0 ≡ get_or (bytes_of xs) 0 0
  ended_kind =
      let w = well_parts xs t in
      let n : 2 ≤ length xs = omega (arith, length-bytes_of xs w.0) in
      sym (byte_at-take (length xs) (xs ++ 10 ∷ rest) 0 n)
      ∙ ap (λ (l : List ℕ). byte_at l 0) (take-append_seam xs (10 ∷ rest))
      ∙ sym (bytes_of_at xs 0 n)

  ended_size : 2 * size_at (xs ++ 10 ∷ rest) ≡ length xs
  unfolding size_at
  ended_size =
      let w = well_parts xs t in
      omega (arith, length-bytes_of xs w.0, w.2, ap (λ (x : ℕ). get_or payloads x 0) ended_kind)

  well_ended : Well (xs ++ 10 ∷ rest)
  well_ended =
      let w = well_parts xs t in
      record {
        kind = rw ended_kind w.1;
        digits = rw (ended_size, take-append_seam) w.0;
        room = omega (arith, ended_size, length-append xs (10 ∷ rest));
        feed = rw (ended_size, get_or-append_seam);
      }

pub well_first_lem : (cs : List ℕ) → T (well_first (lines_of cs)) → Well cs
unfolding lines_of
well_first_lem cs t = by-split cs t (split cs)
  where
    by-split : (cs : List ℕ) → T (well_first (lines_of cs)) → Split cs → Well cs
    by-split cs t (fed xs rest p e) =
        subst Well (sym e) (well_ended xs rest (subst (λ (l : List Line). T (well_first l)) (ap lines_of e ∙ lines_ended xs rest p) t))
    by-split [] t (bare p) = absurd t
    by-split (c ∷ cs) t (bare p) = absurd (subst (λ (l : List Line). T (well_first l)) (lines_open c cs p) t)

-- and where there is none, the first line is not well formed
