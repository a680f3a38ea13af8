-- What is written in bytes has no characters but digits and line feeds.
-- Assumes nothing.
use Rattle.std.proofs.Common.{ℕ, suc, ◌/◌, ◌%◌, ◌<◌, T, List, [], ◌∷◌, ◌++◌, arith}
use Rattle.std.proofs.lemmas.Grind.{common_steps}
use Rattle.meaning.specs.Bytes.{Bytes}
use Rattle.frames.specs.Frame.{digit, hex, line, letter, lettered}
use Rattle.frames.proofs.Frames.{whole, whole_bytes}

digit-letter : (d : ℕ) → d < 16 → T (letter (digit d))
unfolding letter digit
digit-letter d h = grind (arith, common_steps)

pub letters_append : (xs ys : List ℕ) → T (lettered xs) → T (lettered ys) → T (lettered (xs ++ ys))
unfolding lettered
letters_append [] ys s t = t
letters_append (x ∷ xs) ys s t = grind (arith, common_steps, letters_append xs ys)

hex_letters : (bs : List ℕ) → Bytes bs → T (lettered (hex bs))
unfolding hex lettered
hex_letters [] f = tt
hex_letters (b ∷ bs) f =
    let h : b < 256 = f 0 in
    grind (arith, common_steps, digit-letter (b / 16) (omega arith), digit-letter (b % 16) (omega arith), hex_letters bs (λ i. f (suc i)))

pub line_letters : (kind : ℕ) (payload : List ℕ) → Bytes (kind ∷ payload) → T (lettered (line kind payload))
unfolding line lettered letter
line_letters kind payload f = letters_append (hex (whole kind payload)) (10 ∷ []) (hex_letters (whole kind payload) (whole_bytes kind payload f)) tt
