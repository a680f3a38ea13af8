-- Laws of what a text holds: its head, links and entries, frame by frame.
-- Assumes nothing.
use Prim.Native.Nat.{ℕ, ◌+◌, ◌*◌, ◌<◌}
use mathlib.Core.Path.{◌≡◌, ◌∙◌, ap, ap₂}
use mathlib.Core.Bool.{Bool, cond}
use mathlib.Core.List.{List, ◌∷◌, ◌++◌}
use native.Mathlib.Omega.{arith}
use borrow.Author.Tests.{eq-eqb, ne_eqb}
use lib.Dec.{eqb}
use lib.ListN.{length, get_or, drop, length-drop}
use lib.Seq.{length-take-le, get_or-take, get_or-drop}
use Rattle.cutting.specs.Record.{entry_size}
use Rattle.texts.specs.Lines.{lines_of, frame, pair}
use Rattle.texts.specs.Reader.{link_in, entry_in, links_in, entries_in, bones_in, threshold_in}
use Rattle.texts.specs.Walk.{byte_at, size_at, Well}
use Rattle.texts.proofs.Lines.{front, front_lines, front_at, front_kind, front_length}
use Rattle.texts.proofs.Walks.{size_of}
use Rattle.texts.proofs.Judging.{rest}

module _ (cs : List ℕ) (w : Well cs) where
  -- a number of two bytes within the frame
  pub front_pair : (i : ℕ) → i + 1 < size_at cs → pair (front cs) i ≡ byte_at cs i * 256 + byte_at cs (i + 1)
  unfolding pair
  front_pair i h =
      ap₂ (λ (x y : ℕ). x * 256 + y) (front_at cs w i (omega arith))
      (ap (λ (n : ℕ). get_or (frame (front cs)) n 0) (omega arith) ∙ front_at cs w (i + 1) h)

  -- the head's numbers
  pub bones_front : byte_at cs 0 ≡ 1 → bones_in (lines_of cs) ≡ byte_at cs 1
  unfolding bones_in
  bones_front e = ap bones_in (front_lines cs w) ∙ front_at cs w 1 (omega (arith, size_of cs 1 e))

  pub threshold_front : byte_at cs 0 ≡ 1 → threshold_in (lines_of cs) ≡ byte_at cs 2 * 256 + byte_at cs 3
  unfolding threshold_in
  threshold_front e = ap threshold_in (front_lines cs w) ∙ front_pair 2 (omega (arith, size_of cs 1 e))

  -- a link's frame, and any other
  links_told : links_in (lines_of cs) ≡ cond (eqb (byte_at cs 0) 2) (link_in (front cs) ∷ links_in (rest cs)) (links_in (rest cs))
  unfolding links_in
  links_told = ap links_in (front_lines cs w) ∙ ap (λ (k : ℕ). cond (eqb k 2) (link_in (front cs) ∷ links_in (rest cs)) (links_in (rest cs))) (front_kind cs w)

  pub links_front : byte_at cs 0 ≡ 2 → links_in (lines_of cs) ≡ link_in (front cs) ∷ links_in (rest cs)
  links_front e = links_told ∙ ap (λ (b : Bool). cond b (link_in (front cs) ∷ links_in (rest cs)) (links_in (rest cs))) (eq-eqb (byte_at cs 0) 2 e)

  pub links_skip : (byte_at cs 0 ≡ 2 → ⊥) → links_in (lines_of cs) ≡ links_in (rest cs)
  links_skip f = links_told ∙ ap (λ (b : Bool). cond b (link_in (front cs) ∷ links_in (rest cs)) (links_in (rest cs))) (ne_eqb (byte_at cs 0) 2 f)

  pub link_front : byte_at cs 0 ≡ 2 → link_in (front cs) ≡ record { a = byte_at cs 1; b = byte_at cs 2; tally = byte_at cs 3 * 256 + byte_at cs 4 }
  unfolding link_in
  link_front e =
      let s = size_of cs 2 e in
      let p = front_at cs w 1 (omega arith) in
      let q = front_at cs w 2 (omega arith) in
      let r = front_pair 3 (omega arith) in
      λ i. record { a = p i; b = q i; tally = r i }

  -- a cut's frame, and any other
  entries_told : entries_in (lines_of cs) ≡ cond (eqb (byte_at cs 0) 3) (entry_in (front cs) ++ entries_in (rest cs)) (entries_in (rest cs))
  unfolding entries_in
  entries_told = ap entries_in (front_lines cs w) ∙ ap (λ (k : ℕ). cond (eqb k 3) (entry_in (front cs) ++ entries_in (rest cs)) (entries_in (rest cs))) (front_kind cs w)

  pub entries_front : byte_at cs 0 ≡ 3 → entries_in (lines_of cs) ≡ entry_in (front cs) ++ entries_in (rest cs)
  entries_front e = entries_told ∙ ap (λ (b : Bool). cond b (entry_in (front cs) ++ entries_in (rest cs)) (entries_in (rest cs))) (eq-eqb (byte_at cs 0) 3 e)

  pub entries_skip : (byte_at cs 0 ≡ 3 → ⊥) → entries_in (lines_of cs) ≡ entries_in (rest cs)
  entries_skip f = entries_told ∙ ap (λ (b : Bool). cond b (entry_in (front cs) ++ entries_in (rest cs)) (entries_in (rest cs))) (ne_eqb (byte_at cs 0) 3 f)

  pub entry_length : byte_at cs 0 ≡ 3 → length (entry_in (front cs)) ≡ entry_size
  unfolding entry_in
  entry_length e =
      length-take-le entry_size (drop 1 (frame (front cs)))
      (omega (arith, length-drop 1 (frame (front cs)), front_length cs w, size_of cs 3 e))

  pub entry_at : byte_at cs 0 ≡ 3 → (i : ℕ) → i < entry_size → get_or (entry_in (front cs)) i 0 ≡ byte_at cs (1 + i)
  unfolding entry_in
  entry_at e i h =
      get_or-take entry_size (drop 1 (frame (front cs))) i 0 h
      ∙ get_or-drop 1 (frame (front cs)) i 0
      ∙ front_at cs w (1 + i) (omega (arith, size_of cs 3 e))
