-- A result text: its length, and its lines one behind the other.
-- Assumes nothing.
use Prim.Native.Nat.{ℕ, ◌+◌, ◌/◌, ◌≤◌, min}
use mathlib.Core.Path.{◌≡◌, ap, subst, ◌∙◌}
use mathlib.Core.List.{List, ◌++◌}
use native.Mathlib.Omega.{arith}
use lib.ListN.{length, length-append}
use Rattle.meaning.specs.Heap.{start, left}
use Rattle.weighing.specs.Side.{heap_of}
use Rattle.cutting.specs.Record.{entry_size, cuts_of}
use Rattle.meaning.specs.Room.{over}
use Rattle.frames.specs.Placing.{Puts}
use Rattle.meaning.proofs.Room.{onto, length_over}
use Rattle.frames.proofs.Places.{puts_fit}
use Rattle.texts.specs.Kinds.{head_line, cut_lines, label_lines, close_line}
use Rattle.texts.proofs.WritesLines.{labels_same, length_head, length_cuts, length_labels, length_close}
use Rattle.texts.specs.Writers.{result_text}
use Rattle.texts.specs.ResultSteps.{Named}
use Rattle.texts.specs.Steps.{result_size}

pub length_result : (n k : ℕ) (bytes : List ℕ) → length (result_text n k bytes) ≡ result_size (length bytes / entry_size) n
unfolding result_text
length_result n k bytes =
    simp length-append
    (omega (
      arith,
      length_head n k,
      length_cuts (length bytes / entry_size) bytes (omega arith),
      length_labels n (left n start (cuts_of bytes)),
      length_close (1 + length bytes / entry_size + n),
    ))

-- a result text from its parts, each put where the one before it ends
module _ (room bytes names : List ℕ) (n k : ℕ) (given : Named n k bytes names) (fits : length (result_text n k bytes) ≤ length room) where
  pub result_made : (r s t u : List ℕ) (o p q v f : ℕ)
      → Puts room 0 (head_line n k) r o
      → Puts r o (cut_lines (length bytes / entry_size) bytes) s p
      → Puts s p (label_lines (min n 128) (heap_of names)) t q
      → f ≡ 1 + length bytes / entry_size + n
      → Puts t q (close_line f) u v
      → u ≡ over room 0 (result_text n k bytes)
  unfolding result_text
  result_made r s t u o p q v f e₁ e₂ e₃ f-is e₄ =
      let head = head_line n k in
      let cuts = cut_lines (length bytes / entry_size) bytes in
      let labels = label_lines n (left n start (cuts_of bytes)) in
      let l₁ = length_head n k in
      let l₂ = length_cuts (length bytes / entry_size) bytes (omega arith) in
      let l₃ = length_labels n (left n start (cuts_of bytes)) in
      let l₄ = length_close f in
      let l₁₂ = length-append head cuts in
      let l₁₂₃ = length-append (head ++ cuts) labels in
      let whole = length_result n k bytes in
      let few : min n 128 ≡ n = omega (arith, given.bones) in
      let named : label_lines (min n 128) (heap_of names) ≡ labels
      = ap (λ (m : ℕ). label_lines m (heap_of names)) few ∙ labels_same n (heap_of names) (left n start (cuts_of bytes)) given.names_of in
      -- each part fits behind the one before it
      let d₁ = puts_fit room 0 head r o (omega arith) e₁ in
      let r-long : length r ≡ length room = ap length d₁.1 ∙ length_over room 0 head (omega arith) in
      let d₂ = puts_fit r o cuts s p (omega (arith, d₁.0)) e₂ in
      let s-is : s ≡ over room 0 (head ++ cuts) = d₂.1 ∙ onto room 0 head cuts r o d₁.1 (omega (arith, d₁.0)) (omega arith) in
      let s-long : length s ≡ length room = ap length s-is ∙ length_over room 0 (head ++ cuts) (omega arith) in
      let d₃ = puts_fit s p labels t q (omega (arith, d₁.0, d₂.0)) (subst (λ (l : List ℕ). Puts s p l t q) named e₃) in
      let t-is : t ≡ over room 0 (head ++ cuts ++ labels)
      = d₃.1 ∙ onto room 0 (head ++ cuts) labels s p s-is (omega (arith, d₁.0, d₂.0)) (omega arith) in
      let t-long : length t ≡ length room = ap length t-is ∙ length_over room 0 (head ++ cuts ++ labels) (omega arith) in
      (puts_fit t q (close_line f) u v (omega (arith, d₁.0, d₂.0, d₃.0)) e₄).1
      ∙ ap (λ (x : ℕ). over t q (close_line x)) f-is
      ∙ onto room 0 (head ++ cuts ++ labels) (close_line _) t q t-is (omega (arith, d₁.0, d₂.0, d₃.0)) (omega arith)
