-- Links behind the head, one after the other: none yet, one link more, and the length that stays; and the input text that they make.
-- Assumes nothing.
use Prim.Native.Nat.{ℕ, ◌+◌, ◌*◌, ◌/◌, ◌≤◌, ◌<◌, zero, suc}
use mathlib.Core.Path.{◌≡◌, refl, sym, ◌∙◌, ap}
use mathlib.Core.List.{List, ◌++◌, append_assoc}
use native.Mathlib.Numerals.{add-one}
use native.Mathlib.Omega.{arith}
use lib.ListN.{length, get_or, take, length-append}
use lib.Seq.{length-take-le, take-suc, take-length}
use Rattle.meaning.specs.declared.Link.{Link}
use Rattle.links.specs.Forms.{no_link}
use Rattle.cutting.specs.Record.{entry_size}
use Rattle.texts.specs.Kinds.{head_line, link_line, link_lines, cut_lines, close_line}
use Rattle.texts.specs.Inputs.{input_text}
use Rattle.meaning.specs.Room.{over}
use Rattle.texts.specs.Steps.{input_size, around}
use Rattle.meaning.proofs.Room.{over_nil, length_over, onto, before}
use Rattle.frames.specs.Frame.{line_size}
use Rattle.texts.proofs.WritesLines.{length_head, length_links, length_cuts, length_close, links_more}

-- the room after the first i links
abbrev pub linked : List ℕ → List Link → ℕ → List ℕ
linked room links i = over room (line_size 1) (link_lines (take i links))

module _ (room : List ℕ) (links : List Link) where
  pub linked_none : room ≡ linked room links 0
  unfolding link_lines
  linked_none = sym (over_nil room (line_size 1))

  first_long : (i : ℕ) → i ≤ length links → length (link_lines (take i links)) ≡ line_size 2 * i
  first_long i h = length_links (take i links) ∙ ap (λ (m : ℕ). line_size 2 * m) (length-take-le i links h)

  pub linked_all : linked room links (length links) ≡ over room (line_size 1) (link_lines links)
  linked_all = ap (λ (xs : List Link). over room (line_size 1) (link_lines xs)) (take-length links)

  module _ (count : ℕ) (few : count ≤ length links) (fits : 0 < count → line_size 1 + line_size 2 * count ≤ length room) where
    pub linked_more : (i : ℕ) → i < count
        → over (linked room links i) (line_size 1 + line_size 2 * i) (link_line (get_or links i no_link)) ≡ linked room links (i + 1)
    linked_more i h =
        let f = fits (omega arith) in
        let long = first_long i (omega arith) in
        onto room (line_size 1) (link_lines (take i links)) (link_line (get_or links i no_link)) _ (line_size 1 + line_size 2 * i) refl (omega arith) (omega arith)
        ∙ ap (over room (line_size 1))
        (sym (links_more (take i links) (get_or links i no_link))
        ∙ ap link_lines (sym (take-suc links i no_link (omega arith)) ∙ ap (λ (m : ℕ). take m links) (sym (add-one i))))

    pub linked_long : (i : ℕ) → i ≤ count → length (linked room links i) ≡ length room
    linked_long zero h = ap length (sym linked_none)
    linked_long (suc i) h =
        let f = fits (omega arith) in
        length_over room (line_size 1) (link_lines (take (suc i) links)) (omega (arith, first_long (suc i) (omega arith)))

    pub linked_room : (i : ℕ) → i < count → line_size 1 + line_size 2 * i + line_size 2 ≤ length (linked room links i)
    linked_room i h = let f = fits (omega arith) in omega (arith, linked_long i (omega arith))

-- the length of an input text
pub length_input : (n k : ℕ) (links : List Link) (bytes : List ℕ) → length (input_text n k links bytes) ≡ input_size (length links) (length bytes / entry_size)
unfolding input_text
length_input n k links bytes =
    simp length-append
    (omega (
      arith,
      length_head n k,
      length_links links,
      length_cuts (length bytes / entry_size) bytes (omega arith),
      length_close (1 + length links + length bytes / entry_size),
    ))

-- the frames around the links, and the links between them, are the input text
module _ (n k : ℕ) (links : List Link) (bytes room : List ℕ) (fits : input_size (length links) (length bytes / entry_size) ≤ length room) where
  pub between : over (around n k (length links) bytes room) (line_size 1) (link_lines links) ≡ over room 0 (input_text n k links bytes)
  unfolding around input_text
  between =
      let m = length bytes / entry_size in
      let count = length links in
      let head = head_line n k in
      let lines = link_lines links in
      let cuts = cut_lines m bytes in
      let close = close_line (1 + count + m) in
      let l₁ = length_head n k in
      let l₂ = length_links links in
      let l₃ = length_cuts m bytes (omega arith) in
      let l₄ = length_close (1 + count + m) in
      let l₅ = length-append cuts close in
      let first : List ℕ = over room 0 head in
      let l₆ : length first ≡ length room = length_over room 0 head (omega arith) in
      before first (line_size 1 + line_size 2 * count) (line_size 1) lines (cuts ++ close) (omega arith) (omega arith)
      ∙ onto room 0 head (lines ++ (cuts ++ close)) first (line_size 1) refl (omega arith) (omega arith)
      ∙ ap (over room 0) (regroup head lines cuts close)
    where
      regroup : (a b c d : List ℕ) → a ++ (b ++ (c ++ d)) ≡ a ++ b ++ c ++ d
      regroup a b c d = simp append_assoc
