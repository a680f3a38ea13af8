-- Laws of links written to the front of lent room, in either form: one link more behind those that stand there.
-- Assumes nothing.
use Rattle.std.proofs.Common.{◌≡◌, ℕ, ◌+◌, ◌*◌, ◌/◌, ◌%◌, ◌<◌, ◌≤◌, List, [], ◌∷◌, ◌++◌, length, take, drop, set, sym, refl, ap, ◌∙◌, ap₂, zero-add, arith, length-append, length-take, take_all, get_or, add-zero, length-drop, get_or-drop}
use lib.Seq.{take-append-le, drop-drop}
use mathlib.Core.List.{append_assoc}
use Rattle.meaning.specs.declared.Link.{Link}
use Rattle.meaning.specs.Room.{over, fitted}
use Rattle.meaning.proofs.Room.{fitted_next, over_nil, length_over, over_then}
use Rattle.links.specs.Links.{links_of, link_bytes, link_at}
use Rattle.links.specs.Forms.{front}
use Rattle.links.proofs.LinksBytes.{length-links_of}

-- no link leaves room as it was
pub front_nil : {A : Type 0} (links_in : List A → List Link) (written : List Link → List A) (room : List A) → written [] ≡ [] → room ≡ front links_in written room []
front_nil links_in written room e =
    sym (ap (λ (ms : List Link). over room 0 (written ms)) (take_all (length (links_in room)) [] (omega arith)) ∙ ap (over room 0) e ∙ over_nil room 0)

-- links that room takes stand at its front, all of them
pub front_all : {A : Type 0} (links_in : List A → List Link) (written : List Link → List A) (room : List A) (ls : List Link) → length ls ≤ length (links_in room)
    → front links_in written room ls ≡ over room 0 (written ls)
front_all links_in written room ls h = ap (λ (ms : List Link). over room 0 (written ms)) (take_all (length (links_in room)) ls h)

-- ---- link records

-- records at the front of room are those that fit
pub front_fitted : (room ls : List Link) → front (λ xs. xs) (λ xs. xs) room ls ≡ fitted room 0 ls
unfolding fitted
front_fitted room ls = ap (λ (m : ℕ). over room 0 (take m ls)) (omega arith)

pub record_next : (room ls : List Link) (l : Link) → set (front (λ xs. xs) (λ xs. xs) room ls) (length ls) l ≡ front (λ xs. xs) (λ xs. xs) room (ls ++ l ∷ [])
record_next room ls l =
    ap₂ (λ (r : List Link) (j : ℕ). set r j l) (front_fitted room ls) (sym (zero-add (length ls))) ∙ fitted_next room 0 ls l ∙ sym (front_fitted room (ls ++ l ∷ []))

-- ---- bytes, four a link

-- four bytes a link
pub length-link_bytes : (ls : List Link) → length (link_bytes ls) ≡ length ls * 4
unfolding link_bytes
length-link_bytes [] = refl
length-link_bytes (l ∷ ls) = omega (arith, length-link_bytes ls)

four : (xs : List ℕ) → 4 ≤ length xs → take 4 xs ≡ get_or xs 0 0 ∷ get_or xs 1 0 ∷ get_or xs 2 0 ∷ get_or xs 3 0 ∷ []
four [] h = absurd (omega arith)
four (a ∷ []) h = absurd (omega arith)
four (a ∷ b ∷ []) h = absurd (omega arith)
four (a ∷ b ∷ c ∷ []) h = absurd (omega arith)
four (a ∷ b ∷ c ∷ d ∷ rest) h = refl

-- a link read from four bytes is written as the same four
pub link_bytes_lem : (bytes : List ℕ) (i : ℕ) → i * 4 + 4 ≤ length bytes → ((j : ℕ) → get_or bytes j 0 < 256) → take 4 (drop (i * 4) bytes) ≡ link_bytes (link_at bytes i ∷ [])
unfolding link_bytes link_at
link_bytes_lem bytes i h small =
    let at : (j : ℕ) → get_or (drop (i * 4) bytes) j 0 ≡ get_or bytes (i * 4 + j) 0 = λ j. get_or-drop (i * 4) bytes j 0 in
    let high = get_or bytes (i * 4 + 2) 0 in
    let low = get_or bytes (i * 4 + 3) 0 in
    let x : get_or (drop (i * 4) bytes) 0 0 ≡ get_or bytes (i * 4) 0 = at 0 ∙ ap (λ (m : ℕ). get_or bytes m 0) (add-zero (i * 4)) in
    let z : get_or (drop (i * 4) bytes) 2 0 ≡ (high * 256 + low) / 256 = omega (arith, at 2, small (i * 4 + 3)) in
    let v : get_or (drop (i * 4) bytes) 3 0 ≡ (high * 256 + low) % 256 = omega (arith, at 3, small (i * 4 + 3)) in
    four (drop (i * 4) bytes) (simp length-drop (omega arith)) ∙ (λ k. x k ∷ at 1 k ∷ z k ∷ v k ∷ [])

link_bytes-append : (ls ms : List Link) → link_bytes (ls ++ ms) ≡ link_bytes ls ++ link_bytes ms
unfolding link_bytes
link_bytes-append [] ms = refl
link_bytes-append (l ∷ ls) ms = ap (λ (xs : List ℕ). l.a ∷ l.b ∷ l.tally / 256 ∷ l.tally % 256 ∷ xs) (link_bytes-append ls ms)

-- four bytes in the place of four
four_over : (room : List ℕ) (at a b high low : ℕ) → take at room ++ ((a ∷ b ∷ high ∷ low ∷ []) ++ drop 4 (drop at room)) ≡ over room at (a ∷ b ∷ high ∷ low ∷ [])
unfolding over
four_over room at a b high low =
    ap (λ (xs : List ℕ). take at room ++ ((a ∷ b ∷ high ∷ low ∷ []) ++ xs)) (drop-drop 4 at room) ∙ sym (append_assoc (take at room) (a ∷ b ∷ high ∷ low ∷ []) (drop (at + 4) room))

module _ (was : List ℕ) (ls : List Link) (l : Link) where
  -- the room is as long as it was
  pub long : length (front links_of link_bytes was ls) ≡ length was
  long = length_over was 0 (link_bytes (take (length (links_of was)) ls)) (omega (arith, length-link_bytes (take (length (links_of was)) ls), length-take (length (links_of was)) ls, length-links_of was))

  -- one link more where the room takes it, and none where it is full
  pub bytes_next : length ls < length was / 4
      → take (length ls * 4) (front links_of link_bytes was ls) ++ ((l.a ∷ l.b ∷ l.tally / 256 ∷ l.tally % 256 ∷ []) ++ drop 4 (drop (length ls * 4) (front links_of link_bytes was ls)))
      ≡ front links_of link_bytes was (ls ++ l ∷ [])
  unfolding link_bytes
  bytes_next h =
      let n = length-links_of was in
      let few = take_all (length (links_of was)) ls (omega arith) in
      let all = take_all (length (links_of was)) (ls ++ l ∷ []) (omega (arith, length-append ls (l ∷ []))) in
      let w = length-link_bytes ls in
      four_over (front links_of link_bytes was ls) (length ls * 4) l.a l.b (l.tally / 256) (l.tally % 256)
      ∙ ap₂ (λ (ms : List Link) (at : ℕ). over (over was 0 (link_bytes ms)) at (link_bytes (l ∷ []))) few (sym w ∙ sym (zero-add (length (link_bytes ls))))
      ∙ over_then was 0 (link_bytes ls) (link_bytes (l ∷ [])) (omega arith)
      ∙ ap (over was 0) (sym (link_bytes-append ls (l ∷ [])) ∙ ap link_bytes (sym all))

  pub bytes_full : length was / 4 ≤ length ls → front links_of link_bytes was ls ≡ front links_of link_bytes was (ls ++ l ∷ [])
  bytes_full h = ap (λ (ms : List Link). over was 0 (link_bytes ms)) (sym (take-append-le (length (links_of was)) ls (l ∷ []) (omega (arith, length-links_of was))))
