-- Laws of links lent as bytes: how many there are, and which stands in a place.
-- Assumes nothing.
use Rattle.std.proofs.Common.{◌≡◌, ℕ, zero, suc, ◌+◌, ◌*◌, ◌/◌, ◌<◌, ◌≤◌, not, T, ltb, ◌⊎◌, List, [], ◌∷◌, length, get_or, take, drop, sym, refl, ap, ◌∙◌, inl, inr, add-zero, add-one, arith, ltb→lt, nltb→le, length-drop, get_or-take, drop_of_length-le, get_or-drop, drop-cons, drop-drop}
use Rattle.std.specs.Simd.{first_chunks}
use native.Mathlib.Numerals.{towards_suc}
use lib.ListN.{get_or-eq_default}
use Rattle.meaning.specs.declared.Link.{Link}
use Rattle.meaning.proofs.Tests.{decide}
use Rattle.links.specs.Links.{link_at, links_of}

pub length-links_of : (bytes : List ℕ) → length (links_of bytes) ≡ length bytes / 4
unfolding links_of
length-links_of [] = refl
length-links_of (a ∷ []) = refl
length-links_of (a ∷ b ∷ []) = refl
length-links_of (a ∷ b ∷ high ∷ []) = refl
length-links_of (a ∷ b ∷ high ∷ low ∷ rest) = omega (arith, length-links_of rest)

-- fewer than four bytes are no link
without_link : (bytes : List ℕ) → length bytes < 4 → links_of bytes ≡ []
unfolding links_of
without_link [] h = refl
without_link (a ∷ []) h = refl
without_link (a ∷ b ∷ []) h = refl
without_link (a ∷ b ∷ high ∷ []) h = refl
without_link (a ∷ b ∷ high ∷ low ∷ rest) h = absurd (omega arith)

four : (bytes : List ℕ) (j : ℕ) → j + 4 ≤ length bytes → drop j bytes ≡ get_or bytes j 0 ∷ get_or bytes (j + 1) 0 ∷ get_or bytes (j + 2) 0 ∷ get_or bytes (j + 3) 0 ∷ drop (j + 4) bytes
four bytes j h =
    simp towards_suc
    (rw
    (drop-cons bytes j 0 (omega arith), drop-cons bytes (suc j) 0 (omega arith), drop-cons bytes (suc (suc j)) 0 (omega arith), drop-cons bytes (suc (suc (suc j))) 0 (omega arith)))

-- the links from place i on are the link in that place and those after it; past the last whole link there are none
pub links_of_next : (bytes : List ℕ) (i : ℕ) {l : Link} → i < length bytes / 4 → l ≡ link_at bytes i → links_of (drop (i * 4) bytes) ≡ l ∷ links_of (drop ((i + 1) * 4) bytes)
unfolding links_of link_at
links_of_next bytes i {l} h e =
    let step : i * 4 + 4 ≡ (i + 1) * 4 = omega arith in
    ap links_of (four bytes (i * 4) (omega arith))
    ∙ ap (λ (j : ℕ). link_at bytes i ∷ links_of (drop j bytes)) step
    ∙ ap (λ (x : Link). x ∷ links_of (drop ((i + 1) * 4) bytes)) (sym e)

pub links_of_end : (bytes : List ℕ) (i : ℕ) → length bytes / 4 ≤ i → links_of (drop (i * 4) bytes) ≡ []
links_of_end bytes i h = without_link (drop (i * 4) bytes) (omega (arith, length-drop (i * 4) bytes))

-- the same from the list of links: leaving i links out leaves their bytes out, and the link in place i
pub links_of-drop : (bytes : List ℕ) (i : ℕ) → links_of (drop (i * 4) bytes) ≡ drop i (links_of bytes)
links_of-drop bytes zero = refl
links_of-drop bytes (suc i) = one_more (links_of-drop bytes i) (decide (ltb i (length bytes / 4)))
  where
    next : (i + 1) * 4 ≡ suc i * 4
    next = omega arith

    one_more : links_of (drop (i * 4) bytes) ≡ drop i (links_of bytes) → T (ltb i (length bytes / 4)) ⊎ T (not (ltb i (length bytes / 4))) → links_of (drop (suc i * 4) bytes) ≡ drop (suc i) (links_of bytes)
    one_more e (inl t) =
        ap (λ (j : ℕ). links_of (drop j bytes)) (sym next)
        ∙ ap (drop 1) (sym (links_of_next bytes i (ltb→lt i (length bytes / 4) t) refl) ∙ e)
        ∙ drop-drop 1 i (links_of bytes)
        ∙ ap (λ (j : ℕ). drop j (links_of bytes)) (add-one i)
    one_more e (inr t) =
        links_of_end bytes (suc i) (omega (arith, nltb→le i (length bytes / 4) t))
        ∙ sym (drop_of_length-le (links_of bytes) {i = suc i} (omega (arith, length-links_of bytes, nltb→le i (length bytes / 4) t)))

pub links_of_at : (bytes : List ℕ) (i : ℕ) (d : Link) → i < length bytes / 4 → get_or (links_of bytes) i d ≡ link_at bytes i
links_of_at bytes i d h =
    ap (λ (j : ℕ). get_or (links_of bytes) j d) (sym (add-zero i))
    ∙ sym (get_or-drop i (links_of bytes) 0 d)
    ∙ ap (λ (ls : List Link). get_or ls 0 d) (sym (links_of-drop bytes i) ∙ links_of_next bytes i h refl)

-- the same of the four bytes that are read as one chunk
chunk_at : (k i : ℕ) (bytes d : List ℕ) → i < k → get_or (first_chunks 4 k bytes) i d ≡ take 4 (drop (i * 4) bytes)
chunk_at zero i bytes d h = absurd (omega (arith, h))
chunk_at (suc k) zero bytes d h = refl
chunk_at (suc k) (suc i) bytes d h =
    let step : 4 + i * 4 ≡ suc i * 4 = omega arith in
    chunk_at k i (drop 4 bytes) d (omega (arith, h)) ∙ ap (take 4) (drop-drop (i * 4) 4 bytes ∙ ap (λ (j : ℕ). drop j bytes) step)

pub links_of_chunk : (bytes : List ℕ) (i tally : ℕ) (d : Link) (four e : List ℕ) → i < length bytes / 4 → four ≡ get_or (first_chunks 4 (length bytes / 4) bytes) i e
    → tally ≡ get_or four 2 0 * 256 + get_or four 3 0 → ◌≡◌ {A = Link} (record { a = get_or four 0 0; b = get_or four 1 0; tally = tally }) (get_or (links_of bytes) i d)
unfolding link_at
links_of_chunk bytes i tally d four e h c t =
    let byte : (j : ℕ) → j < 4 → get_or four j 0 ≡ get_or bytes (i * 4 + j) 0 =
    λ j l. rw (c ∙ chunk_at (length bytes / 4) i bytes e h) (get_or-take 4 (drop (i * 4) bytes) j 0 l ∙ get_or-drop (i * 4) bytes j 0) in
    rw (t, byte 0 (omega arith), byte 1 (omega arith), byte 2 (omega arith), byte 3 (omega arith), add-zero) (sym (links_of_at bytes i d h))

-- past the last there is none
pub links_of_past : (bytes : List ℕ) (i : ℕ) (d : Link) → length bytes / 4 ≤ i → d ≡ get_or (links_of bytes) i d
links_of_past bytes i d h = sym (get_or-eq_default (links_of bytes) d (omega (arith, h, length-links_of bytes)))

-- every tally is below 65,536, as two bytes are
unfoldable pub Short : List Link → Type 0
Short [] = Unit {0}
Short (l ∷ ls) = (l.tally < 65536) × Short ls

pub links_of_short : (bytes : List ℕ) → ((k : ℕ) → get_or bytes k 0 < 256) → Short (links_of bytes)
unfolding links_of Short
links_of_short [] f = tt
links_of_short (a ∷ []) f = tt
links_of_short (a ∷ b ∷ []) f = tt
links_of_short (a ∷ b ∷ high ∷ []) f = tt
links_of_short (a ∷ b ∷ high ∷ low ∷ rest) f =
    (omega (arith, f 2, f 3), links_of_short rest (λ k. f (suc (suc (suc (suc k))))))
