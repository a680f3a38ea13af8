-- Laws of entries as bytes: what writing one leaves around it, and reading and writing an entry undo each other.
-- Assumes nothing.
use Prim.Native.Nat.{ℕ, ◌+◌, ◌*◌, ◌/◌, ◌%◌, ◌^◌, ◌≤◌, ◌<◌, ◌-◌, min}
use mathlib.Core.Path.{◌≡◌, refl, sym, ◌∙◌, ap, ap₂, subst}
use mathlib.Core.Logic.{⊎_elim}
use mathlib.Core.List.{List, [], ◌∷◌, ◌++◌, append-nil, append_assoc}
use native.Mathlib.Nat.{add-zero}
use native.Mathlib.Omega.{arith}
use lib.Dec.{ltb, ltb→lt, nltb→le, leb, leb→le, nleb→lt}
use lib.ListN.{length, get_or, take, drop, length-drop, replicate}
use Rattle.std.proofs.Common.{length-take-le, take_all, drop_of_length-le}
use lib.Seq.{take_at, drop-drop, get_or-drop}
use borrow.Author.Tests.{lt-ltb, le-ltb}
use Rattle.meaning.specs.Room.{over, fitted}
use Rattle.meaning.proofs.Tests.{decide}
use Rattle.meaning.proofs.Room.{length_over, before-place, from_place, behind_items, over_same, fitted_all, fitted_most, fitted_nil}
use Rattle.cutting.specs.declared.record.Entry.{Entry}
use Rattle.cutting.specs.Record.{entry_size, entry_of, entry_bytes, entry_at, entry_put}

length_zero : (xs : List ℕ) → length xs ≡ 0 → xs ≡ []
length_zero [] e = refl
length_zero (x ∷ xs) e = absurd (omega arith)

-- bytes copied from a place on, as many as there is room for
pub copied_at : (to from : List ℕ) (at : ℕ) {a count k : ℕ} {new : List ℕ} → a ≡ min at (length to) → count ≡ min (length from) (length to - a) → k ≡ count → new ≡ take count from
    → take a to ++ (new ++ drop k (drop a to)) ≡ fitted to at from
unfolding over
copied_at to from at {a} {count} {k} {new} e f same g =
    ap₂ (λ (m : ℕ) (x : List ℕ). take a to ++ (x ++ drop m (drop a to))) same g ∙ ap (λ (x : List ℕ). take a to ++ (take count from ++ x)) (drop-drop count a to) ∙ sym (append_assoc (take a to) (take count from) (drop (a + count) to)) ∙ placed
  where
    wide : length (take count from) ≡ count
    wide = length-take-le count from (omega arith)

    placed : take a to ++ take count from ++ drop (a + count) to ≡ fitted to at from
    placed =
        ⊎_elim
        (λ t. let here : a ≡ at = omega (arith, leb→le at (length to) t) in
        ap (λ (m : ℕ). take a to ++ take count from ++ drop (a + m) to) (sym wide)
        ∙ ap (λ (p : ℕ). over to p (take count from)) here
        ∙ sym (fitted_all to at (take count from) (omega (arith, wide)))
        ∙ fitted_most to at from count (omega arith))
        (λ t. let past = nleb→lt at (length to) t in
        let none : take count from ≡ [] = length_zero (take count from) (omega (arith, wide)) in
        ap₂ (λ (x y : List ℕ). x ++ take count from ++ y) (take_all a to (omega arith)) (drop_of_length-le to {i = a + count} (omega arith))
        ∙ ap (λ (x : List ℕ). to ++ x ++ []) none
        ∙ append-nil (to ++ [])
        ∙ append-nil to
        ∙ sym (fitted_nil to at)
        ∙ ap (fitted to at) (sym none)
        ∙ fitted_most to at from count (omega arith))
        (decide (leb at (length to)))

-- where the entry in place i is whole, and where it is not
pub at_whole : (bytes : List ℕ) (i : ℕ) → i < length bytes / entry_size → entry_at bytes i ≡ entry_of (drop (i * entry_size) bytes)
unfolding entry_at
at_whole bytes i h = simp (lt-ltb i (length bytes / entry_size) h)

pub at_none : (bytes : List ℕ) (i : ℕ) → length bytes / entry_size ≤ i → entry_at bytes i ≡ record { pile = 0; weight = 0; side = replicate 16 0 }
unfolding entry_at
at_none bytes i h = simp (le-ltb i (length bytes / entry_size) h)

pub put_whole : (bytes : List ℕ) (i : ℕ) (e : Entry) → i < length bytes / entry_size → entry_put bytes i e ≡ over bytes (i * entry_size) (entry_bytes e)
unfolding entry_put
put_whole bytes i e h = simp (lt-ltb i (length bytes / entry_size) h)

pub put_none : (bytes : List ℕ) (i : ℕ) (e : Entry) → length bytes / entry_size ≤ i → entry_put bytes i e ≡ bytes
unfolding entry_put
put_none bytes i e h = simp (le-ltb i (length bytes / entry_size) h)

-- an entry from the bytes where it stands
pub entry_here : (bytes : List ℕ) (at weight : ℕ) (side : List ℕ)
    → weight ≡ get_or bytes (at + 1) 0 * 2 ^ 24 + get_or bytes (at + 2) 0 * 2 ^ 16 + get_or bytes (at + 3) 0 * 2 ^ 8 + get_or bytes (at + 4) 0
    → side ≡ take 16 (drop (at + 5) bytes)
    → record { pile = get_or bytes at 0; weight = weight; side = side } ≡ entry_of (drop at bytes)
unfolding entry_of
entry_here bytes at weight side w s =
    let p : get_or bytes at 0 ≡ get_or (drop at bytes) 0 0 = sym (get_or-drop at bytes 0 0 ∙ ap (λ (m : ℕ). get_or bytes m 0) (add-zero at)) in
    let x : weight ≡ get_or (drop at bytes) 1 0 * 2 ^ 24 + get_or (drop at bytes) 2 0 * 2 ^ 16 + get_or (drop at bytes) 3 0 * 2 ^ 8 + get_or (drop at bytes) 4 0 = simp get_or-drop w in
    let y : side ≡ take 16 (drop 5 (drop at bytes)) = s ∙ ap (take 16) (sym (drop-drop 5 at bytes)) in
    λ i. record { pile = p i; weight = x i; side = y i }

-- an entry's bytes mean that entry
pub entry_bytes_lem : (e : Entry) (rest : List ℕ) → length e.side ≡ 16 → entry_of (entry_bytes e ++ rest) ≡ e
unfolding entry_of entry_bytes
entry_bytes_lem e rest long =
    let w = e.weight in
    let x : w / 2 ^ 24 * 2 ^ 24 + w / 2 ^ 16 % 256 * 2 ^ 16 + w / 2 ^ 8 % 256 * 2 ^ 8 + w % 256 ≡ w = omega arith in
    let y : take 16 (e.side ++ rest) ≡ e.side = take_at e.side rest 16 long in
    λ i. record { pile = e.pile; weight = x i; side = y i }

-- and bytes are those of the entry that they mean
pub bytes_entry : (bytes : List ℕ) → entry_size ≤ length bytes → ((j : ℕ) → get_or bytes j 0 < 256) → entry_bytes (entry_of bytes) ≡ take entry_size bytes
unfolding entry_of entry_bytes
bytes_entry [] h f = absurd (omega arith)
bytes_entry (p ∷ []) h f = absurd (omega arith)
bytes_entry (p ∷ a ∷ []) h f = absurd (omega arith)
bytes_entry (p ∷ a ∷ b ∷ []) h f = absurd (omega arith)
bytes_entry (p ∷ a ∷ b ∷ c ∷ []) h f = absurd (omega arith)
bytes_entry (p ∷ a ∷ b ∷ c ∷ d ∷ rest) h f =
    let w = a * 2 ^ 24 + b * 2 ^ 16 + c * 2 ^ 8 + d in
    let x : w / 2 ^ 24 ≡ a = omega (arith, f 1, f 2, f 3, f 4) in
    let y : w / 2 ^ 16 % 256 ≡ b = omega (arith, f 1, f 2, f 3, f 4) in
    let z : w / 2 ^ 8 % 256 ≡ c = omega (arith, f 1, f 2, f 3, f 4) in
    let v : w % 256 ≡ d = omega (arith, f 1, f 2, f 3, f 4) in
    λ i. p ∷ x i ∷ y i ∷ z i ∷ v i ∷ take 16 rest

pub length_bytes : (e : Entry) → length e.side ≡ 16 → length (entry_bytes e) ≡ entry_size
unfolding entry_bytes
length_bytes e long = omega arith

-- what stands before an entry that was written, and behind it
pub put_before : (bytes : List ℕ) (i : ℕ) (e : Entry) → i < length bytes / entry_size → take (i * entry_size) (entry_put bytes i e) ≡ take (i * entry_size) bytes
put_before bytes i e h = ap (take (i * entry_size)) (put_whole bytes i e h) ∙ before-place bytes (i * entry_size) (entry_bytes e) (omega arith)

pub put_behind : (bytes : List ℕ) (i : ℕ) (e : Entry) → i < length bytes / entry_size → length e.side ≡ 16
    → drop (i * entry_size + entry_size) (entry_put bytes i e) ≡ drop (i * entry_size + entry_size) bytes
put_behind bytes i e h long =
    ap (drop (i * entry_size + entry_size)) (put_whole bytes i e h)
    ∙ subst (λ (m : ℕ). drop (i * entry_size + m) (over bytes (i * entry_size) (entry_bytes e)) ≡ drop (i * entry_size + m) bytes) (length_bytes e long)
    (behind_items bytes (i * entry_size) (entry_bytes e) (omega arith))

pub length_put : (bytes : List ℕ) (i : ℕ) (e : Entry) → length e.side ≡ 16 → length (entry_put bytes i e) ≡ length bytes
length_put bytes i e long =
    ⊎_elim
    (λ t. let h = ltb→lt i (length bytes / entry_size) t in
    let l = length_bytes e long in
    ap length (put_whole bytes i e h) ∙ length_over bytes (i * entry_size) (entry_bytes e) (omega arith))
    (λ t. ap length (put_none bytes i e (nltb→le i (length bytes / entry_size) t)))
    (decide (ltb i (length bytes / entry_size)))

-- reading what was written gives it back
pub read_written : (bytes : List ℕ) (i : ℕ) (e : Entry) → i < length bytes / entry_size → length e.side ≡ 16 → entry_at (entry_put bytes i e) i ≡ e
read_written bytes i e h long =
    let l = length_put bytes i e long in
    at_whole (entry_put bytes i e) i (omega arith)
    ∙ ap (λ (x : List ℕ). entry_of (drop (i * entry_size) x)) (put_whole bytes i e h)
    ∙ ap entry_of (from_place bytes (i * entry_size) (entry_bytes e) (omega arith))
    ∙ entry_bytes_lem e _ long

-- writing what was read changes nothing
pub written_read : (bytes : List ℕ) (i : ℕ) → ((j : ℕ) → get_or bytes j 0 < 256) → entry_put bytes i (entry_at bytes i) ≡ bytes
written_read bytes i f =
    ⊎_elim
    (λ t. let h = ltb→lt i (length bytes / entry_size) t in
    let at = i * entry_size in
    put_whole bytes i (entry_at bytes i) h
    ∙ ap (over bytes at)
    (ap entry_bytes (at_whole bytes i h) ∙ bytes_entry (drop at bytes) (simp length-drop (omega arith)) (λ j. simp get_or-drop (f (at + j))))
    ∙ over_same bytes at entry_size (omega arith))
    (λ t. put_none bytes i (entry_at bytes i) (nltb→le i (length bytes / entry_size) t))
    (decide (ltb i (length bytes / entry_size)))
