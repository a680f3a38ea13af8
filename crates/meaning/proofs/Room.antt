-- Laws of lent room, whatever its elements: nothing written, one item, items behind items and in front of them, what stands before, at and behind the
-- place, as many as the room takes; and by whether it is refused.
-- Assumes nothing.
use Prim.Native.Nat.{ℕ, suc, ◌+◌, ◌-◌, ◌≤◌, ◌<◌, min}
use mathlib.Core.Path.{◌≡◌, sym, ap, ap₂, ◌∙◌}
use mathlib.Core.Logic.{⊎_elim}
use mathlib.Core.List.{List, [], ◌∷◌, ◌++◌, append_assoc, append-nil}
use native.Mathlib.Nat.{le_refl, add-zero, zero-add, add_assoc}
use native.Mathlib.Numerals.{add-one}
use native.Mathlib.Omega.{arith}
use lib.Dec.{leb, ltb, leb→le, nleb→lt, ltb→lt, nltb→le}
use lib.ListN.{length, set, take, drop, length-append, length-drop, length-take, drop_of_length-le, take-append-drop}
use lib.Seq.{length-take-le, take_all, take_at, drop_at, drop-drop, set_split, set_out, append_snoc, take-append-le, take-take, take-add}
use Rattle.std.specs.Prelude.{Err}
use Rattle.meaning.specs.declared.Refusal.{Refusal}
use Rattle.meaning.specs.Judge.{Judged, Accepted}
use Rattle.meaning.specs.Room.{over, fitted, settled}
use Rattle.meaning.proofs.Tests.{decide}

-- ---- as it was where refused

pub settled_new : {A : Type 0} {j : Judged} (was new : A) → j ≡ Accepted → settled j was new ≡ new
unfolding settled
settled_new was new e = rw e

pub settled_was : {A : Type 0} {j : Judged} {refusal : Refusal} (was new : A) → j ≡ Err refusal → settled j was new ≡ was
unfolding settled
settled_was was new e = rw e

-- ---- items at a place

module _ {A : Type 0} where
  pub over_nil : (room : List A) (at : ℕ) → over room at [] ≡ room
  unfolding over
  over_nil room at = rw (add-zero, append-nil) (take-append-drop at room)

  -- at the front
  pub over_front : (room items : List A) → over room 0 items ≡ items ++ drop (length items) room
  unfolding over
  over_front room items = ap (λ (m : ℕ). items ++ drop m room) (zero-add (length items))

  pub over_all : (room items : List A) → length items ≡ length room → over room 0 items ≡ items
  over_all room items e =
      over_front room items ∙ ap (λ (x : List A). items ++ x) (drop_of_length-le room {i = length items} (omega arith)) ∙ append-nil items

  pub take_front : (room items : List A) (count : ℕ) → count ≡ length items → take count (over room 0 items) ≡ items
  take_front room items count e = ap (take count) (over_front room items) ∙ take_at items (drop (length items) room) count (sym e)

  pub over_one : (room : List A) (at : ℕ) (x : A) → at < length room → set room at x ≡ over room at (x ∷ [])
  unfolding over
  over_one room at x h = rw (set_split, add-one) (sym (append_snoc (take at room) x (drop (suc at) room)))

  pub length_over : (room : List A) (at : ℕ) (items : List A) → at + length items ≤ length room → length (over room at items) ≡ length room
  unfolding over
  length_over room at items h =
      let a : at ≤ length room = omega arith in
      simp (length-append, length-drop, length-take-le at room a) (omega arith)

  -- what stands before the place, up to behind the items, from the place on, and behind the items
  module _ (room : List A) (at : ℕ) (items : List A) (h : at ≤ length room) where
    head_long : length (take at room ++ items) ≡ at + length items
    head_long = simp (length-append, length-take-le at room h)

    parts : over room at items ≡ take at room ++ (items ++ drop (at + length items) room)
    unfolding over
    parts = append_assoc (take at room) items (drop (at + length items) room)

    pub before-place : take at (over room at items) ≡ take at room
    before-place = ap (take at) parts ∙ take_at (take at room) _ at (length-take-le at room h)

    pub up_to_items : take (at + length items) (over room at items) ≡ take at room ++ items
    unfolding over
    up_to_items = take_at (take at room ++ items) (drop (at + length items) room) (at + length items) head_long

    pub from_place : drop at (over room at items) ≡ items ++ drop (at + length items) room
    from_place = ap (drop at) parts ∙ drop_at (take at room) _ at (length-take-le at room h)

    pub behind_items : drop (at + length items) (over room at items) ≡ drop (at + length items) room
    unfolding over
    behind_items = drop_at (take at room ++ items) (drop (at + length items) room) (at + length items) head_long

  -- what already stood there
  pub over_same : (room : List A) (at count : ℕ) → at + count ≤ length room → over room at (take count (drop at room)) ≡ room
  unfolding over
  over_same room at count h =
      let long : length (take count (drop at room)) ≡ count = length-take-le count (drop at room) (simp length-drop (omega arith)) in
      ap₂ (λ (x : List A) (m : ℕ). x ++ drop (at + m) room) (sym (take-add at count room)) long ∙ take-append-drop (at + count) room

  -- items behind items
  module _ (room : List A) (at : ℕ) (s t : List A) (h : at + length s ≤ length room) where
    pub over_then : over (over room at s) (at + length s) t ≡ over room at (s ++ t)
    unfolding over
    over_then =
        let a : at ≤ length room = omega arith in
        ap₂ (λ (u v : List A). u ++ t ++ v)
        (up_to_items room at s a)
        (sym (drop-drop (length t) (at + length s) _) ∙ ap (drop (length t)) (behind_items room at s a) ∙ drop-drop (length t) (at + length s) room)
        ∙ ap₂ (λ (u v : List A). u ++ v)
        (append_assoc (take at room) s t)
        (ap (λ (m : ℕ). drop m room) (add_assoc at (length s) (length t) ∙ ap (λ (m : ℕ). at + m) (sym (length-append s t))))

  pub onto : (room : List A) (at : ℕ) (s t r : List A) (place : ℕ) → r ≡ over room at s → place ≡ at + length s → at + length s ≤ length room
      → over r place t ≡ over room at (s ++ t)
  onto room at s t r place e f h = ap₂ (λ (x : List A) (m : ℕ). over x m t) e f ∙ over_then room at s t h

  -- and one item behind them
  pub over_next : (room : List A) (at : ℕ) (s : List A) (x : A) → at + length s < length room
      → set (over room at s) (at + length s) x ≡ over room at (s ++ x ∷ [])
  over_next room at s x h =
      let long = length_over room at s (omega arith) in
      over_one (over room at s) (at + length s) x (omega arith) ∙ over_then room at s (x ∷ []) (omega arith)

  -- items in front of items that were written first
  pub before : (room : List A) (place at : ℕ) (s t : List A) → place ≡ at + length s → place + length t ≤ length room
      → over (over room place t) at s ≡ over room at (s ++ t)
  unfolding over
  before room place at s t e h =
      let p : place ≤ length room = omega arith in
      let front : length (take place room) ≡ place = length-take-le place room p in
      let sum : place + length t ≡ at + length (s ++ t) = omega (arith, length-append s t) in
      ap₂ (λ (u v : List A). u ++ s ++ v)
      (ap (take at) (parts room place t p) ∙ take-append-le at (take place room) _ (omega arith) ∙ take-take at place room (omega arith))
      (ap (λ (m : ℕ). drop m (over room place t)) (sym e) ∙ from_place room place t p)
      ∙ sym (append_assoc (take at room ++ s) t (drop (place + length t) room))
      ∙ ap₂ (λ (u v : List A). u ++ v) (append_assoc (take at room) s t) (ap (λ (m : ℕ). drop m room) sum)

-- ---- as many as the room takes

module _ {A : Type 0} where
  pub fitted_nil : (room : List A) (at : ℕ) → fitted room at [] ≡ room
  unfolding fitted
  fitted_nil room at = ap (over room at) (take_all (length room - at) [] (omega arith)) ∙ over_nil room at

  pub fitted_all : (room : List A) (at : ℕ) (items : List A) → at + length items ≤ length room → fitted room at items ≡ over room at items
  unfolding fitted
  fitted_all room at items h = ap (over room at) (take_all (length room - at) items (omega arith))

  -- those that the room takes, and no more
  pub fitted_most : (room : List A) (at : ℕ) (items : List A) (count : ℕ) → count ≡ min (length items) (length room - at)
      → fitted room at (take count items) ≡ fitted room at items
  unfolding fitted
  fitted_most room at items count e =
      ap (over room at)
      (⊎_elim
      (λ t. let l = leb→le (length items) (length room - at) t in ap (take (length room - at)) (take_all count items (omega arith)))
      (λ t. let l = nleb→lt (length items) (length room - at) t in
      let c : count ≡ length room - at = omega arith in
      ap (λ (m : ℕ). take (length room - at) (take m items)) c ∙ take-take (length room - at) (length room - at) items (le_refl _))
      (decide (leb (length items) (length room - at))))

  -- room that ends before the place stays as it was
  fitted_past : (room : List A) (at : ℕ) (items : List A) → length room ≤ at → fitted room at items ≡ room
  unfolding fitted
  fitted_past room at items h =
      let none : length room - at ≡ 0 = omega arith in
      ap (λ (m : ℕ). over room at (take m items)) none ∙ over_nil room at

  length_within : (room : List A) (at : ℕ) (items : List A) → at ≤ length room → length (fitted room at items) ≡ length room
  unfolding fitted
  length_within room at items h = length_over room at _ (simp length-take (omega arith))

  -- full room takes no more
  full : (room : List A) (at : ℕ) (items : List A) (x : A) → length room ≤ at + length items → fitted room at items ≡ fitted room at (items ++ x ∷ [])
  unfolding fitted
  full room at items x h = ap (over room at) (sym (take-append-le (length room - at) items (x ∷ []) (omega arith)))

  pub length-fitted : (room : List A) (at : ℕ) (items : List A) → length (fitted room at items) ≡ length room
  length-fitted room at items =
      ⊎_elim
      (λ t. length_within room at items (leb→le at (length room) t))
      (λ t. let l = nleb→lt at (length room) t in ap length (fitted_past room at items (omega arith)))
      (decide (leb at (length room)))

  -- one item more: it is written where the room goes on behind the others, and not where it ends
  pub fitted_next : (room : List A) (at : ℕ) (items : List A) (x : A) → set (fitted room at items) (at + length items) x ≡ fitted room at (items ++ x ∷ [])
  fitted_next room at items x =
      ⊎_elim
      (λ t. let l = ltb→lt (at + length items) (length room) t in
      ap (λ (r : List A). set r (at + length items) x) (fitted_all room at items (omega arith))
      ∙ over_next room at items x l
      ∙ sym (fitted_all room at (items ++ x ∷ []) (omega (arith, length-append items (x ∷ [])))))
      (λ t. let l = nltb→le (at + length items) (length room) t in
      set_out (fitted room at items) (at + length items) x (omega (arith, length-fitted room at items)) ∙ full room at items x l)
      (decide (ltb (at + length items) (length room)))
