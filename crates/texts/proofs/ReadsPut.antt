-- Laws of putting what a judged text holds into the room lent for it, one part after the other.
-- Assumes nothing.
use Prim.Native.Nat.{ℕ, ◌+◌, ◌≤◌}
use mathlib.Core.Path.{◌≡◌, refl, sym, ◌∙◌, ap}
use mathlib.Core.List.{List, [], ◌∷◌, ◌++◌, append_assoc, append-nil}
use native.Mathlib.Omega.{arith}
use lib.Dec.{T}
use lib.ListN.{length, drop, length-append}
use Rattle.meaning.specs.Room.{over}
use Rattle.meaning.proofs.Room.{over_nil, length_over, onto}
use Rattle.texts.specs.Lines.{Line, lines_of}
use Rattle.texts.specs.Judging.{all_well}
use Rattle.texts.specs.declared.store.Found.{Found}
use Rattle.texts.specs.Storing.{skip_to, FoundAt, Holds, Storable}
use Rattle.texts.proofs.Judging.{rest_at}

-- so many were put at the front of the room, the rest of it is as it was, and with what is still held they are all
pub record Putting {A : Type 0} (all held old room : List A) (done : ℕ) : Type 0 where
  pub same_size : length room ≡ length old
  pub fits : done + length held ≤ length old
  pub front : List A
  pub so_many : done ≡ length front
  pub with_held : front ++ held ≡ all
  pub put_so : room ≡ over old 0 front

-- at first nothing, and at the end all
pub putting_none : {A : Type 0} (all old : List A) → length all ≤ length old → Putting all all old old 0
putting_none all old h =
    record { same_size = refl; fits = omega arith; front = []; so_many = refl; with_held = refl; put_so = sym (over_nil old 0) }

pub putting_all : {A : Type 0} (all held old room : List A) (done : ℕ) → Putting all held old room done → length held ≡ 0 → room ≡ over old 0 all
putting_all {A} all held old room done p e =
    p.put_so ∙ ap (over old 0) (sym (append-nil p.front) ∙ ap (λ (l : List A). p.front ++ l) (sym (empty held e)) ∙ p.with_held)
  where
    empty : (l : List A) → length l ≡ 0 → l ≡ []
    empty [] e = refl
    empty (x ∷ xs) e = absurd (omega arith)

-- one part more
pub putting_more : {A : Type 0} (all held held' old room room' part : List A) (done done' : ℕ) → Putting all held old room done → held ≡ part ++ held'
    → done' ≡ done + length part → room' ≡ over room done part → Putting all held' old room' done'
putting_more {A} all held held' old room room' part done done' p e d r =
    let sizes : length held ≡ length part + length held' = ap length e ∙ length-append part held' in
    record {
      same_size = ap length r ∙ length_over room done part (omega (arith, p.fits, p.same_size)) ∙ p.same_size;
      fits = omega (arith, p.fits);
      front = p.front ++ part;
      so_many = omega (arith, p.so_many, length-append p.front part);
      with_held = append_assoc p.front part held' ∙ ap (λ (l : List A). p.front ++ l) (sym e) ∙ p.with_held;
      put_so = r ∙ onto old 0 p.front part room done p.put_so (omega (arith, p.so_many)) (omega (arith, p.fits, p.so_many));
    }

-- how far storing has come: the text from a place on is well formed, and what it holds is still to be put
pub record Storing {A : Type 0} (held : List Line → List A) (text : List ℕ) (old room : List A) (at done : ℕ) : Type 0 where
  pub within : at ≤ length text
  pub well : T (all_well (lines_of (drop at text)))
  pub putting : Putting (held (lines_of text)) (held (lines_of (drop at text))) old room done

-- at first nothing is stored
pub storing_none : {A : Type 0} (held : List Line → List A) (text : List ℕ) (old : List A) → Storable text (held (lines_of text)) old → Storing held text old old 0 0
storing_none held text old s = record { within = omega arith; well = s.well; putting = putting_none (held (lines_of text)) old s.fits }

-- where so many places are taken as the text holds, all of it is stored
pub storing_full : {A : Type 0} (held : List Line → List A) (text : List ℕ) (old room : List A) (from done : ℕ) → Storing held text old room from done
    → length (held (lines_of text)) ≤ done → room ≡ over old 0 (held (lines_of text))
storing_full held text old room from done s full =
    let left = held (lines_of (drop from text)) in
    putting_all (held (lines_of text)) left old room done s.putting
    (omega (arith, full, s.putting.so_many, ap length s.putting.with_held, length-append s.putting.front left))

module _ {A : Type 0} {kind : ℕ} {held : List Line → List A} {part : List ℕ → List A} (holds : Holds kind held part) (text : List ℕ) (old : List A) where
  module _ (room : List A) (from done : ℕ) (g : Storing held text old room from done) where
    -- where no frame of the kind is left, all is stored
    pub storing_all : skip_to kind (lines_of (drop from text)) ≡ [] → room ≡ over old 0 (held (lines_of text))
    storing_all e =
        putting_all (held (lines_of text)) (held (lines_of (drop from text))) old room done g.putting
        (ap length (sym (holds.skipped (lines_of (drop from text))) ∙ ap held e ∙ holds.none))

    -- where one is, what it holds is next
    module _ (f : Found) (found : FoundAt text from kind f) where
      pub taken : held (lines_of (drop from text)) ≡ part (drop f.at text) ++ held (lines_of (drop f.next text))
      taken =
          sym (holds.skipped (lines_of (drop from text)))
          ∙ ap held (sym found.lines)
          ∙ holds.front (drop f.at text) found.frame found.kind
          ∙ ap (λ (ls : List Line). part (drop f.at text) ++ held ls) (rest_at text f.at f.next found.next)

      -- it fits the room
      pub part_fits : done + length (part (drop f.at text)) ≤ length room
      part_fits =
          omega (arith, g.putting.fits, g.putting.same_size, ap length taken, length-append (part (drop f.at text)) (held (lines_of (drop f.next text))))

      -- and then it is stored
      pub storing_more : (done' : ℕ) (room' : List A) → done' ≡ done + length (part (drop f.at text)) → room' ≡ over room done (part (drop f.at text))
          → Storing held text old room' f.next done'
      storing_more done' room' d r =
          record {
            within = found.within;
            well = found.well;
            putting =
                putting_more (held (lines_of text)) (held (lines_of (drop from text))) (held (lines_of (drop f.next text))) old room room' (part (drop f.at text)) done done'
                g.putting taken d r;
          }
