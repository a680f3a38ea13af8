-- Laws of the storing pass: frames found again in a judged text, and the entries put into the record space one behind the other.
-- Assumes nothing.
use Prim.Native.Nat.{ℕ, zero, suc, ◌+◌, ◌*◌, ◌≤◌, ◌<◌}
use mathlib.Core.Path.{◌≡◌, refl, sym, ◌∙◌, ap, ap₂, subst}
use mathlib.Core.Logic.{⊎_elim}
use mathlib.Core.Bool.{Bool, true, false, cond, ◌&&◌}
use mathlib.Core.List.{List, [], ◌∷◌, ◌++◌}
use native.Mathlib.Nat.{eq-or-lt_of_le, le_of_suc-le-suc}
use native.Mathlib.Numerals.{add-one}
use native.Mathlib.Omega.{arith}
use borrow.Author.Tests.{eq-eqb, ne_eqb}
use lib.Dec.{T, eqb}
use lib.ListN.{length, get_or, set, drop, length-append, length-drop, drop_of_length-le, get_or-append}
use lib.Seq.{ext_get_or, get_or_at}
use Rattle.meaning.proofs.Tests.{left_of, right_of}
use Rattle.meaning.specs.Room.{over}
use Rattle.meaning.proofs.Room.{over_nil, over_next}
use Rattle.cutting.specs.Record.{entry_size}
use Rattle.frames.specs.Frame.{well_formed}
use Rattle.texts.specs.Lines.{Line, lines_of, kind}
use Rattle.texts.specs.Reader.{link_in, entry_in, links_in, entries_in}
use Rattle.texts.specs.Walk.{byte_at, size_at, Well}
use Rattle.texts.specs.Judging.{all_well}
use Rattle.texts.specs.Storing.{skip_to, FoundAt, payload_at}
use Rattle.texts.proofs.Lines.{front, front_lines, front_kind, well_first, well_first_lem}
use Rattle.texts.proofs.Walks.{well_room}
use Rattle.texts.proofs.Judging.{rest, rest_at, lines_some}
use Rattle.texts.proofs.ReadsText.{entry_length, entry_at}

-- the first of well formed lines is a frame, and the lines behind it are well formed
first_well : (ls : List Line) → 0 < length ls → T (all_well ls) → T (well_first ls)
unfolding all_well
first_well [] h t = absurd (omega arith)
first_well (l ∷ ls) h t = left_of (l.ended && well_formed l.characters) (all_well ls) t

pub all_front : (cs : List ℕ) → 0 < length cs → T (all_well (lines_of cs)) → Well cs
all_front cs h t = well_first_lem cs (first_well (lines_of cs) (lines_some cs h) t)

pub all_rest : (cs : List ℕ) → Well cs → T (all_well (lines_of cs)) → T (all_well (rest cs))
unfolding all_well
all_rest cs w t =
    right_of (well_formed (front cs).characters) (all_well (rest cs)) (subst (λ (ls : List Line). T (all_well ls)) (front_lines cs w) t)

-- skipping: the frame at the front is of that kind, or is passed over; at the end there is none
skip_told : (cs : List ℕ) → Well cs → (k : ℕ) → skip_to k (lines_of cs) ≡ cond (eqb (byte_at cs 0) k) (front cs ∷ rest cs) (skip_to k (rest cs))
unfolding skip_to
skip_told cs w k =
    ap (skip_to k) (front_lines cs w)
    ∙ ap (λ (x : ℕ). cond (eqb x k) (front cs ∷ rest cs) (skip_to k (rest cs))) (front_kind cs w)

pub skip_here : (cs : List ℕ) → Well cs → (k : ℕ) → byte_at cs 0 ≡ k → lines_of cs ≡ skip_to k (lines_of cs)
skip_here cs w k e =
    front_lines cs w
    ∙ sym (skip_told cs w k ∙ ap (λ (b : Bool). cond b (front cs ∷ rest cs) (skip_to k (rest cs))) (eq-eqb (byte_at cs 0) k e))

pub skip_on : (cs : List ℕ) → Well cs → (k : ℕ) → (byte_at cs 0 ≡ k → ⊥) → skip_to k (lines_of cs) ≡ skip_to k (rest cs)
skip_on cs w k f = skip_told cs w k ∙ ap (λ (b : Bool). cond b (front cs ∷ rest cs) (skip_to k (rest cs))) (ne_eqb (byte_at cs 0) k f)

pub skip_end : (text : List ℕ) (at k : ℕ) → length text ≤ at → lines_of (drop at text) ≡ skip_to k (lines_of (drop at text))
unfolding lines_of skip_to
skip_end text at k h = rw (drop_of_length-le text {i = at} h)

skip_none : (text : List ℕ) (at k : ℕ) → length text ≤ at → skip_to k (lines_of (drop at text)) ≡ []
unfolding lines_of skip_to
skip_none text at k h = rw (drop_of_length-le text {i = at} h)

-- how far a walk over the frames has come: what is to be found is still to be found
pub record Onward (text : List ℕ) (from k at : ℕ) : Type 0 where
  pub onward : from ≤ at
  pub within : at ≤ length text
  pub well : T (all_well (lines_of (drop at text)))
  pub lines : skip_to k (lines_of (drop at text)) ≡ skip_to k (lines_of (drop from text))

module _ (text : List ℕ) (from k at : ℕ) (o : Onward text from k at) where
  pub onward_well : at < length text → Well (drop at text)
  onward_well h = all_front (drop at text) (omega (arith, length-drop at text)) o.well

  pub onward_more : at < length text → (byte_at (drop at text) 0 ≡ k → ⊥) → (next : ℕ) → next ≡ at + 2 * size_at (drop at text) + 1 → Onward text from k next
  onward_more h f next e =
      let w = onward_well h in
      record {
        onward = omega (arith, o.onward);
        within = omega (arith, well_room text at w);
        well = subst (λ (ls : List Line). T (all_well ls)) (rest_at text at next e) (all_rest (drop at text) w o.well);
        lines = ap (skip_to k) (sym (rest_at text at next e)) ∙ sym (skip_on (drop at text) w k f) ∙ o.lines;
      }

  pub onward_here : at < length text → byte_at (drop at text) 0 ≡ k → (next : ℕ) → next ≡ at + 2 * size_at (drop at text) + 1
      → FoundAt text from k (record { at = at; next = next })
  onward_here h e next q =
      let w = onward_well h in
      record {
        lines = skip_here (drop at text) w k e ∙ o.lines;
        frame = w;
        kind = e;
        next = q;
        further = omega (arith, o.onward);
        within = omega (arith, well_room text at w);
        well = subst (λ (ls : List Line). T (all_well ls)) (rest_at text at next q) (all_rest (drop at text) w o.well);
      }

  pub onward_end : length text ≤ at → skip_to k (lines_of (drop from text)) ≡ []
  onward_end h = sym o.lines ∙ skip_none text at k h

-- the first bytes of a payload: how many, and which
pub payload_length : (cs : List ℕ) (i : ℕ) → length (payload_at cs i) ≡ i
unfolding payload_at
payload_length cs zero = refl
payload_length cs (suc i) = omega (arith, length-append (payload_at cs i) (byte_at cs (suc i) ∷ []), payload_length cs i)

payload_at_lem : (cs : List ℕ) (m i : ℕ) → i < m → get_or (payload_at cs m) i 0 ≡ byte_at cs (suc i)
unfolding payload_at
payload_at_lem cs zero i h = absurd (omega arith)
payload_at_lem cs (suc m) i h =
    ⊎_elim
    (λ e. rw e (get_or_at (payload_at cs m) (byte_at cs (suc m)) [] 0 m (payload_length cs m)))
    (λ l. get_or-append (payload_at cs m) (byte_at cs (suc m) ∷ []) 0 i (omega (arith, payload_length cs m)) ∙ payload_at_lem cs m i l)
    (eq-or-lt_of_le (le_of_suc-le-suc h))

-- the entry of a cut's frame is its payload
pub entry_payload : (cs : List ℕ) → Well cs → byte_at cs 0 ≡ 3 → entry_in (front cs) ≡ payload_at cs entry_size
entry_payload cs w e =
    ext_get_or 0 (entry_in (front cs)) (payload_at cs entry_size) (entry_length cs w e ∙ sym (payload_length cs entry_size))
    (λ i h.
    let l : i < entry_size = omega (arith, entry_length cs w e) in
    entry_at cs w e i l ∙ ap (byte_at cs) (omega arith) ∙ sym (payload_at_lem cs entry_size i l))

-- the first bytes of a payload at a place of lent room
payload_next : (cs : List ℕ) (i : ℕ) → payload_at cs i ++ byte_at cs (i + 1) ∷ [] ≡ payload_at cs (i + 1)
unfolding payload_at
payload_next cs i = rw add-one

pub stored_none : (cs space : List ℕ) (to : ℕ) → space ≡ over space to (payload_at cs 0)
unfolding payload_at
stored_none cs space to = sym (over_nil space to)

pub stored_more : (cs space : List ℕ) (to i b : ℕ) → to + i < length space → b ≡ byte_at cs (i + 1)
    → set (over space to (payload_at cs i)) (to + i) b ≡ over space to (payload_at cs (i + 1))
stored_more cs space to i b h e =
    let long = payload_length cs i in
    ap₂ (λ (m x : ℕ). set (over space to (payload_at cs i)) (to + m) x) (sym long) e
    ∙ over_next space to (payload_at cs i) (byte_at cs (i + 1)) (omega arith)
    ∙ ap (over space to) (payload_next cs i)

-- frames of other kinds hold no links, and no entries
pub skip_links : (ls : List Line) → links_in (skip_to 2 ls) ≡ links_in ls
unfolding links_in skip_to
skip_links [] = refl
skip_links (l ∷ ls) = by_kind (eqb (kind l) 2) refl (skip_links ls)
  where
    by_kind : (b : Bool) → eqb (kind l) 2 ≡ b → links_in (skip_to 2 ls) ≡ links_in ls → links_in (cond (eqb (kind l) 2) (l ∷ ls) (skip_to 2 ls)) ≡ cond (eqb (kind l) 2) (link_in l ∷ links_in ls) (links_in ls)
    by_kind true e h = rw e (rw e)
    by_kind false e h = rw e h

pub skip_entries : (ls : List Line) → entries_in (skip_to 3 ls) ≡ entries_in ls
unfolding entries_in skip_to
skip_entries [] = refl
skip_entries (l ∷ ls) = by_kind (eqb (kind l) 3) refl (skip_entries ls)
  where
    by_kind : (b : Bool) → eqb (kind l) 3 ≡ b → entries_in (skip_to 3 ls) ≡ entries_in ls → entries_in (cond (eqb (kind l) 3) (l ∷ ls) (skip_to 3 ls)) ≡ cond (eqb (kind l) 3) (entry_in l ++ entries_in ls) (entries_in ls)
    by_kind true e h = rw e (rw e)
    by_kind false e h = rw e h
