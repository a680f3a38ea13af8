-- Laws of the cuts that a run of bytes states: entry by entry from the front, one more at the end, and that only the entries' own bytes count.
-- Assumes nothing.
use Prim.Native.Nat.{ℕ, zero, suc, ◌+◌, ◌*◌, ◌-◌, ◌/◌, ◌≤◌, ◌<◌}
use mathlib.Core.Path.{◌≡◌, refl, sym, ◌∙◌, ap, ap₂}
use mathlib.Core.List.{List, [], ◌∷◌, ◌++◌}
use native.Mathlib.Nat.{sub-zero}
use native.Mathlib.Numerals.{add-one}
use native.Mathlib.Omega.{arith}
use lib.ListN.{length, get_or, take, drop, get_or-append, length-drop, length-take, take-append-drop}
use lib.Seq.{drop-drop, drop-append-le, take-append-le}
use Rattle.meaning.specs.Heap.{Cut}
use Rattle.cutting.specs.declared.record.Entry.{Entry}
use Rattle.cutting.specs.Record.{entry_size, entry_of, entry_at, entry_put, entry_cut, cuts_in, cuts_of}
use Rattle.cutting.proofs.Entries.{at_whole, length_put, put_before, read_written}

pub length_cuts : (m : ℕ) (bytes : List ℕ) → length (cuts_in m bytes) ≡ m
unfolding cuts_in
length_cuts zero bytes = refl
length_cuts (suc m) bytes = ap suc (length_cuts m (drop entry_size bytes))

-- the cuts from place 0 on are all
pub cuts_start : (bytes : List ℕ) → cuts_of bytes ≡ cuts_in (length bytes / entry_size - 0) (drop (0 * entry_size) bytes)
unfolding cuts_of
cuts_start bytes = ap (λ (m : ℕ). cuts_in m bytes) (sym (sub-zero (length bytes / entry_size)))

-- the cuts from place i on are the one in that place and those after it; past the last whole entry there are none
pub cuts_next : (bytes : List ℕ) (i : ℕ) {e : Entry} → i < length bytes / entry_size → e ≡ entry_at bytes i
    → cuts_in (length bytes / entry_size - i) (drop (i * entry_size) bytes) ≡ entry_cut e ∷ cuts_in (length bytes / entry_size - (i + 1)) (drop ((i + 1) * entry_size) bytes)
unfolding cuts_in
cuts_next bytes i {e} h q =
    let more : length bytes / entry_size - i ≡ suc (length bytes / entry_size - (i + 1)) = omega arith in
    let step : i * entry_size + entry_size ≡ (i + 1) * entry_size = omega arith in
    ap (λ (m : ℕ). cuts_in m (drop (i * entry_size) bytes)) more
    ∙ ap₂ (λ (c : Cut) (x : List ℕ). c ∷ cuts_in (length bytes / entry_size - (i + 1)) x)
    (ap entry_cut (sym (at_whole bytes i h) ∙ sym q))
    (drop-drop entry_size (i * entry_size) bytes ∙ ap (λ (m : ℕ). drop m bytes) step)

pub cuts_end : (bytes : List ℕ) (i : ℕ) → length bytes / entry_size ≤ i → cuts_in (length bytes / entry_size - i) (drop (i * entry_size) bytes) ≡ []
unfolding cuts_in
cuts_end bytes i h =
    let none : length bytes / entry_size - i ≡ 0 = omega arith in
    ap (λ (m : ℕ). cuts_in m (drop (i * entry_size) bytes)) none

-- one entry more
pub cuts_more : (m : ℕ) (bytes : List ℕ) → cuts_in (m + 1) bytes ≡ cuts_in m bytes ++ entry_cut (entry_of (drop (m * entry_size) bytes)) ∷ []
unfolding cuts_in
cuts_more m bytes = ap (λ (x : ℕ). cuts_in x bytes) (add-one m) ∙ go m bytes
  where
    go : (m : ℕ) (bytes : List ℕ) → cuts_in (suc m) bytes ≡ cuts_in m bytes ++ entry_cut (entry_of (drop (m * entry_size) bytes)) ∷ []
    go zero bytes = refl
    go (suc m) bytes =
        let step : entry_size + m * entry_size ≡ suc m * entry_size = omega arith in
        ap (λ (cs : List Cut). entry_cut (entry_of bytes) ∷ cs)
        (go m (drop entry_size bytes)
        ∙ ap (λ (x : List ℕ). cuts_in m (drop entry_size bytes) ++ entry_cut (entry_of x) ∷ []) (drop-drop (m * entry_size) entry_size bytes ∙ ap (λ (y : ℕ). drop y bytes) step))

-- what stands behind an entry, and behind m of them, does not count
entry_front : (a b : List ℕ) → entry_size ≤ length a → entry_of (a ++ b) ≡ entry_of a
unfolding entry_of
entry_front a b h =
    let at : (j : ℕ) → j < entry_size → get_or (a ++ b) j 0 ≡ get_or a j 0 = λ j l. get_or-append a b 0 j (omega arith) in
    let five : drop 5 (a ++ b) ≡ drop 5 a ++ b = drop-append-le 5 a b (omega arith) in
    let y : take 16 (drop 5 (a ++ b)) ≡ take 16 (drop 5 a) = ap (take 16) five ∙ take-append-le 16 (drop 5 a) b (simp length-drop (omega arith)) in
    λ i.
    record {
      pile = at 0 (omega arith) i;
      weight = at 1 (omega arith) i * 16777216 + at 2 (omega arith) i * 65536 + at 3 (omega arith) i * 256 + at 4 (omega arith) i;
      side = y i;
    }

pub cuts_front : (m : ℕ) (a b : List ℕ) → m * entry_size ≤ length a → cuts_in m (a ++ b) ≡ cuts_in m a
unfolding cuts_in
cuts_front zero a b h = refl
cuts_front (suc m) a b h =
    ap₂ (λ (e : Entry) (cs : List Cut). entry_cut e ∷ cs)
    (entry_front a b (omega arith))
    (ap (cuts_in m) (drop-append-le entry_size a b (omega arith)) ∙ cuts_front m (drop entry_size a) b (simp length-drop (omega arith)))

pub cuts_take : (m : ℕ) (bytes : List ℕ) → m * entry_size ≤ length bytes → cuts_in m (take (m * entry_size) bytes) ≡ cuts_in m bytes
cuts_take m bytes h =
    sym (cuts_front m (take (m * entry_size) bytes) (drop (m * entry_size) bytes) (simp length-take (omega arith)))
    ∙ ap (cuts_in m) (take-append-drop (m * entry_size) bytes)

-- the first m entries of a run, cut off behind them, are all of its entries
pub cuts_of_lem : (m : ℕ) (bytes : List ℕ) → entry_size * m ≤ length bytes → cuts_of (take (entry_size * m) bytes) ≡ cuts_in m bytes
unfolding cuts_of
cuts_of_lem m bytes h =
    let turn : entry_size * m ≡ m * entry_size = omega arith in
    let all : length (take (entry_size * m) bytes) / entry_size ≡ m = simp length-take (omega arith) in
    ap₂ (λ (x y : ℕ). cuts_in x (take y bytes)) all turn ∙ cuts_take m bytes (omega arith)

-- the cuts once entry m was written behind the first m
pub cuts_put : (m : ℕ) (bytes : List ℕ) (e : Entry) → m < length bytes / entry_size → length e.side ≡ 16
    → cuts_in (m + 1) (entry_put bytes m e) ≡ cuts_in m bytes ++ entry_cut e ∷ []
cuts_put m bytes e h long =
    let l = length_put bytes m e long in
    cuts_more m (entry_put bytes m e)
    ∙ ap₂ (λ (cs : List Cut) (x : Entry). cs ++ entry_cut x ∷ [])
    (sym (cuts_take m (entry_put bytes m e) (omega arith))
    ∙ ap (cuts_in m) (put_before bytes m e h)
    ∙ cuts_take m bytes (omega arith))
    (sym (at_whole (entry_put bytes m e) m (omega arith)) ∙ read_written bytes m e h long)
