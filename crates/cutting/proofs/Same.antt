-- Bytes that state the same cuts are the same bytes: an entry is known by its cut, and whole entries by their cuts.
-- Assumes nothing.
use Prim.Native.Nat.{ℕ, zero, suc, ◌+◌, ◌*◌, ◌/◌, ◌%◌, ◌≤◌}
use mathlib.Core.Path.{◌≡◌, refl, sym, ◌∙◌, ap, ap₂}
use mathlib.Core.List.{List, ◌++◌}
use native.Mathlib.Omega.{arith}
use lib.ListN.{length, take, drop, length-take, length-drop}
use lib.Seq.{take-add, take_all}
use Rattle.meaning.specs.Bytes.{Bytes}
use Rattle.meaning.specs.Heap.{Cut}
use Rattle.meaning.proofs.Bytes.{bytes_take, bytes_drop}
use Rattle.cutting.specs.Record.{entry_size, entry_of, entry_bytes, entry_cut, cuts_in, cuts_of}
use Rattle.weighing.proofs.SideBytes.{sides_same}
use Rattle.cutting.proofs.Entries.{bytes_entry}
use Rattle.cutting.proofs.Cuts.{length_cuts}

entry_same : (a b : List ℕ) → entry_size ≤ length a → entry_size ≤ length b → Bytes a → Bytes b → entry_cut (entry_of a) ≡ entry_cut (entry_of b) → take entry_size a ≡ take entry_size b
unfolding entry_cut entry_of
entry_same a b long long' bytes bytes' e =
    sym (bytes_entry a long bytes) ∙ ap entry_bytes same ∙ bytes_entry b long' bytes'
  where
    side : take 16 (drop 5 a) ≡ take 16 (drop 5 b)
    side =
        sides_same (take 16 (drop 5 a)) (take 16 (drop 5 b)) (simp (length-take, length-drop) (omega arith)) (bytes_take 16 (drop 5 a) (bytes_drop 5 a bytes))
        (bytes_take 16 (drop 5 b) (bytes_drop 5 b bytes')) (λ x. ap (λ (c : Cut). c.side x) e)

    same : entry_of a ≡ entry_of b
    same = λ i. record { pile = (e i).name; weight = (e i).weighs; side = side i }

cuts_same : (m : ℕ) (a b : List ℕ) → m * entry_size ≤ length a → m * entry_size ≤ length b → Bytes a → Bytes b → cuts_in m a ≡ cuts_in m b → take (m * entry_size) a ≡ take (m * entry_size) b
unfolding cuts_in
cuts_same zero a b long long' bytes bytes' e = refl
cuts_same (suc m) a b long long' bytes bytes' e =
    let one : entry_cut (entry_of a) ≡ entry_cut (entry_of b) = cc in
    let others : cuts_in m (drop entry_size a) ≡ cuts_in m (drop entry_size b) = cc in
    let size : suc m * entry_size ≡ entry_size + m * entry_size = omega arith in
    rw (size, take-add, take-add)
    (ap₂ ◌++◌ (entry_same a b (omega arith) (omega arith) bytes bytes' one)
    (cuts_same m (drop entry_size a) (drop entry_size b) (simp length-drop (omega arith)) (simp length-drop (omega arith)) (bytes_drop entry_size a bytes) (bytes_drop entry_size b bytes') others))

pub same_bytes : (a b : List ℕ) → length a % entry_size ≡ 0 → length b % entry_size ≡ 0 → Bytes a → Bytes b → cuts_of a ≡ cuts_of b → a ≡ b
unfolding cuts_of
same_bytes a b whole whole' bytes bytes' e =
    let m = length a / entry_size in
    let many : m ≡ length b / entry_size = sym (length_cuts m a) ∙ ap length e ∙ length_cuts (length b / entry_size) b in
    let here : cuts_in m a ≡ cuts_in m b = e ∙ ap (λ (x : ℕ). cuts_in x b) (sym many) in
    sym (take_all (m * entry_size) a (omega arith))
    ∙ cuts_same m a b (omega arith) (omega arith) bytes bytes' here
    ∙ take_all (m * entry_size) b (omega arith)
