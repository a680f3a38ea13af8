-- A side in a record has 128 bits: no cut moves a bone from 128 on.
-- Assumes nothing.
use Prim.Native.Nat.{ℕ, zero, suc, ◌*◌, ◌/◌, ◌%◌, ◌^◌, ◌≤◌, ◌<◌}
use mathlib.Core.Path.{◌≡◌, sym, ◌∙◌, ap, subst}
use mathlib.Core.Logic.{⊎_elim}
use mathlib.Core.Bool.{Bool, true, false, cond}
use mathlib.Core.List.{List, [], ◌∷◌}
use native.Mathlib.Nat.{zero-div}
use native.Mathlib.Omega.{arith}
use lib.Dec.{T, eqb, ltb, ltb→lt, nltb→le}
use lib.ListN.{length, take, drop, replicate, get_or-eq_default, length-take, length-replicate}
use Rattle.meaning.specs.Heap.{Cut}
use Rattle.meaning.proofs.Tests.{decide}
use Rattle.weighing.specs.Side.{side_of}
use Rattle.cutting.specs.declared.record.Entry.{Entry}
use Rattle.cutting.specs.Record.{entry_size, entry_of, entry_at, entry_cut, cuts_in}

abbrev pub Narrow : Cut → Type 0
Narrow c = (b : ℕ) → T (c.side b) → b < 128

pub narrow_side : (side : List ℕ) → length side ≤ 16 → (b : ℕ) → T (side_of side b) → b < 128
unfolding side_of
narrow_side side short b t =
    ⊎_elim (ltb→lt b 128)
    (λ f. let past : length side ≤ b / 8 = omega (arith, nltb→le b 128 f) in
    absurd
    (subst T
    (ap (λ (x : ℕ). eqb (x / 2 ^ (b % 8) % 2) 1) (get_or-eq_default side 0 past)
    ∙ ap (λ (x : ℕ). eqb (x % 2) 1) (zero-div (2 ^ (b % 8))))
    t))
    (decide (ltb b 128))

abbrev pub Narrows : List Cut → Type 0
Narrows [] = Unit {0}
Narrows (c ∷ cs) = Narrow c × Narrows cs

pub narrow_cuts : (m : ℕ) (bytes : List ℕ) → Narrows (cuts_in m bytes)
unfolding cuts_in entry_cut entry_of
narrow_cuts zero bytes = tt
narrow_cuts (suc m) bytes = (narrow_side (take 16 (drop 5 bytes)) (simp length-take (omega arith)), narrow_cuts m (drop entry_size bytes))

pub narrow_entry : (e : Entry) → length e.side ≤ 16 → Narrow (entry_cut e)
unfolding entry_cut
narrow_entry e short = narrow_side e.side short

pub narrow_at : (bytes : List ℕ) (i : ℕ) {e : Entry} → e ≡ entry_at bytes i → Narrow (entry_cut e)
unfolding entry_at entry_of
narrow_at bytes i {e} q =
    narrow_entry e (subst (λ (x : Entry). length x.side ≤ 16) (sym q) (go (ltb i (length bytes / entry_size))))
  where
    go : (t : Bool) → length (cond t (entry_of (drop (i * entry_size) bytes)) (record { pile = 0; weight = 0; side = replicate 16 0 })).side ≤ 16
    go true = simp length-take (omega arith)
    go false = simp length-replicate (omega arith)
