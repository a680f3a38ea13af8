-- `cutting::heap::part` meets its contract. The invariant: the bones of the bytes passed have their names. Assumes nothing.
use Prim.Native.Nat.{ℕ, zero-le, ◌+◌, ◌*◌}
use mathlib.Core.Path.{◌≡◌, ◌∙◌, ap}
use mathlib.Core.Bool.{cond}
use native.Mathlib.Omega.{arith}
use Rattle.meaning.specs.Count.{least}
use Rattle.meaning.specs.Heap.{parted}
use Rattle.weighing.specs.Side.{heap_of, side_of}
use Rattle.cutting.specs.Record.{entry_cut}
use Rattle.cutting.specs.Names.{names, renamed_in}
use Rattle.cutting.proofs.Names.{names_same}
use Rattle.cutting.proofs.Renaming.{renamed_in_lem, renamed_none, renamed_next}
use Rattle.cutting.proofs.heap.part.Goals as goal

pub least_of-name-requires : goal.least_of-name-requires
least_of-name-requires c = omega (arith, c.min.ensures)

pub loop-byte-init : goal.loop-byte-init
loop-byte-init c =
    let a = c.args in
    renamed_none (side_of a.entry.side) c.least_of-name.result 128 0 0 a.names.now (omega arith) (λ b lo hi t. omega arith)

pub loop-byte-preserved : goal.loop-byte-preserved
loop-byte-preserved c =
    let a = c.args in
    let head = c.loop-byte in
    let side = side_of a.entry.side in
    let name = c.least_of-name.result in
    let more : head.byte * 8 + 8 ≡ (head.byte + 1) * 8 = omega arith in
    renamed_next side name 128 0 (head.byte * 8) (head.byte * 8 + 8) (heap_of a.names.now) zero-le (omega arith) head.invariant c.rename.ensures
    ∙ ap (λ (m : ℕ). names 128 (renamed_in 0 m side name (heap_of a.names.now))) more

pub returns : goal.returns
unfolding parted entry_cut
returns c =
    let a = c.args in
    let side = side_of a.entry.side in
    let old = heap_of a.names.now in
    let name = c.least_of-name in
    let named = name.ensures ∙ ap (λ (m : ℕ). least m side) c.min.ensures in
    let end : c.loop-byte.byte * 8 ≡ 128 = omega arith in record {
      names_after = c.loop-byte.invariant
          ∙ ap (λ (m : ℕ). names 128 (renamed_in 0 m side name.result old)) end
          ∙ names_same 128 _ _ (λ b l. renamed_in_lem side name.result 0 128 old b zero-le l ∙ ap (λ (m : ℕ). cond (side b) m (old b)) named);
      value = named;
    }
