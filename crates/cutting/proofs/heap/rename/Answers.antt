-- `cutting::heap::rename` meets its contract. The invariant: the bones below b have their names. Assumes nothing.
use Prim.Native.Nat.{ℕ, ◌+◌, ◌*◌, ◌/◌}
use mathlib.Core.Path.{◌≡◌, sym, ◌∙◌, ap}
use Rattle.std.proofs.lemmas.List.{set-get_or}
use mathlib.Core.Bool.{Bool, cond}
use native.Mathlib.Omega.{arith}
use lib.Dec.{T_not}
use lib.ListN.{get_or, set}
use Rattle.weighing.specs.Side.{heap_of, side_of}
use Rattle.weighing.proofs.Sides.{on_side}
use Rattle.cutting.specs.Names.{names, renamed_in}
use Rattle.cutting.proofs.Renaming.{byte_nought, renamed_none, renamed_more}
use Rattle.cutting.proofs.heap.rename.Goals as goal
use Rattle.cutting.proofs.heap.rename.Goals.{then-in_side, else-in_side}

pub returns-then-side-byte-eq0 : goal.returns-then-side-byte-eq0
returns-then-side-byte-eq0 c =
    let a = c.args in
    renamed_none (side_of a.side.now) a.name 128 (a.byte * 8) (a.byte * 8 + 8) a.names.now (omega arith)
    (λ b lo hi t. let same : b / 8 ≡ a.byte = omega arith in
    T_not (side_of a.side.now b) (byte_nought a.side.now b (ap (λ (j : ℕ). get_or a.side.now j 0) same ∙ c.if-side-byte-eq0.true)) t)

pub loop-b-init : goal.loop-b-init
loop-b-init c =
    let a = c.args in
    renamed_none (side_of a.side.now) a.name 128 (a.byte * 8) (a.byte * 8) a.names.now (omega arith) (λ b lo hi t. omega arith)

pub loop-b-preserved : goal.loop-b-preserved
unfolding heap_of
loop-b-preserved c =
    let a = c.args in
    let b = c.loop-b.b in
    let here = on_side a.side.now b (omega arith) c.in_side.ensures in
    let more = renamed_more (side_of a.side.now) a.name 128 (a.byte * 8) b (heap_of a.names.now) (omega arith) (omega arith) c.loop-b.invariant in
    elim c.if-in_side.branch [
      | then-in_side w ↦ w.names-is ∙ ap (λ (t : Bool). set c.loop-b.names b (cond t a.name (get_or c.loop-b.names b 0))) (sym w.if-in_side.true ∙ here) ∙ more
      | else-in_side w ↦ w.names-is ∙ sym (set-get_or c.loop-b.names b 0) ∙ ap (λ (t : Bool). set c.loop-b.names b (cond t a.name (get_or c.loop-b.names b 0))) (sym w.if-in_side.false ∙ here) ∙ more
    ]

pub returns : goal.returns
returns c =
    let a = c.args in
    let end : c.loop-b.b ≡ a.byte * 8 + 8 = omega arith in
    c.loop-b.invariant ∙ ap (λ (m : ℕ). names 128 (renamed_in (a.byte * 8) m (side_of a.side.now) a.name (heap_of a.names.now))) end
