-- `cutting::firm::cut` meets its contract: the entry states the split, so that the run goes on by it. Assumes nothing.
use Prim.Native.Nat.{ℕ, ◌+◌}
use mathlib.Core.Path.{sym, subst}
use mathlib.Core.List.{List}
use native.Mathlib.Omega.{arith}
use Rattle.meaning.specs.Heap.{Cut, Lawful, parted}
use Rattle.weighing.specs.Side.{heap_of}
use Rattle.weighing.specs.Search.{FirmPiles}
use Rattle.cutting.specs.Record.{entry_cut}
use Rattle.cutting.proofs.Narrow.{narrow_entry}
use Rattle.cutting.proofs.Parting.{parted-names}
use Rattle.cutting.specs.Finish.{Going}
use Rattle.cutting.proofs.Going.{going_next}
use Rattle.cutting.proofs.firm.cut.Goals as goal

pub returns : goal.returns
returns c =
    let part = c.part in
    let write = c.write in
    let e = c.entry_of-entry in
    let n = c.args.counts.bones in
    let h = heap_of c.args.names.now in
    record {
      on = λ w k space₀ cuts₀ from from' g law firm.
          let new = parted-names n c.args.names.now (entry_cut e.result) (omega arith) g.names_long (narrow_entry e.result (omega (arith, e.ensures.1))) part.ensures.names_after in
          subst (λ (x : List ℕ). Going n w k space₀ cuts₀ part.new.names x (c.args.cuts + 1) from') (sym write.ensures)
          (going_next g e.result part.new.names from' e.ensures.1 (subst (Lawful n w k h) (sym e.ensures.0) law) new.0 new.1
          (subst (λ (x : Cut). FirmPiles n w k (parted n h x) 0 from') (sym e.ensures.0) firm));
    }
