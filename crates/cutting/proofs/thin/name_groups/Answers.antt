-- `cutting::thin::name_groups` meets its contract. Assumes nothing.
use Rattle.std.proofs.Common.{ℕ, ◌*◌, List, replicate, sym, subst, arith}
use Rattle.std.proofs.lemmas.List.{length-replicate}
use Rattle.links.specs.Table.{held}
use Rattle.cutting.specs.Record.{entry_size}
use Rattle.cutting.specs.Finish.{Begun, Ended}
use Rattle.cutting.proofs.Parting.{heap_start}
use Rattle.cutting.proofs.Labelling.{none_begun, ended_named}
use Rattle.cutting.proofs.thin.name_groups.Goals as goal

-- the record space, at nought
abbrev space₀ : List ℕ
space₀ = replicate (127 * entry_size) 0

pub finish-requires : goal.finish-requires
finish-requires c =
    let a = c.args in
    let w = held a.table.now in record {
      small = c.requires;
      begun = subst (Begun a.counts.bones w a.counts.k (replicate 128 0) space₀) (sym c.empty.ensures)
          (none_begun a.counts.bones w a.counts.k space₀ (omega arith) (omega arith) (omega arith) (replicate 128 0) (length-replicate {A = ℕ} 128 0) (heap_start 128) (omega (arith, length-replicate {A = ℕ} (127 * entry_size) 0)));
    }

pub returns : goal.returns
returns c =
    let a = c.args in
    let f = c.finish in
    ended_named a.counts.bones (held a.table.now) a.counts.k space₀ (omega arith) _ _ _
    (subst (λ (m : ℕ). Ended a.counts.bones (held a.table.now) a.counts.k space₀ m f.new.names f.new.space f.result.cuts) c.empty.ensures f.ensures)
