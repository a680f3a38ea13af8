-- `weighing::list::Blocks::merge` meets its contract: the bones in the places from j on are merged.
-- Assumes nothing.
use Rattle.std.proofs.Common.{◌≡◌, ◌+◌, ◌-◌, le_refl, arith}
use Rattle.weighing.specs.Merge.{Merges}
use Rattle.weighing.proofs.Rows.{grouped_at}
use Rattle.weighing.proofs.list.Blocks.merge.Goals as goal

pub loop-j-init : goal.loop-j-init
loop-j-init c = (c.requires.0, le_refl _, Merges.none)

pub row_at-requires : goal.row_at-requires
row_at-requires c = grouped_at c.requires.1 (c.requires.2 _ (omega arith) (omega arith)) (omega arith)

pub loop-j-preserved : goal.loop-j-preserved
loop-j-preserved c =
    let last : c.loop-j.j ≡ c.loop-j.j - 1 + 1 = omega arith in
    (omega arith, omega arith, Merges.more (rw last at c.loop-j.invariant.2) c.row_at.ensures)
