-- `weighing::list::Blocks::undo` meets its contract: the merges of the places from j on are those that are left.
-- Assumes nothing.
use Rattle.std.proofs.Common.{get_or, le_refl, arith}
use Rattle.weighing.specs.Lists.{listed}
use Rattle.weighing.proofs.Rows.{grouped_at, merges_back, merges_none, row_back}
use Rattle.weighing.proofs.list.Blocks.undo.Goals as goal

pub loop-j-init : goal.loop-j-init
loop-j-init c = (le_refl _, c.requires.few, λ t m. m)

pub row_at-requires : goal.row_at-requires
row_at-requires c = grouped_at c.requires.once (c.requires.folded c.loop-j.j (omega arith) (omega arith)) (omega arith)

pub loop-j-preserved : goal.loop-j-preserved
loop-j-preserved c =
    let b = c.args.self.now in
    let place = grouped_at {b = b} c.requires.once (c.requires.folded c.loop-j.j (omega arith) (omega arith)) (omega arith) in (
      omega arith,
      omega arith,
      λ t m. merges_back (c.loop-j.invariant.2 t m) (omega arith) (λ t' put. row_back (listed b.list (get_or b.start c.loop-j.j 0)) place.head_low place.bone_low place.apart put c.row_at.ensures),
    )

pub returns : goal.returns
returns c = λ t m. merges_none (c.loop-j.invariant.2 t m) (omega arith)
