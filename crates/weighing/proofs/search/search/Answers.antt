-- `weighing::search::search` meets its contract: piles before p are firm, and the pile p is cut into blocks that no light split parts.
-- Assumes nothing.
use Rattle.std.proofs.Common.{sym, ◌∙◌, arith, rules}
use Rattle.weighing.specs.Side.{heap_of}
use Rattle.weighing.proofs.Listing.{once_less}
use Rattle.weighing.proofs.Searching.{heads_fewer}
use Rattle.weighing.proofs.Finding.{piling_start, piling_skip, passing_start, passing_stacked, passing_laid, piling_next, searched, searched_none, passing_next}
use Rattle.weighing.proofs.search.search.Goals as goal

pub piles-init : goal.piles-init
unfolding heap_of
piles-init c = piling_start _ _ _ _ _ (omega arith) (omega arith)

pub returns-then-piles-p : goal.returns-then-piles-p
unfolding heap_of
returns-then-piles-p c =
    record {
      table_unchanged = c.piles.invariant.same;
      searched = rw (← c.new-piles.ensures.0, ← c.new-piles.ensures.1) (searched_none c.piles.invariant c.if-piles-p.true);
    }

pub piles-preserved-then-from-p : goal.piles-preserved-then-from-p
unfolding heap_of
piles-preserved-then-from-p c = piling_skip c.piles.invariant (λ q. c.if-from-p.true (c.from.ensures ∙ q))

pub passes-init : goal.passes-init
unfolding heap_of
passes-init c =
    let so = c.gather.ensures.once in
    passing_start c.piles.invariant (omega arith) (sym c.from.ensures ∙ c.if-from-p.false) so.0 so.2 c.gather.ensures.by_index

pub scan-requires : goal.scan-requires
unfolding heap_of
scan-requires c = search (rules, once_less)

pub merge-requires : goal.merge-requires
unfolding heap_of
merge-requires c = passing_laid c.passes.invariant c.scan.ensures c.in_default.is c.count_heads-heads.ensures c.lay.ensures

pub passes-smaller : goal.passes-smaller
unfolding heap_of
passes-smaller c = search (rules, heads_fewer)

pub passes-preserved : goal.passes-preserved
unfolding heap_of
passes-preserved c = passing_next c.passes.invariant c.scan.ensures c.in_default.is c.count_heads-heads.ensures c.lay.ensures c.merge.ensures.merged c.merge.ensures.fewer

pub undo-requires : goal.undo-requires
undo-requires c = passing_stacked c.passes.invariant

pub piles-preserved : goal.piles-preserved
unfolding heap_of
piles-preserved c =
    let i = c.passes.invariant in
    piling_next i c.scan.ensures c.piles.invariant c.in_default.is c.count_heads-heads.ensures c.if-heads-eq1.true (c.undo.ensures _ i.blocks.merges)

pub spread-marks-requires : goal.spread-marks-requires
unfolding heap_of
spread-marks-requires c =
    let taken = (rw c.in-Some.is at c.scan.ensures.found).1 in
    (once_less c.scan.ensures.ordered.once (omega arith), passing_stacked c.passes.invariant)

pub undo-requires-2 : goal.undo-requires-2
undo-requires-2 c = passing_stacked c.passes.invariant

pub returns : goal.returns
unfolding heap_of
returns c =
    let i = c.passes.invariant in
    record {
      table_unchanged = c.undo-2.ensures _ i.blocks.merges ∙ c.piles.invariant.same;
      searched = rw (← c.new-piles.ensures.0, ← c.new-piles.ensures.1) (searched i c.scan.ensures c.piles.invariant (sym c.from.ensures ∙ c.if-from-p.false) c.in-Some.is c.spread-marks.ensures c.side_of.result c.side_of.ensures);
    }
