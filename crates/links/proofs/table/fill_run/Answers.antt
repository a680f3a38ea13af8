-- `links::table::fill_run` meets its contract: the links before the one that is refused are in the table, and none where row 1, 2 or 3 refuses. Assumes nothing.
use Rattle.std.proofs.Common.{arith, below_more}
use Rattle.std.proofs.lemmas.Result.{err_from_is_err_and}
use Rattle.links.specs.Forms.{no_link}
use Rattle.links.proofs.LinksRows.{counts_few}
use Rattle.links.proofs.TableAdds.{taken_none, refused_counts, refused_link, accepted_link, accepted_all}
use Rattle.links.proofs.table.fill_run.Goals as goal

pub returns-in_err-judge_counts-clause-value : goal.returns-in_err-judge_counts-clause-value
returns-in_err-judge_counts-clause-value g c =
    let p = err_from_is_err_and c.from_residual.result c.from_residual.ensures.1 in
    rw (p.1, p.2) (refused_counts _ _ _ _ c.args.table.now c.judge_counts.ensures c.is_whole.ensures c.count-count.ensures _ c.in_err-judge_counts.was).0

pub returns-in_err-judge_counts-clause-table_after : goal.returns-in_err-judge_counts-clause-table_after
returns-in_err-judge_counts-clause-table_after g c =
    let p = err_from_is_err_and c.from_residual.result c.from_residual.ensures.1 in
    rw (p.1, p.2) (refused_counts _ _ _ _ _ c.judge_counts.ensures c.is_whole.ensures c.count-count.ensures _ c.in_err-judge_counts.was).1

pub loop-i-init : goal.loop-i-init
loop-i-init g c = record { taken = taken_none _ _ _; short = λ j h. absurd (omega (arith, h)) }

pub overflow_cast-i : goal.overflow_cast-i
overflow_cast-i g c =
    let few = counts_few _ _ _ _ c.judge_counts.ensures c.is_whole.ensures c.count-count.ensures c.in_ok-judge_counts.was in
    omega (arith, few.few_links, c.count-count.ensures, c.loop-i-test.true)

pub returns-in_err-judge_link-clause-value : goal.returns-in_err-judge_link-clause-value
returns-in_err-judge_link-clause-value g c =
    let p = err_from_is_err_and c.from_residual-in_err-judge_link.result c.from_residual-in_err-judge_link.ensures.1 in
    rw (p.1, p.2) (refused_link _ _ _ _ _ c.judge_counts.ensures c.is_whole.ensures c.count-count.ensures c.in_ok-judge_counts.was _ c.loop-i.invariant.taken no_link c.loop-i-test.true c.link-l.ensures c.judge_link.ensures _ c.in_err-judge_link.was).0

pub returns-in_err-judge_link-clause-table_after : goal.returns-in_err-judge_link-clause-table_after
returns-in_err-judge_link-clause-table_after g c =
    let p = err_from_is_err_and c.from_residual-in_err-judge_link.result c.from_residual-in_err-judge_link.ensures.1 in
    rw (p.1, p.2) (refused_link _ _ _ _ _ c.judge_counts.ensures c.is_whole.ensures c.count-count.ensures c.in_ok-judge_counts.was _ c.loop-i.invariant.taken no_link c.loop-i-test.true c.link-l.ensures c.judge_link.ensures _ c.in_err-judge_link.was).1

pub loop-i-preserved : goal.loop-i-preserved
loop-i-preserved g c =
    record {
      taken = rw (c.add_within.ensures) (accepted_link _ _ _ _ _ c.judge_counts.ensures c.is_whole.ensures c.count-count.ensures c.in_ok-judge_counts.was _ c.loop-i.invariant.taken no_link c.loop-i-test.true c.link-l.ensures c.judge_link.ensures c.in_ok-judge_link.was);
      short = below_more _ _ c.loop-i.invariant.short (rw (← c.link-l.ensures) (omega arith));
    }

pub returns-clause-value : goal.returns-clause-value
returns-clause-value g c =
    (accepted_all _ _ _ _ _ c.judge_counts.ensures c.is_whole.ensures c.count-count.ensures c.in_ok-judge_counts.was _ c.loop-i.invariant.taken (omega (arith, c.loop-i-test.false))).0

pub returns-clause-table_after : goal.returns-clause-table_after
returns-clause-table_after g c =
    (accepted_all _ _ _ _ _ c.judge_counts.ensures c.is_whole.ensures c.count-count.ensures c.in_ok-judge_counts.was _ c.loop-i.invariant.taken (omega (arith, c.loop-i-test.false))).1
