-- `cutting::group::grouping` meets its contract. Assumes nothing.
use Rattle.std.proofs.Common.{sym, ◌∙◌}
use Rattle.cutting.proofs.Answers.{handed_on, grouped_refused}
use Rattle.cutting.proofs.Carried.{grouping_stop}
use Rattle.cutting.proofs.Judged.{filled_with, grouping_filled}
use Rattle.cutting.proofs.group.grouping.Goals as goal

pub returns-in_err-fill : goal.returns-in_err-fill
returns-in_err-fill g c =
    grouped_refused _ _ _ _ _ _ (handed_on c.from_residual.result _ c.from_residual.ensures.1) (grouping_stop c.args.n c.args.k _ _ _ _ _ _ (sym c.fill.ensures.value ∙ c.in_err-fill.was)) _

pub group_table-requires : goal.group_table-requires
group_table-requires g c = (filled_with c.fill.ensures.value c.in_ok-fill.was c.fill.ensures.table_after c.fill.ensures.tallies).small

pub returns : goal.returns
returns g c =
    grouping_filled (filled_with c.fill.ensures.value c.in_ok-fill.was c.fill.ensures.table_after c.fill.ensures.tallies) c.group_table.ensures
