-- `cutting::check::checking` meets its contract. Assumes nothing.
use Rattle.std.proofs.Common.{sym, ◌∙◌}
use Rattle.cutting.proofs.Answers.{handed_on, checked_refused}
use Rattle.cutting.proofs.Carried.{checking_stop}
use Rattle.cutting.proofs.Judged.{filled_with, checking_filled}
use Rattle.cutting.proofs.check.checking.Goals as goal

pub returns-in_err-fill : goal.returns-in_err-fill
returns-in_err-fill g c =
    checked_refused _ _ _ _ _ _ (handed_on c.from_residual.result _ c.from_residual.ensures.1) (checking_stop c.args.n c.args.k _ _ _ _ _ (sym c.fill.ensures.value ∙ c.in_err-fill.was))

pub check_table-requires : goal.check_table-requires
check_table-requires g c = (filled_with c.fill.ensures.value c.in_ok-fill.was c.fill.ensures.table_after c.fill.ensures.tallies).small

pub returns : goal.returns
returns g c =
    checking_filled (filled_with c.fill.ensures.value c.in_ok-fill.was c.fill.ensures.table_after c.fill.ensures.tallies) c.check_table.ensures
