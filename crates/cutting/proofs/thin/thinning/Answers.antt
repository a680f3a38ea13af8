-- `cutting::thin::thinning` meets its contract. Assumes nothing.
use Rattle.std.proofs.Common.{Err, sym, ◌∙◌, ap, arith}
use Rattle.links.proofs.RecordsKept.{kept_few}
use Rattle.links.proofs.LinksRows.{table_counted}
use Rattle.cutting.proofs.Judged.{filled_with}
use Rattle.cutting.proofs.Keeping.{links_short, thinning_core, thinning_stop, thinning_filled, thins_refused}
use Rattle.cutting.proofs.Answers.{handed_on}
use Rattle.cutting.proofs.thin.thinning.Goals as goal

pub returns-in_err-fill : goal.returns-in_err-fill
returns-in_err-fill g c =
    thins_refused _ _ _ _ _ _ _ (handed_on c.from_residual.result _ c.from_residual.ensures.1) (thinning_stop c.args.n c.args.k _ _ _ _ (sym c.fill.ensures.value ∙ c.in_err-fill.was))

pub returns-then-count : goal.returns-then-count
returns-then-count g c =
    let f = filled_with c.fill.ensures.value c.in_ok-fill.was c.fill.ensures.table_after c.fill.ensures.tallies in
    thins_refused _ _ _ _ _ _ _ (ap Err c.at.ensures)
    (sym (thinning_core c.args.n c.args.k _ _ _ f.accepted) ∙ links_short _ _ (rw (← c.count.ensures, ← c.count-2.ensures) c.if-count.true))

pub name_groups-names-requires : goal.name_groups-names-requires
name_groups-names-requires g c = (filled_with c.fill.ensures.value c.in_ok-fill.was c.fill.ensures.table_after c.fill.ensures.tallies).small

pub invariant_of-counts : goal.invariant_of-counts
invariant_of-counts g c =
    let f = filled_with c.fill.ensures.value c.in_ok-fill.was c.fill.ensures.table_after c.fill.ensures.tallies in
    let counted = table_counted _ _ _ _ f.accepted in
    record { some_bones = counted.some_bones; few_bones = counted.few_bones; low_threshold = omega (arith, counted.low_threshold) }

pub overflow_cast-result : goal.overflow_cast-result
overflow_cast-result g c =
    let f = filled_with c.fill.ensures.value c.in_ok-fill.was c.fill.ensures.table_after c.fill.ensures.tallies in
    omega (arith, c.keep_links.ensures.0, kept_few c.name_groups-names.result (g.L.LinkForm.links_in c.args.links.now), (table_counted _ _ _ _ f.accepted).few_links)

pub returns : goal.returns
returns g c =
    let f = filled_with c.fill.ensures.value c.in_ok-fill.was c.fill.ensures.table_after c.fill.ensures.tallies in
    thinning_filled g.L.LinkForm.links_in g.L.LinkForm.are_whole g.L.LinkForm.written c.name_groups-names.result f c.name_groups-names.ensures
    (rw (← c.count.ensures, ← c.count-2.ensures) c.if-count.false) c.keep_links.ensures
