-- `cutting::check::check_table` meets its contract. Assumes nothing.
use Rattle.std.proofs.Common.{◌≡◌, true, Ok, Err, sym, ◌∙◌, ap}
use Rattle.meaning.specs.Judge.{Accepted, first}
use Rattle.links.specs.Links.{count_rows}
use Rattle.links.proofs.LinksRows.{Counted, counts_accepted, first_accepted, first-refused}
use Rattle.cutting.proofs.Lawful.{few_rows}
use Rattle.cutting.proofs.Parting.{judged_names}
use Rattle.cutting.proofs.Answers.{handed_on, label_short, label_fits, checked_refused, checked_accepted}
use Rattle.cutting.proofs.check.check_table.Goals as goal

pub returns-in_err-judge_counts : goal.returns-in_err-judge_counts
returns-in_err-judge_counts c =
    checked_refused _ _ _ _ _ _ (handed_on c.from_residual.result _ c.from_residual.ensures.1) (first-refused _ _ _ (sym c.judge_counts.ensures ∙ c.in_err-judge_counts.was))

pub returns-then-labels-counts : goal.returns-then-labels-counts
returns-then-labels-counts c =
    checked_refused _ _ _ _ _ _ (ap Err c.at.ensures) (first_accepted _ _ (sym c.judge_counts.ensures ∙ c.in_ok-judge_counts.was) ∙ label_short _ _ _ c.if-labels-counts.true)

pub returns-in_err-judge_record : goal.returns-in_err-judge_record
returns-in_err-judge_record c =
    let accepted : first (count_rows c.args.n c.args.k true 0) ≡ Accepted = sym c.judge_counts.ensures ∙ c.in_ok-judge_counts.was in
    let judged = few_rows _ _ _ _ (counts_accepted _ _ _ _ accepted).few_bones c.judge_record.ensures.value in
    checked_refused _ _ _ _ _ _ (handed_on c.from_residual-in_err-judge_record.result _ c.from_residual-in_err-judge_record.ensures.1)
    (first_accepted _ _ accepted ∙ label_fits _ _ _ c.if-labels-counts.false ∙ sym judged ∙ c.in_err-judge_record.was)

pub invariant_of-counts : goal.invariant_of-counts
invariant_of-counts c =
    let counted = counts_accepted c.args.n c.args.k true 0 (sym c.judge_counts.ensures ∙ c.in_ok-judge_counts.was) in
    record { some_bones = counted.some_bones; few_bones = counted.few_bones; low_threshold = counted.low_threshold }

pub returns : goal.returns
returns c =
    let a = c.args in
    let accepted : first (count_rows a.n a.k true 0) ≡ Accepted = sym c.judge_counts.ensures ∙ c.in_ok-judge_counts.was in
    let counted : Counted a.n a.k true 0 = counts_accepted _ _ _ _ accepted in
    let judged = few_rows _ _ _ _ counted.few_bones c.judge_record.ensures.value in
    let left = judged_names a.n a.entries.now _ counted.few_bones c.in_ok-judge_record.was c.judge_record.ensures.names_after in
    checked_accepted _ _ _ _ _ _ _ (first_accepted _ _ accepted ∙ label_fits _ _ _ c.if-labels-counts.false ∙ sym judged ∙ c.in_ok-judge_record.was) _ _ left.0
    (ap Ok c.tell_piles.ensures.value) c.if-labels-counts.false c.tell_piles.ensures.labels_after
