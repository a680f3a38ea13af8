-- `cutting::group::group_table` meets its contract. Assumes nothing.
use Rattle.std.proofs.Common.{rules, ◌≡◌, true, Ok, Err, sym, ◌∙◌, ap, arith}
use Rattle.meaning.specs.Judge.{Accepted, first}
use Rattle.links.specs.Links.{count_rows}
use Rattle.links.proofs.LinksRows.{Counted, counts_accepted, first_accepted, first-refused}
use Rattle.cutting.proofs.Lawful.{few_rows}
use Rattle.cutting.proofs.Parting.{judged_names}
use Rattle.cutting.proofs.Answers.{handed_on, label_short, label_fits, space_short, space_fits, grouped_refused, grouped_accepted}
use Rattle.cutting.proofs.group.group_table.Goals as goal

pub returns-in_err-judge_counts : goal.returns-in_err-judge_counts
returns-in_err-judge_counts c =
    grouped_refused _ _ _ _ _ _ (handed_on c.from_residual.result _ c.from_residual.ensures.1) (first-refused _ _ _ (sym c.judge_counts.ensures ∙ c.in_err-judge_counts.was)) _

pub returns-then-labels-counts : goal.returns-then-labels-counts
returns-then-labels-counts c =
    grouped_refused _ _ _ _ _ _ (ap Err c.at.ensures) (first_accepted _ _ (sym c.judge_counts.ensures ∙ c.in_ok-judge_counts.was) ∙ label_short _ _ _ c.if-labels-counts.true) _

pub overflow_sub-counts : goal.overflow_sub-counts
overflow_sub-counts c = omega (arith, (counts_accepted c.args.n c.args.k true 0 (sym c.judge_counts.ensures ∙ c.in_ok-judge_counts.was)).some_bones)

pub overflow_mul-counts : goal.overflow_mul-counts
overflow_mul-counts c =
    let few = (counts_accepted c.args.n c.args.k true 0 (sym c.judge_counts.ensures ∙ c.in_ok-judge_counts.was)).few_bones in
    search (rules, few)

pub returns-then-space-counts : goal.returns-then-space-counts
returns-then-space-counts c =
    grouped_refused _ _ _ _ _ _ (ap Err c.at-then-space-counts.ensures)
    (first_accepted _ _ (sym c.judge_counts.ensures ∙ c.in_ok-judge_counts.was) ∙ label_fits _ _ _ c.if-labels-counts.false ∙ space_short _ _ _ c.if-space-counts.true) _

pub returns-in_err-judge_record : goal.returns-in_err-judge_record
returns-in_err-judge_record c =
    let accepted : first (count_rows c.args.n c.args.k true 0) ≡ Accepted = sym c.judge_counts.ensures ∙ c.in_ok-judge_counts.was in
    let judged = few_rows _ _ _ _ (counts_accepted _ _ _ _ accepted).few_bones c.judge_record.ensures.value in
    grouped_refused _ _ _ _ _ _ (handed_on c.from_residual-in_err-judge_record.result _ c.from_residual-in_err-judge_record.ensures.1)
    (first_accepted _ _ accepted ∙ label_fits _ _ _ c.if-labels-counts.false ∙ space_fits _ _ _ c.if-space-counts.false ∙ sym judged ∙ c.in_err-judge_record.was) _

pub complete-requires : goal.complete-requires
complete-requires c =
    let a = c.args in
    let counts : Counted a.n a.k true 0 = counts_accepted _ _ _ _ (sym c.judge_counts.ensures ∙ c.in_ok-judge_counts.was) in
    let judged = few_rows _ _ _ _ counts.few_bones c.judge_record.ensures.value in
    let left = judged_names a.n a.entries.now _ counts.few_bones c.in_ok-judge_record.was c.judge_record.ensures.names_after in
    record {
      room = c.if-space-counts.false;
      small = c.requires;
      entries_value = (sym judged ∙ c.in_ok-judge_record.was, left.0);
    }

pub invariant_of-counts : goal.invariant_of-counts
invariant_of-counts c =
    let counted = counts_accepted c.args.n c.args.k true 0 (sym c.judge_counts.ensures ∙ c.in_ok-judge_counts.was) in
    record { some_bones = counted.some_bones; few_bones = counted.few_bones; low_threshold = counted.low_threshold }

pub returns : goal.returns
returns c =
    let accepted : first (count_rows c.args.n c.args.k true 0) ≡ Accepted = sym c.judge_counts.ensures ∙ c.in_ok-judge_counts.was in
    let judged = few_rows _ _ _ _ (counts_accepted _ _ _ _ accepted).few_bones c.judge_record.ensures.value in
    let done = c.complete.ensures in
    grouped_accepted _ _ _ _ _ _ _
    (first_accepted _ _ accepted ∙ label_fits _ _ _ c.if-labels-counts.false ∙ space_fits _ _ _ c.if-space-counts.false ∙ sym judged ∙ c.in_ok-judge_record.was)
    _ _ _ (ap Ok done.value) c.if-labels-counts.false done.labels_after done.continued
