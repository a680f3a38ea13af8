-- `cutting::judging::replay` meets its contract. The invariant: the record's refusal and the heap that it leaves are those of the entries
-- from i on, in the heap as it stands. Assumes nothing.
use mathlib.Core.Path.{sym, ◌∙◌, ap}
use native.Mathlib.Omega.{arith}
use mathlib.Core.List.{List}
use Rattle.meaning.specs.Judge.{first}
use Rattle.meaning.specs.Heap.{Cut, left}
use Rattle.weighing.specs.Side.{heap_of}
use Rattle.links.specs.Table.{held}
use Rattle.links.proofs.LinksRows.{never_both}
use Rattle.cutting.specs.RecordRows.{entries_rows}
use Rattle.cutting.proofs.Cuts.{cuts_start, cuts_next, cuts_end}
use Rattle.cutting.proofs.Parting.{parted-names}
use Rattle.cutting.proofs.Narrow.{narrow_at}
use Rattle.cutting.proofs.Lawful.{entries_next, entries_halt, entries_none, left_next, left_none}
use Rattle.cutting.proofs.Answers.{handed_on}
use Rattle.cutting.proofs.judging.replay.Goals as goal

pub loop-i-init : goal.loop-i-init
loop-i-init c =
    let a = c.args in
    let all = cuts_start a.entries.now in (
      ap (λ (cs : List Cut). first (entries_rows a.n (held a.table.now) a.k (heap_of a.names.now) 0 cs)) all,
      ap (left a.n (heap_of a.names.now)) all,
      omega arith,
    )

pub returns-in_err-judge : goal.returns-in_err-judge
returns-in_err-judge c =
    let handed = handed_on c.from_residual.result _ c.from_residual.ensures.1 in
    let head = c.loop-i in
    let halt = entries_halt _ _ _ _ _ _ (cuts_next c.args.entries.now head.i (omega arith) c.read-entry.ensures) head.i _ (sym c.judge.ensures ∙ c.in_err-judge.was) in
    record {
      judged = handed ∙ sym (head.invariant.0 ∙ halt);
      heap_left = λ e. absurd (never_both c.from_residual.result _ e handed);
      long = head.invariant.2;
    }

pub loop-i-preserved : goal.loop-i-preserved
loop-i-preserved c =
    let head = c.loop-i in
    let next = cuts_next c.args.entries.now head.i (omega arith) c.read-entry.ensures in
    let new = parted-names c.args.n head.names _ c.requires.0 head.invariant.2 (narrow_at c.args.entries.now head.i c.read-entry.ensures) c.part.ensures.names_after in (
      head.invariant.0 ∙ entries_next _ _ _ _ _ _ next _ head.i new.0 (sym c.judge.ensures ∙ c.in_ok-judge.was),
      head.invariant.1 ∙ left_next _ (held c.args.table.now) 0 _ _ _ next _ new.0,
      new.1,
    )

pub returns : goal.returns
returns c =
    let head = c.loop-i in
    let end = cuts_end c.args.entries.now head.i (omega arith) in
    record {
      judged = sym (head.invariant.0 ∙ entries_none _ _ _ _ _ end);
      heap_left = λ e. sym (head.invariant.1 ∙ left_none _ _ end);
      long = head.invariant.2;
    }
