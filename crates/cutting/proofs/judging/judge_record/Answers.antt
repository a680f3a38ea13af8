-- `cutting::judging::judge_record` meets its contract: row 9, and then the entries. Assumes nothing.
use Rattle.std.proofs.Common.{◌≡◌, ℕ, ◌-◌, ◌/◌, ◌%◌, ◌≤◌, min, List, length, replicate, refl, sym, ◌∙◌, ap, ap₂, arith}
use Rattle.std.proofs.lemmas.Bool.Decides.{nat_tests}
use Rattle.meaning.specs.Judge.{Judged, refuse, first}
use Rattle.meaning.specs.Tally.{Tally}
use Rattle.weighing.specs.Side.{heap_of}
use Rattle.meaning.specs.Heap.{Heap, left}
use Rattle.meaning.specs.Room.{settled}
use Rattle.meaning.proofs.Room.{settled_was}
use Rattle.cutting.specs.Record.{entry_size, cuts_of}
use Rattle.cutting.specs.RecordRows.{entries_rows, record_row, record_rows}
use Rattle.cutting.specs.Names.{names}
use Rattle.cutting.proofs.Lawful.{record_fits}
use Rattle.cutting.proofs.Parting.{heap_start}
use Rattle.cutting.proofs.Names.{names_of_heap}
use Rattle.cutting.proofs.Answers.{handed_on}
use Rattle.cutting.proofs.judging.judge_record.Goals as goal

-- what replaying gives are the rows of the record, where row 9 accepts
replayed_rows : (n : ℕ) (w : Tally) (k : ℕ) (bytes : List ℕ) {r : Judged} → length bytes / entry_size ≤ min n 128 - 1 → length bytes % entry_size ≡ 0
    → r ≡ first (entries_rows (min n 128) w k (heap_of (replicate 128 0)) 0 (cuts_of bytes)) → r ≡ first (record_rows (min n 128) w k bytes)
replayed_rows n w k bytes few whole e =
    e ∙ ap (λ (h : Heap). first (entries_rows (min n 128) w k h 0 (cuts_of bytes))) (heap_start 128) ∙ sym (record_fits (min n 128) w k bytes whole few)

pub returns-then-entries-ne0-clause-value : goal.returns-then-entries-ne0-clause-value
unfolding record_rows record_row refuse first
returns-then-entries-ne0-clause-value c = grind (arith, nat_tests)

pub returns-then-saturating_sub-within-clause-value : goal.returns-then-saturating_sub-within-clause-value
unfolding record_rows record_row refuse first
returns-then-saturating_sub-within-clause-value c = grind (arith, nat_tests)

pub returns-then-entries-ne0-clause-names_after : goal.returns-then-entries-ne0-clause-names_after
unfolding settled
returns-then-entries-ne0-clause-names_after c = refl

pub returns-then-saturating_sub-within-clause-names_after : goal.returns-then-saturating_sub-within-clause-names_after
unfolding settled
returns-then-saturating_sub-within-clause-names_after c = refl

pub replay-requires : goal.replay-requires
replay-requires c = (omega arith, omega (arith, c.if-saturating_sub-within.false, c.within.ensures))

pub returns-in_err-replay-clause-value : goal.returns-in_err-replay-clause-value
returns-in_err-replay-clause-value c =
    let few : length c.args.entries.now / entry_size ≤ min c.args.n 128 - 1 = omega (arith, c.if-saturating_sub-within.false, c.within.ensures, c.saturating_sub.ensures, c.min-bones.ensures) in
    handed_on c.from_residual.result _ c.from_residual.ensures.1
    ∙ replayed_rows c.args.n _ _ _ few c.if-entries-ne0.false (rw (← c.min-bones.ensures) (sym c.in_err-replay.was ∙ c.replay.ensures.judged))

pub returns-in_err-replay-clause-names_after : goal.returns-in_err-replay-clause-names_after
returns-in_err-replay-clause-names_after c =
    sym (settled_was _ _ (handed_on c.from_residual.result _ c.from_residual.ensures.1))

pub returns-clause-value : goal.returns-clause-value
returns-clause-value c =
    let few : length c.args.entries.now / entry_size ≤ min c.args.n 128 - 1 = omega (arith, c.if-saturating_sub-within.false, c.within.ensures, c.saturating_sub.ensures, c.min-bones.ensures) in
    replayed_rows c.args.n _ _ _ few c.if-entries-ne0.false (rw (← c.min-bones.ensures) (sym c.in_ok-replay.was ∙ c.replay.ensures.judged))

pub returns-clause-names_after : goal.returns-clause-names_after
unfolding settled
returns-clause-names_after c =
    let a = c.args in
    let r = c.replay.ensures in
    sym (names_of_heap 128 _ r.long)
    ∙ ap (names 128) (r.heap_left c.in_ok-replay.was ∙ ap₂ (λ (m : ℕ) (h : Heap). left m h (cuts_of a.entries.now)) c.min-bones.ensures (heap_start 128))
