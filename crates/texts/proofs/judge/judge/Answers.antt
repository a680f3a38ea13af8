-- `judge::judge` meets its contract: behind the lines, the tests that led to a return are those of the rows. The answers name no test, so that a wrong order
-- of the rows is refused for what it answers. Assumes nothing.
use Rattle.std.proofs.Common.{sym, ◌∙◌, arith}
use Rattle.std.proofs.lemmas.Bool.Decides.{nat_tests}
use Rattle.std.proofs.lemmas.Result.{err_from_is_err_and}
use Rattle.meaning.specs.Judge.{answered, refuse, first}
use Rattle.texts.proofs.Rows.{answered_refused, told_refused}
use Rattle.texts.proofs.ReadsRows.{counts, long-text, by-line, Found, found}
use Rattle.texts.proofs.judge.judge.Goals as goal
use Rattle.texts.proofs.judge.judge.Goals.{In_ok-found}

pub returns-then-text-gt65536 : goal.returns-then-text-gt65536
returns-then-text-gt65536 c = rw c.at.ensures (sym (answered_refused _ (long-text c.args.text.now c.args.lent c.args.room (omega arith))))

pub returns-in_err-found : goal.returns-in_err-found
returns-in_err-found c =
    let p = err_from_is_err_and c.from_residual.result c.from_residual.ensures.1 in
    let refused = told_refused _ _ _ (sym c.in_err-found.was ∙ c.judge_lines.ensures) in
    rw (p.1, p.2) (sym (answered_refused _ (by-line c.args.text.now c.args.lent c.args.room (omega arith) _ refused)))

-- behind the lines what was found is what the text holds, and the rows that are left are those of the counts
found_here : (c : In_ok-found) → Found c.args.text.now c.args.lent c.args.room c.in_ok-found.found
found_here c = found c.args.text.now c.args.lent c.args.room c.in_ok-found.found (omega arith) (sym c.in_ok-found.was ∙ c.judge_lines.ensures)

pub returns-then-found-gt4096 : goal.returns-then-found-gt4096
unfolding counts refuse first answered
returns-then-found-gt4096 c =
    grind (arith, nat_tests, (found_here (goal.at.returns-then-found-gt4096 c).In_ok-found).rows)

pub returns-then-found-gt127 : goal.returns-then-found-gt127
unfolding counts refuse first answered
returns-then-found-gt127 c =
    grind (arith, nat_tests, (found_here (goal.at.returns-then-found-gt127 c).In_ok-found).rows)

pub returns-then-lent-found : goal.returns-then-lent-found
unfolding counts refuse first answered
returns-then-lent-found c =
    grind (arith, nat_tests, (found_here (goal.at.returns-then-lent-found c).In_ok-found).rows)

pub returns-then-room-found : goal.returns-then-room-found
unfolding counts refuse first answered
returns-then-room-found c =
    grind (arith, nat_tests, (found_here (goal.at.returns-then-room-found c).In_ok-found).rows)

pub returns : goal.returns
unfolding counts refuse first answered
returns c =
    grind (arith, nat_tests, (found_here (goal.at.returns c).In_ok-found).rows)
