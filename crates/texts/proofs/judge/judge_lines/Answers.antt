-- `judge::judge_lines` meets its contract. Assumes nothing.
use Rattle.std.proofs.Common.{drop, sym, ◌∙◌, arith, length-drop}
use Rattle.std.proofs.lemmas.Result.{err_from_is_err_and}
use Rattle.texts.proofs.Walks.{left_is}
use Rattle.texts.proofs.Judging.{row_16}
use Rattle.texts.proofs.Advances.{read_start, read_refused, read_open, read_end}
use Rattle.texts.proofs.judge.judge_lines.Goals as goal

pub loop-s-init : goal.loop-s-init
loop-s-init c = read_start c.args.text.now c.default-s.result c.requires c.default-s.ensures

pub returns-in_default : goal.returns-in_default
returns-in_default c =
    let text = c.args.text.now in
    let s = c.loop-s.s in
    rw c.at.ensures
    (sym (c.loop-s.invariant.1 ∙ read_refused s _ _ (row_16 (drop s.at text) s.stage s.line (omega (arith, length-drop s.at text)) (rw left_is at c.in_default.ensures))))

pub returns-in_err-judge_line : goal.returns-in_err-judge_line
returns-in_err-judge_line c =
    let p = err_from_is_err_and c.from_residual.result c.from_residual.ensures.1 in
    rw (p.1, p.2) (sym (c.loop-s.invariant.1 ∙ read_refused c.loop-s.s _ _ (rw left_is at c.in_err-judge_line.ensures)))

pub returns-then-is_open : goal.returns-then-is_open
returns-then-is_open c =
    rw c.at-then-is_open.ensures (sym (c.loop-s.invariant.1 ∙ read_open c.args.text.now c.loop-s.s (omega arith) (sym c.is_open.ensures ∙ c.if-is_open.true)))

pub advance-s-requires : goal.advance-s-requires
advance-s-requires c = record { small = c.loop-s.invariant.0; line = record { frame = rw left_is at c.in-Some.ensures; passes = rw left_is at c.in_ok-judge_line.ensures } }

pub loop-s-preserved : goal.loop-s-preserved
loop-s-preserved c = (c.advance-s.ensures.small, c.loop-s.invariant.1 ∙ c.advance-s.ensures.same)

pub returns : goal.returns
returns c = sym (c.loop-s.invariant.1 ∙ read_end c.args.text.now c.loop-s.s (omega arith) (sym c.is_open.ensures ∙ c.if-is_open.false))
