-- `input::begin` meets its contract: where row 9 or 20 refuses, nothing is written. Assumes nothing.
use Rattle.std.proofs.Common.{length, sym, ◌∙◌, arith}
use Rattle.std.proofs.lemmas.Result.{err_from_is_err_and}
use Rattle.texts.proofs.WritesRows.{later_accepted, surrounds_refused, surrounds_whole}
use Rattle.texts.proofs.input.begin.Goals as goal

pub returns-in_err-judge_later : goal.returns-in_err-judge_later
returns-in_err-judge_later c =
    let p = err_from_is_err_and c.from_residual.result c.from_residual.ensures.1 in
    rw (p.1, p.2) (surrounds_refused c.args.n c.args.k c.args.count c.args.bytes.now c.args.text.now (sym c.judge_later.ensures ∙ c.in_err-judge_later.was))

pub input_size-requires : goal.input_size-requires
input_size-requires c =
    let later = later_accepted c.args.n c.args.count c.args.bytes.now (length c.args.text.now) (sym c.judge_later.ensures ∙ c.in_ok-judge_later.was) in
    (c.requires.links, omega (arith, c.requires.bones, later.cuts))

pub overflow_cast-result : goal.overflow_cast-result
overflow_cast-result c =
    let later = later_accepted c.args.n c.args.count c.args.bytes.now (length c.args.text.now) (sym c.judge_later.ensures ∙ c.in_ok-judge_later.was) in
    omega (arith, c.input_size.ensures, c.requires.links, c.requires.bones, later.cuts)

pub returns : goal.returns
returns c =
    surrounds_whole c.args.n c.args.k c.args.count c.args.bytes.now c.args.text.now _ _
    (sym c.judge_later.ensures ∙ c.in_ok-judge_later.was) c.input_size.ensures c.put_around.ensures
