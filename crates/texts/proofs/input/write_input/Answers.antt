-- `input::write_input` meets its contract: the links are judged, then the frames around them are written, and then the links. Assumes nothing.
use Rattle.std.proofs.Common.{sym, ◌∙◌, arith, length-take}
use Rattle.std.proofs.lemmas.Result.{err_from_is_err_and}
use Rattle.texts.proofs.WritesInput.{input_refused, counts, later_refused, links_fit, input_done}
use Rattle.texts.proofs.input.write_input.Goals as goal

pub returns-in_err-judge_records : goal.returns-in_err-judge_records
returns-in_err-judge_records c =
    let p = err_from_is_err_and c.from_residual.result c.from_residual.ensures.1 in
    rw (p.1, p.2) (input_refused c.args.n c.args.k c.args.links.now c.args.bytes.now c.args.text.now _ (sym c.judge_records.ensures ∙ c.in_err-judge_records.was))

pub begin-requires : goal.begin-requires
begin-requires c = counts c.args.n c.args.k c.args.links.now c.args.bytes.now c.args.text.now (sym c.judge_records.ensures ∙ c.in_ok-judge_records.was)

pub returns-in_err-length : goal.returns-in_err-length
returns-in_err-length c =
    let p = err_from_is_err_and c.from_residual-in_err-length.result c.from_residual-in_err-length.ensures.1 in
    rw (p.1, p.2)
    (later_refused c.args.n c.args.k c.args.links.now c.args.bytes.now c.args.text.now (sym c.judge_records.ensures ∙ c.in_ok-judge_records.was)
    c.begin.new.text c.begin.result c.begin.ensures _ c.in_err-length.was)

pub put_links-requires : goal.put_links-requires
put_links-requires c =
    let room =
    links_fit c.args.n c.args.k c.args.links.now c.args.bytes.now c.args.text.now (sym c.judge_records.ensures ∙ c.in_ok-judge_records.was)
    c.begin.new.text c.begin.result c.begin.ensures _ c.in_ok-length.was
    in
    grind (arith, length-take, room)

pub returns : goal.returns
returns c =
    input_done c.args.n c.args.k c.args.links.now c.args.bytes.now c.args.text.now (sym c.judge_records.ensures ∙ c.in_ok-judge_records.was)
    c.begin.new.text c.begin.result c.begin.ensures _ c.in_ok-length.was _ c.put_links.ensures
