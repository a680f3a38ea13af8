-- `result::result_from` meets its contract. Assumes nothing.
use Rattle.std.proofs.Common.{length, sym, ◌∙◌, arith}
use Rattle.texts.specs.Writers.{result_text}
use Rattle.texts.proofs.Fronts.{writes_refused, writes_done, too_short, long_enough}
use Rattle.texts.proofs.WritesTexts.{length_result}
use Rattle.texts.proofs.result.result_from.Goals as goal

pub returns-then-room-length : goal.returns-then-room-length
returns-then-room-length c =
    let text = result_text c.args.n c.args.k c.args.bytes.now in
    let long = length_result c.args.n c.args.k c.args.bytes.now in
    writes_refused text c.args.room.now
    (rw c.at.ensures (too_short text (length c.args.room.now) (omega (arith, c.length_of-length.ensures, c.if-room-length.true))))

pub put_result-requires : goal.put_result-requires
put_result-requires c =
    record {
      named = c.requires;
      bytes_in_bounds = omega (arith, length_result c.args.n c.args.k c.args.bytes.now, c.length_of-length.ensures, c.if-room-length.false);
    }

pub returns : goal.returns
returns c =
    let text = result_text c.args.n c.args.k c.args.bytes.now in
    let long = length_result c.args.n c.args.k c.args.bytes.now in
    writes_done text c.args.room.now c.put_result.new.room c.length_of-length.result
    (long_enough text (length c.args.room.now) (omega (arith, c.length_of-length.ensures, c.if-room-length.false)))
    (c.length_of-length.ensures ∙ sym long)
    c.put_result.ensures
