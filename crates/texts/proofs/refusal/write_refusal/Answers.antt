-- `refusal::write_refusal` meets its contract. Assumes nothing.
use Rattle.std.proofs.Common.{◌≤◌, length, sym, arith}
use Rattle.frames.specs.Frame.{line_size}
use Rattle.frames.proofs.Places.{puts_fit}
use Rattle.texts.specs.Kinds.{refusal_line}
use Rattle.texts.proofs.Fronts.{writes_refused, writes_done, too_short, long_enough}
use Rattle.texts.proofs.WritesLines.{length_refusal}
use Rattle.texts.proofs.refusal.write_refusal.Goals as goal

pub returns-then-text-lt-REFUSAL_LINE : goal.returns-then-text-lt-REFUSAL_LINE
returns-then-text-lt-REFUSAL_LINE c =
    let line = refusal_line c.args.number c.args.place in
    writes_refused line c.args.text.now
    (rw c.at.ensures (too_short line (length c.args.text.now) (omega (arith, length_refusal c.args.number c.args.place, c.if-text-lt-REFUSAL_LINE.true))))

pub returns : goal.returns
returns c =
    let line = refusal_line c.args.number c.args.place in
    let text = c.args.text.now in
    let long = length_refusal c.args.number c.args.place in
    let fits : length line ≤ length text = omega (arith, c.if-text-lt-REFUSAL_LINE.false) in
    let put = puts_fit text 0 line _ _ (omega arith) c.put_refusal.ensures in
    writes_done line text c.put_refusal.new.room (line_size 7) (long_enough line (length text) fits) (sym long) put.1
