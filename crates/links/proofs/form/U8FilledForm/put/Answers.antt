-- `put` of links as bytes meets its contract, by whether the room takes one link more. Assumes nothing.
use Rattle.std.proofs.Common.{◌≡◌, ◌+◌, ◌-◌, ◌*◌, ◌/◌, ◌%◌, length, ap, ◌∙◌, arith}
use Rattle.links.proofs.FormFront.{long, bytes_next, bytes_full}
use Rattle.links.proofs.form.U8FilledForm.put.Goals as goal

pub returns-then-i-room : goal.returns-then-i-room
returns-then-i-room c = λ was ls e f.
    let room : length c.args.room.now ≡ length was = ap length f ∙ long was ls c.args.l in
    let high : c.args.l.tally / 256 % 256 ≡ c.args.l.tally / 256 = omega arith in
    let four : c.args.i * 4 + 4 - c.args.i * 4 ≡ 4 = omega arith in
    rw (four, c.copy_from_slice.ensures.after, c.to_be_bytes.ensures, high, f, ← e) (bytes_next was ls c.args.l (omega (arith, room, e, c.if-i-room.true)))

pub returns-else-i-room : goal.returns-else-i-room
returns-else-i-room c = λ was ls e f.
    let room : length c.args.room.now ≡ length was = ap length f ∙ long was ls c.args.l in
    f ∙ bytes_full was ls c.args.l (omega (arith, room, e, c.if-i-room.false))
