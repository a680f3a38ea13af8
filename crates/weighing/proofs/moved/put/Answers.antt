-- `weighing::moved::put` meets its contract: the bit was nought, so the byte has room for it.
-- Assumes nothing.
use Rattle.std.proofs.Common.{◌≡◌, ◌+◌, ◌*◌, ◌/◌, ◌%◌, ◌^◌, get_or, ◌∙◌, arith, length-set}
use Rattle.weighing.proofs.Moving.{off_bit, bit_room, pow_small, power, put_side}
use Rattle.weighing.proofs.moved.put.Goals as goal

pub overflow_add-side : goal.overflow_add-side
overflow_add-side c = let m = c.args.b % 8 in omega (arith, c.fits-side (c.args.b / 8), power m (omega arith), pow_small m (omega arith))

pub overflow_cast-side : goal.overflow_cast-side
overflow_cast-side c =
    let m = c.args.b % 8 in
    omega (arith, c.from-byte.ensures, power m (omega arith), bit_room c.from-byte.result m (omega arith) (omega arith) (rw c.from-byte.ensures (off_bit c.args.side.now c.args.b c.requires.1)))

pub returns : goal.returns
returns c =
    let a = c.args in
    let e : c.from-byte.result + 1 * 2 ^ (a.b % 8) % 2 ^ 64 ≡ get_or a.side.now (a.b / 8) 0 + 2 ^ (a.b % 8) = omega (arith, c.from-byte.ensures, power (a.b % 8) (omega arith)) in
    rw e (length-set a.side.now (a.b / 8) _ ∙ omega arith, put_side a.side.now a.b c.requires.0 (omega arith) (omega (arith, c.from-byte.ensures)) c.requires.1)
