-- `write::write_line` meets its contract. Assumes nothing.
use Rattle.std.proofs.Common.{arith}
use Rattle.std.proofs.lemmas.Grind.{common_steps}
use Rattle.frames.proofs.Writes.{length-line, line_made}
use Rattle.frames.proofs.write.write_line.Goals as goal

pub returns-clause-value : goal.returns-clause-value
returns-clause-value c = grind (arith, common_steps, length-line)

pub returns-clause-room_after : goal.returns-clause-room_after
returns-clause-room_after c =
    let sum = c.put_bytes-sum.ensures in
    line_made _ _ _ _ c.requires _ _ _ _ _ c.put_byte.ensures sum.value sum.room_after c.wrapping_neg.ensures (omega (arith, c.wrapping_neg.type_inv)) c.put_byte-2.ensures
