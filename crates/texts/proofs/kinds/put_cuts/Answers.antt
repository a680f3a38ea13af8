-- `kinds::put_cuts` meets its contract. Assumes nothing.
use Rattle.std.proofs.Common.{◌/◌, length, arith}
use Rattle.cutting.specs.Record.{entry_size}
use Rattle.frames.proofs.Places.{puts_short, puts_whole}
use Rattle.texts.specs.Kinds.{cut_lines}
use Rattle.texts.proofs.WritesLines.{length_cuts}
use Rattle.texts.proofs.kinds.put_cuts.Goals as goal

pub returns-then-room-at : goal.returns-then-room-at
returns-then-room-at c =
    let a = c.args in
    let cuts = length a.bytes.now / entry_size in
    let long = length_cuts cuts a.bytes.now (omega arith) in
    puts_short a.room.now a.at (cut_lines cuts a.bytes.now) (grind arith)

pub returns : goal.returns
returns c =
    let a = c.args in
    let cuts = length a.bytes.now / entry_size in
    let long = length_cuts cuts a.bytes.now (omega arith) in
    puts_whole a.room.now a.at (cut_lines cuts a.bytes.now) _ _ (omega arith) (omega (arith, c.each_cut.ensures.value)) c.each_cut.ensures.room_after
