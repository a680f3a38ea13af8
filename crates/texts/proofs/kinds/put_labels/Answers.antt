-- `kinds::put_labels` meets its contract. Assumes nothing.
use Rattle.std.proofs.Common.{ℕ, min, ap, ◌∙◌, arith}
use Rattle.meaning.specs.Room.{over}
use Rattle.weighing.specs.Side.{heap_of}
use Rattle.frames.proofs.Places.{puts_short, puts_whole}
use Rattle.texts.specs.Kinds.{label_lines}
use Rattle.texts.proofs.WritesLines.{length_labels}
use Rattle.texts.proofs.kinds.put_labels.Goals as goal

pub returns-then-room-at : goal.returns-then-room-at
returns-then-room-at c =
    let a = c.args in
    let long = length_labels (min a.n 128) (heap_of a.names.now) in
    let few = c.min-bones.ensures in
    puts_short a.room.now a.at (label_lines (min a.n 128) (heap_of a.names.now)) (grind arith)

pub returns : goal.returns
returns c =
    let a = c.args in
    let few = c.min-bones.ensures in
    let long = length_labels (min a.n 128) (heap_of a.names.now) in
    puts_whole a.room.now a.at (label_lines (min a.n 128) (heap_of a.names.now)) _ _
    (omega arith) (omega (arith, c.each_label.ensures.0))
    (c.each_label.ensures.1 ∙ ap (λ (m : ℕ). over a.room.now a.at (label_lines m (heap_of a.names.now))) few)
