-- The loop of `kinds::each_label`: the labels of the bones passed stand at the place.
use Rattle.std.proofs.Common.{◌≡◌, ◌+◌, ◌*◌}
use Rattle.meaning.specs.Room.{over}
use Rattle.weighing.specs.Side.{heap_of}
use Rattle.frames.specs.Frame.{line_size}
use Rattle.texts.specs.Kinds.{label_lines}
use Rattle.texts.proofs.kinds.each_label.Given as goal

abbrev pub invariant-loop-bone : goal.invariant-loop-bone
invariant-loop-bone l =
    (l.next ≡ l.at + line_size 4 * l.bone)
    × (l.room ≡ over l.initial.room l.at (label_lines l.bone (heap_of l.names)))
