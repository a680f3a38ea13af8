-- The loop of `kinds::each_cut`: the lines of the entries passed stand at the place, and the others are still to come.
use Rattle.std.proofs.Common.{◌≡◌, ◌+◌, ◌*◌, ◌/◌, ◌≤◌, length, drop}
use Rattle.meaning.specs.Room.{over}
use Rattle.cutting.specs.Record.{entry_size}
use Rattle.frames.specs.Frame.{line_size}
use Rattle.texts.specs.Kinds.{cut_lines}
use Rattle.texts.proofs.kinds.each_cut.Given as goal

abbrev pub invariant-loop-entry : goal.invariant-loop-entry
invariant-loop-entry l =
    (l.entry-iterator.size ≡ entry_size)
    × (l.entry-iterator.rest.now ≡ drop (entry_size * length l.yielded) l.bytes)
    × (length l.yielded ≤ length l.bytes / entry_size)
    × (l.next ≡ l.at + line_size 3 * length l.yielded)
    × (l.room ≡ over l.initial.room l.at (cut_lines (length l.yielded) l.bytes))
