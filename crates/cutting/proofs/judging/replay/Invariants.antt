use Prim.Native.Nat.{◌*◌, ◌/◌, ◌-◌}
use mathlib.Core.Path.{◌≡◌}
use lib.ListN.{length, drop}
use Rattle.meaning.specs.Judge.{first}
use Rattle.meaning.specs.Heap.{left}
use Rattle.weighing.specs.Side.{heap_of}
use Rattle.links.specs.Table.{held}
use Rattle.cutting.specs.Record.{entry_size, cuts_in, cuts_of}
use Rattle.cutting.specs.RecordRows.{entries_rows}
use Rattle.cutting.proofs.judging.replay.Given as goal

abbrev pub invariant-loop-i : goal.invariant-loop-i
invariant-loop-i l =
    (first (entries_rows l.fn.n (held l.fn.table) l.fn.k (heap_of l.fn.names) 0 (cuts_of l.fn.entries)) ≡ first (entries_rows l.fn.n (held l.fn.table) l.fn.k (heap_of l.names) l.i (cuts_in (length l.fn.entries / entry_size - l.i) (drop (l.i * entry_size) l.fn.entries))))
    × (left l.fn.n (heap_of l.fn.names) (cuts_of l.fn.entries) ≡ left l.fn.n (heap_of l.names) (cuts_in (length l.fn.entries / entry_size - l.i) (drop (l.i * entry_size) l.fn.entries)))
    × (length l.names ≡ 128)
