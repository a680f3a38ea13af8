use Rattle.std.proofs.Common.{◌≡◌, ◌*◌}
use Rattle.weighing.specs.Side.{heap_of, side_of}
use Rattle.cutting.specs.Names.{names, renamed_in}
use Rattle.cutting.proofs.heap.part.Given as goal

-- the bones of the bytes passed have their names
abbrev pub invariant-loop-byte : goal.invariant-loop-byte
invariant-loop-byte l = l.names ≡ names 128 (renamed_in 0 (l.byte * 8) (side_of l.fn.entry.side) l.name (heap_of l.fn.names))
