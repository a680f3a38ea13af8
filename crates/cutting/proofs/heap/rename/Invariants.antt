use Rattle.std.proofs.Common.{◌≡◌, ◌*◌}
use Rattle.weighing.specs.Side.{heap_of, side_of}
use Rattle.cutting.specs.Names.{names, renamed_in}
use Rattle.cutting.proofs.heap.rename.Given as goal

-- the bones below b have their names
abbrev pub invariant-loop-b : goal.invariant-loop-b
invariant-loop-b l = l.names ≡ names 128 (renamed_in (l.fn.byte * 8) l.b (side_of l.fn.side) l.fn.name (heap_of l.fn.names))
