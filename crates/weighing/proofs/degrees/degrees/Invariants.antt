use Rattle.links.specs.Table.{held}
use Rattle.weighing.specs.Side.{heap_of}
use Rattle.weighing.specs.Degrees.{Noted}
use Rattle.weighing.proofs.degrees.degrees.Given as goal

abbrev pub invariant-loop-i : goal.invariant-loop-i
invariant-loop-i l = Noted l.i (held l.table) (heap_of l.names) l.degrees
