use Rattle.links.specs.Table.{held}
use Rattle.weighing.specs.Piles.{heap}
use Rattle.weighing.specs.Degrees.{Notes, Lessened}
use Rattle.weighing.proofs.Noting.{lost_by}
use Rattle.weighing.proofs.degrees.leave_from.Given as goal

abbrev pub invariant-loop-b : goal.invariant-loop-b
invariant-loop-b l = Notes l.initial.degrees → Lessened (lost_by l.b l.piles.bones (held l.table) (heap l.piles) l.x l.y) l.initial.degrees l.degrees
