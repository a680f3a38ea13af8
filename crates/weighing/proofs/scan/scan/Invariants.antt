use Rattle.links.specs.Table.{held}
use Rattle.weighing.proofs.Scanning.{Scan}
use Rattle.weighing.proofs.scan.scan.Given as goal

abbrev pub invariant-loop-left : goal.invariant-loop-left
invariant-loop-left l = Scan (held l.table) l.k l.initial.order l.order l.joins l.attach l.count l.left l.at l.top
