use Rattle.links.specs.Table.{held}
use Rattle.weighing.specs.Scan.{Reached}
use Rattle.weighing.proofs.scan.reach.Given as goal

abbrev pub invariant-loop-i : goal.invariant-loop-i
invariant-loop-i l = Reached (held l.table) l.order l.u l.i l.initial.attach l.attach l.got.place l.got.top l.got.out
