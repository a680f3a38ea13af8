use Rattle.weighing.specs.Lists.{listed}
use Rattle.weighing.specs.Merge.{but_for, Row}
use Rattle.weighing.proofs.merge.row.Given as goal

abbrev pub invariant-loop-c : goal.invariant-loop-c
invariant-loop-c g l = Row g.S.Step.adds g.S.Step.Fits l.initial.table l.table l.a l.b (but_for (listed l.list l.c-index) l.a)
