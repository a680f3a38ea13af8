use Rattle.weighing.specs.Piles.{pile_in}
use Rattle.weighing.proofs.Laying.{Gathered}
use Rattle.weighing.proofs.list.Blocks.gather.Given as goal

abbrev pub invariant-loop-b : goal.invariant-loop-b
invariant-loop-b l = Gathered (pile_in l.piles l.p) l.self.list l.m l.b
