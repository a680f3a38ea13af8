use Rattle.std.proofs.Common.{◌-◌}
use Rattle.weighing.proofs.Finding.{Passing, Piling}
use Rattle.weighing.proofs.search.search.Given as goal

abbrev pub invariant-passes : goal.invariant-passes
invariant-passes l = Passing l.piles.bones l.k l.piles.names.now l.initial.table l.table l.blocks l.joins l.p l.seed

abbrev pub decreases-passes : goal.decreases-passes
decreases-passes l = l.blocks.count

abbrev pub invariant-piles : goal.invariant-piles
invariant-piles l = Piling l.piles.bones l.k l.piles.names.now l.from l.initial.table l.table l.joins l.p

abbrev pub decreases-piles : goal.decreases-piles
decreases-piles l = l.piles.bones - l.p
