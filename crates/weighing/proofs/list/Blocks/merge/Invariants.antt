use Rattle.std.proofs.Common.{◌≤◌}
use Rattle.weighing.specs.Merge.{MergesIn}
use Rattle.weighing.proofs.list.Blocks.merge.Given as goal

abbrev pub invariant-loop-j : goal.invariant-loop-j
invariant-loop-j l = (l.heads ≤ l.j) × (l.j ≤ l.self.count) × MergesIn l.self l.self.count l.initial.table l.j l.table
