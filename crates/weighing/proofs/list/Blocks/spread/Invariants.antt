use Rattle.std.proofs.Common.{◌≤◌}
use Rattle.weighing.specs.Moved.{Spread}
use Rattle.weighing.proofs.list.Blocks.spread.Given as goal

abbrev pub invariant-loop-j : goal.invariant-loop-j
invariant-loop-j l = (l.self.count ≤ l.j) × (l.j ≤ l.self.size) × Spread l.order l.left l.self.list l.self.into l.self.count l.j l.marks
