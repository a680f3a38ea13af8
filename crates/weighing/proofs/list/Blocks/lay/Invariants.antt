use Rattle.std.proofs.Common.{◌≡◌}
use Rattle.weighing.proofs.Laying.{Laying}
use Rattle.weighing.proofs.list.Blocks.lay.Given as goal

abbrev pub invariant-loop-i : goal.invariant-loop-i
invariant-loop-i l =
    Laying l.order l.joins l.fn.self.count l.heads l.initial.self.list l.initial.self.into l.initial.self.start l.self.list l.self.into l.self.start l.head l.group l.front l.back l.i
    × (l.self.count ≡ l.fn.self.count) × (l.self.size ≡ l.fn.self.size)
