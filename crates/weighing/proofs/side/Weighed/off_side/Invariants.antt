use Rattle.std.proofs.Common.{◌≡◌, ◌*◌, ◌^◌, ◌≤◌}
use Rattle.links.specs.Table.{held}
use Rattle.weighing.specs.Side.{side_of}
use Rattle.weighing.specs.Piles.{pile_in}
use Rattle.weighing.specs.Weigh.{off_side}
use Rattle.weighing.proofs.side.Weighed.off_side.Given as goal

abbrev pub invariant-loop-j : goal.invariant-loop-j
invariant-loop-j l =
    (l.total ≡ off_side l.j (held l.self.table.now) (pile_in l.self.piles l.self.name) (side_of l.self.side.now) l.i) × (l.total ≤ l.j * 2 ^ 32)
