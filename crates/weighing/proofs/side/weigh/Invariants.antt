use Rattle.std.proofs.Common.{◌≡◌, ◌*◌, ◌^◌, ◌≤◌}
use Rattle.links.specs.Table.{held}
use Rattle.weighing.specs.Side.{side_of}
use Rattle.weighing.specs.Piles.{pile_in}
use Rattle.weighing.proofs.Sides.{rows}
use Rattle.weighing.proofs.side.weigh.Given as goal

abbrev pub invariant-loop-i : goal.invariant-loop-i
invariant-loop-i l =
    let s = l.split in
    (l.total ≡ rows l.i s.piles.bones (held s.table.now) (pile_in s.piles s.name) (side_of s.side.now)) × (l.total ≤ l.i * (128 * 2 ^ 32))
