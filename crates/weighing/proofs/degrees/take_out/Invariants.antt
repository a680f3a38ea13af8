use Rattle.std.proofs.Common.{◌≡◌, ◌*◌, ◌^◌, ◌≤◌}
use Rattle.links.specs.Table.{held}
use Rattle.weighing.specs.Piles.{heap}
use Rattle.weighing.specs.Degrees.{toward, others, share, Notes, Lessened}
use Rattle.weighing.proofs.degrees.take_out.Given as goal

abbrev pub invariant-loop-c : goal.invariant-loop-c
invariant-loop-c l =
    (l.total ≡ toward l.c (held l.table) (others (heap l.piles) l.name l.b) l.b)
    × (l.total ≤ l.c * 2 ^ 32)
    × (Notes l.initial.degrees → Lessened (share l.c (held l.table) (others (heap l.piles) l.name l.b) l.b) l.initial.degrees l.degrees)
