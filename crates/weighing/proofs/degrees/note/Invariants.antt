use Rattle.std.proofs.Common.{◌≡◌, ℕ, ◌+◌, ◌%◌, ◌^◌, cond, ltb, length, get_or}
use Rattle.links.specs.Table.{held}
use Rattle.weighing.specs.Side.{heap_of}
use Rattle.weighing.specs.Degrees.{toward, mate}
use Rattle.weighing.proofs.degrees.note.Given as goal

abbrev pub invariant-loop-j : goal.invariant-loop-j
invariant-loop-j l =
    (length l.degrees ≡ 128)
    × (l.own ≡ toward l.j (held l.table) (mate (heap_of l.names) l.i) l.i % 2 ^ 32)
    × ((b : ℕ) → get_or l.degrees b 0 ≡ cond (ltb b l.j) ((get_or l.initial.degrees b 0 + cond (mate (heap_of l.names) l.i b) (held l.table l.i b) 0) % 2 ^ 32) (get_or l.initial.degrees b 0))
