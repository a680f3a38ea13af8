use Rattle.std.proofs.Common.{ℕ, ◌≤◌, List}
use Rattle.weighing.specs.Merge.{MergesIn}
use Rattle.weighing.proofs.list.Blocks.undo.Given as goal

abbrev pub invariant-loop-j : goal.invariant-loop-j
invariant-loop-j l =
    (l.self.count ≤ l.j)
    × (l.j ≤ l.self.size)
    × ((t : List ℕ) → MergesIn l.self l.self.size t l.self.count l.initial.table → MergesIn l.self l.self.size t l.j l.table)
