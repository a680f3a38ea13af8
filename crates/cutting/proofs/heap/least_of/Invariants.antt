use Rattle.std.proofs.Common.{ℕ, ◌<◌, not, T}
use Rattle.weighing.specs.Side.{side_of}
use Rattle.cutting.proofs.heap.least_of.Given as goal

-- no bone below b is on the side
abbrev pub invariant-loop-b : goal.invariant-loop-b
invariant-loop-b l = (x : ℕ) → x < l.b → T (not (side_of l.fn.side x))
