use Rattle.std.proofs.Common.{◌≡◌, cond, eqb}
use Rattle.meaning.specs.Count.{sum}
use Rattle.weighing.specs.Side.{heap_of}
use Rattle.cutting.proofs.heap.count_piles.Given as goal

-- the heads below b are counted
abbrev pub invariant-loop-b : goal.invariant-loop-b
invariant-loop-b l = l.count ≡ sum l.b (λ x. cond (eqb (heap_of l.fn.names x) x) 1 0)
