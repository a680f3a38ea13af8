use Rattle.std.proofs.Common.{◌≡◌, ℕ, length}
use Rattle.weighing.specs.Lists.{listed, marked}
use Rattle.weighing.proofs.moved.free.Given as goal

abbrev pub invariant-loop-b : goal.invariant-loop-b
invariant-loop-b l = (length l.marks ≡ 128) × ((b : ℕ) → marked l.marks b ≡ listed l.order l.b-index b)
