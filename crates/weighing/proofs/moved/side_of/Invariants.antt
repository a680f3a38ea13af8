use Rattle.std.proofs.Common.{◌≡◌, ℕ, Bool, not, ◌&&◌, eqb, ltb, List, length}
use mathlib.Core.Bool.{beq}
use Rattle.meaning.specs.Count.{Bones}
use Rattle.weighing.specs.Side.{heap_of, side_of}
use Rattle.weighing.specs.Lists.{marked}
use Rattle.weighing.proofs.moved.side_of.Given as goal

-- the bones of a name whose mark is not that of p
abbrev pub out : List ℕ → ℕ → List Bool → Bones
out names p marks x = eqb (heap_of names x) p && not (beq (marked marks x) (marked marks p))

abbrev pub invariant-loop-b : goal.invariant-loop-b
invariant-loop-b l = (length l.side ≡ 16) × ((x : ℕ) → side_of l.side x ≡ (ltb x l.b && out l.piles.names.now l.p l.marks x))
