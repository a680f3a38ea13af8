-- `weighing::degrees::part` meets its contract: what b loses is what it takes out of the others. Assumes nothing.
use Rattle.std.proofs.Common.{arith}
use Rattle.weighing.specs.Degrees.{parting}
use Rattle.weighing.proofs.Noting.{less_at}
use Rattle.weighing.proofs.degrees.part.Goals as goal

pub returns : goal.returns
unfolding parting
returns c =
    let t = c.take_out-own in
    λ notes. less_at c.args.b _ _ (omega arith) (omega arith) (omega (arith, t.ensures.value)) (t.ensures.loses notes)
