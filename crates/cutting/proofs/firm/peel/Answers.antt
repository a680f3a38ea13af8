-- `cutting::firm::peel` meets its contract: bone after bone, each with at most one cut. Assumes nothing.
use Rattle.std.proofs.Common.{◌≡◌, ◌+◌, ◌-◌, arith}
use Rattle.cutting.proofs.Going.{peeled_none, peeled_on}
use Rattle.cutting.proofs.firm.peel.Goals as goal

pub loop-u-init : goal.loop-u-init
loop-u-init c = peeled_none _ _ _ _ _ _ _

pub loosen-cuts-requires : goal.loosen-cuts-requires
loosen-cuts-requires c = (omega arith, omega (arith, c.loop-u.invariant.most, c.requires))

pub loop-u-preserved : goal.loop-u-preserved
loop-u-preserved c =
    let step : c.args.counts.bones - (c.loop-u.u - 1) ≡ (c.args.counts.bones - c.loop-u.u) + 1 = omega (arith, c.loop-u-test.true) in
    rw step (peeled_on c.loop-u.invariant c.loosen-cuts.ensures)

pub returns : goal.returns
returns c =
    let all : c.args.counts.bones - c.loop-u.u ≡ c.args.counts.bones = omega (arith, c.loop-u-test.false) in
    rw all at c.loop-u.invariant
