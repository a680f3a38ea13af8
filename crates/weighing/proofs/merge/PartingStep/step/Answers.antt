-- `weighing::merge::Parting` meets the contract of a step: what is taken out is added as its complement. Assumes nothing.
use Rattle.links.specs.Table.{lowered}
use Rattle.weighing.proofs.merge.PartingStep.step.Goals as goal

pub returns-clause-moved : goal.returns-clause-moved
unfolding lowered
returns-clause-moved c = rw (← c.tally_of-by.ensures.0) c.lower_between.ensures
