-- `cutting::firm::entry_of` meets its contract. Assumes nothing.
use Rattle.std.proofs.Common.{rules, refl}
use Rattle.weighing.specs.Search.{cut_of}
use Rattle.cutting.specs.Record.{entry_cut}
use Rattle.cutting.proofs.firm.entry_of.Goals as goal

pub returns : goal.returns
unfolding entry_cut cut_of
returns c = (refl, search (rules, c.well_formed))
