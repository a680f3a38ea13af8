-- `links::table::tally_of` meets its contract. Assumes nothing.
use Rattle.std.proofs.Common.{rules}
use Rattle.links.specs.Table.{held}
use Rattle.links.proofs.table.tally_of.Goals as goal

pub returns : goal.returns
unfolding held
returns c = search rules
