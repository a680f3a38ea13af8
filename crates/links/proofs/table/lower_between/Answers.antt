-- `links::table::lower_between` meets its contract. Assumes nothing.
use Rattle.std.proofs.Common.{rules}
use Rattle.links.specs.Table.{raised, lowered}
use Rattle.links.proofs.table.lower_between.Goals as goal

pub returns : goal.returns
unfolding raised lowered
returns c = search rules
