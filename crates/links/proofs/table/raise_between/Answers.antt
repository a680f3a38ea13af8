-- `links::table::raise_between` meets its contract. Assumes nothing.
use Rattle.std.proofs.Common.{rules}
use Rattle.links.specs.Table.{held, raised}
use Rattle.links.proofs.table.raise_between.Goals as goal

pub returns : goal.returns
unfolding raised held
returns c = search rules
