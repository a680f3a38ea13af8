-- `links::table::add_within` meets its contract. Assumes nothing.
use Rattle.std.proofs.Common.{rules}
use Rattle.links.specs.Table.{added}
use Rattle.links.proofs.table.add_within.Goals as goal

pub returns : goal.returns
unfolding added
returns c = search rules
