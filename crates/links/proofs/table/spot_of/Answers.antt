-- `links::table::spot_of` meets its contract, by the order of the two bones. Assumes nothing.
use Rattle.std.proofs.Common.{arith}
use Rattle.links.specs.Table.{spot}
use Rattle.links.proofs.table.spot_of.Goals as goal

pub returns-then-i-j : goal.returns-then-i-j
unfolding spot
returns-then-i-j c = omega arith

pub returns-else-i-j : goal.returns-else-i-j
unfolding spot
returns-else-i-j c = omega arith
