-- `weighing::list::count_heads` meets its contract, by the chain.
-- Assumes nothing.
use Rattle.std.proofs.Common.{◌≡◌, ◌-◌, not, take, arith, rules}
use Rattle.std.specs.List.{count_by}
use Rattle.std.proofs.iter.runs.Made.{chains}
use Rattle.weighing.proofs.Listing.{unmarked_count}
use Rattle.weighing.proofs.list.count_heads.Goals as goal

pub returns : goal.returns
returns c =
    let counted : c.count.result ≡ count_by not (take (c.args.count - 1) c.args.joins.now) = search (rules, chains) in
    omega (arith, counted, unmarked_count c.args.joins.now (c.args.count - 1) (omega arith))
