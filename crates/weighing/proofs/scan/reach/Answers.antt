-- `weighing::scan::reach` meets its contract: after i turns the bones in the first i places are reached.
-- Assumes nothing.
use Rattle.std.proofs.Common.{◌≡◌, ◌<◌, get_or, arith, rules}
use Rattle.meaning.specs.Count.{sum, some}
use Rattle.weighing.specs.Lists.{listed}
use Rattle.weighing.proofs.Scanning.{reached_fresh, reached_next}
use Rattle.weighing.proofs.scan.reach.Goals as goal

pub loop-i-init : goal.loop-i-init
unfolding sum listed some
loop-i-init c = omega (arith, c.requires.2)

pub look-got-requires : goal.look-got-requires
unfolding sum listed some
look-got-requires c =
    let l = c.loop-i in
    let here : l.i < c.args.left = omega arith in record {
      u_bound = (c.requires.0, omega (arith, c.requires.1.few), c.requires.1.low l.i here);
      i_bound = (omega (arith, reached_fresh l.invariant c.requires.1 here, c.requires.2 (get_or c.args.order.now l.i 0)), omega (arith, l.invariant.most, c.requires.1.few));
    }

pub loop-i-preserved : goal.loop-i-preserved
unfolding sum listed some
loop-i-preserved c = search (rules, reached_next)

pub returns : goal.returns
unfolding sum listed some
returns c = let all : c.loop-i.i ≡ c.args.left = omega arith in rw all at c.loop-i.invariant
