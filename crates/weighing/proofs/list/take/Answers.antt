-- `weighing::list::take` meets its contract: the two places are in range.
-- Assumes nothing.
use Rattle.std.proofs.Common.{sym, ◌∙◌, arith}
use Rattle.std.proofs.lemmas.List.Edits.{swap_is}
use Rattle.weighing.proofs.list.take.Goals as goal

pub returns : goal.returns
returns c = (c.swap.ensures.after ∙ sym (swap_is c.args.order.now c.args.at c.args.last 0 (omega arith) (omega arith)), c.from.ensures, omega (arith, c.fits-order c.args.at))
