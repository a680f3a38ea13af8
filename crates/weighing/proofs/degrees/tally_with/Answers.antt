-- `weighing::degrees::tally_with` meets its contract.
-- Assumes nothing.
use Rattle.std.proofs.Common.{◌∙◌, ap₂, arith, rules}
use Rattle.links.specs.Table.{held}
use Rattle.weighing.proofs.degrees.tally_with.Goals as goal

pub returns-then-is_other : goal.returns-then-is_other
returns-then-is_other c =
    (rw (← c.is_other.ensures, c.if-is_other.true) (c.tally_between.ensures.0 ∙ ap₂ (held c.args.table.now) (omega arith) (omega arith)), c.tally_between.ensures.1)

pub returns-else-is_other : goal.returns-else-is_other
returns-else-is_other c = (rw (← c.is_other.ensures, c.if-is_other.false), search rules)
