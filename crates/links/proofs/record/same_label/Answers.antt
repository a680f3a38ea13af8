-- `links::record::same_label` meets its contract, by cases on whether each end has a label. Assumes nothing.
use Rattle.std.proofs.Common.{arith}
use Rattle.std.proofs.lemmas.Bool.Decides.{nat_tests}
use Rattle.links.specs.Records.{same_label}
use Rattle.links.proofs.record.same_label.Goals as goal

pub returns-then-b-lt128 : goal.returns-then-b-lt128
unfolding same_label
returns-then-b-lt128 c = grind (arith, nat_tests)

pub returns-else-b-lt128 : goal.returns-else-b-lt128
unfolding same_label
returns-else-b-lt128 c = grind (arith, nat_tests)
