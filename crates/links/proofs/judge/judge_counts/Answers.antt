-- `links::judge::judge_counts` meets its contract: at each return the tests that led there are those of the rows. Assumes nothing.
use Rattle.std.proofs.Common.{arith}
use Rattle.std.proofs.lemmas.Bool.Decides.{nat_tests}
use Rattle.meaning.specs.Judge.{refuse, first}
use Rattle.links.specs.Links.{count_rows}
use Rattle.links.proofs.judge.judge_counts.Goals as goal

pub returns-then-n-eq0 : goal.returns-then-n-eq0
unfolding count_rows refuse first
returns-then-n-eq0 c = grind (arith, nat_tests)

pub returns-then-k-eq0 : goal.returns-then-k-eq0
unfolding count_rows refuse first
returns-then-k-eq0 c = grind (arith, nat_tests)

pub returns-then-not-whole : goal.returns-then-not-whole
unfolding count_rows refuse first
returns-then-not-whole c = grind (arith, nat_tests)

pub returns : goal.returns
unfolding count_rows refuse first
returns c = grind (arith, nat_tests)
