-- `links::judge::judge_link` meets its contract: at each return the tests that led there are those of the rows. The answers name no test, so that a wrong order
-- of the rows is refused for what it answers. Assumes nothing.
use Rattle.std.proofs.Common.{arith}
use Rattle.std.proofs.lemmas.Bool.Decides.{nat_tests}
use Rattle.meaning.specs.Judge.{refuse, first}
use Rattle.links.specs.Links.{link_rows}
use Rattle.links.proofs.judge.judge_link.Goals as goal

pub returns-then-n-from : goal.returns-then-n-from
unfolding link_rows refuse first
returns-then-n-from c = grind (arith, nat_tests)

pub returns-then-l : goal.returns-then-l
unfolding link_rows refuse first
returns-then-l c = grind (arith, nat_tests)

pub returns-then-l-eq0 : goal.returns-then-l-eq0
unfolding link_rows refuse first
returns-then-l-eq0 c = grind (arith, nat_tests)

pub returns : goal.returns
unfolding link_rows refuse first
returns c = grind (arith, nat_tests)
