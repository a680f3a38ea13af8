-- `cutting::judging::Judging::judge` meets its contract: at each return the tests that led there are those of the rows. Assumes nothing.
use Rattle.std.proofs.Common.{◌≡◌, true, sym, ◌∙◌, arith}
use Rattle.std.proofs.lemmas.Bool.Decides.{nat_tests}
use Rattle.meaning.specs.Heap.{stands, pile}
use Rattle.meaning.specs.Tally.{weight}
use Rattle.links.specs.Table.{held}
use Rattle.meaning.specs.Judge.{refuse, first}
use Rattle.weighing.specs.Side.{heap_of, side_of}
use Rattle.cutting.specs.Record.{entry_cut}
use Rattle.cutting.specs.RecordRows.{entry_rows}
use Rattle.cutting.proofs.Lawful.{stands_bone, weighed}
use Rattle.cutting.proofs.judging.Judging.judge.Goals as goal
use Rattle.cutting.proofs.judging.Judging.judge.Goals.{After-weigh}

pub returns-then-not-stands : goal.returns-then-not-stands
unfolding entry_rows entry_cut refuse first
returns-then-not-stands c = grind (arith, nat_tests)

pub astray-requires : goal.astray-requires
astray-requires c =
    let stood : stands c.args.self.now.bones (heap_of c.args.self.now.names.now) c.args.entry.pile ≡ true = sym c.stands.ensures ∙ c.if-not-stands.false in
    let bone = stands_bone _ _ _ stood in
    omega arith

pub returns-then-astray : goal.returns-then-astray
unfolding entry_rows entry_cut refuse first
returns-then-astray c = grind (arith, nat_tests)

-- what was weighed is the weight of the split
weighs : (c : After-weigh) → c.weigh.result ≡ weight c.args.self.now.bones (held c.args.self.now.table.now) (pile c.args.self.now.bones (heap_of c.args.self.now.names.now) c.args.entry.pile) (side_of c.args.entry.side)
weighs c = weighed c.args.self.now.bones _ _ _ _ (omega arith) c.weigh.ensures

pub returns-then-weight-weigh : goal.returns-then-weight-weigh
unfolding entry_rows entry_cut refuse first
returns-then-weight-weigh c =
    grind (arith, nat_tests, weighs (goal.at.returns-then-weight-weigh c).After-weigh)

pub returns-then-self-weight : goal.returns-then-self-weight
unfolding entry_rows entry_cut refuse first
returns-then-self-weight c =
    grind (arith, nat_tests, weighs (goal.at.returns-then-self-weight c).After-weigh)

pub returns : goal.returns
unfolding entry_rows entry_cut refuse first
returns c =
    grind (arith, nat_tests, weighs (goal.at.returns c).After-weigh)
