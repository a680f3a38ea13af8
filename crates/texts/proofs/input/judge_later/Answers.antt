-- `input::judge_later` meets its contract: at each return the tests that led there are those of the rows. Assumes nothing.
use Rattle.std.proofs.Common.{arith}
use Rattle.std.proofs.lemmas.Bool.Decides.{nat_tests}
use Rattle.meaning.specs.Judge.{refuse, first}
use Rattle.cutting.specs.RecordRows.{record_row}
use Rattle.texts.specs.Steps.{later_rows}
use Rattle.texts.proofs.input.judge_later.Goals as goal

pub returns-then-bytes-ne0 : goal.returns-then-bytes-ne0
unfolding later_rows record_row refuse first
returns-then-bytes-ne0 c = grind (arith, nat_tests)

pub returns-then-room-input_size : goal.returns-then-room-input_size
unfolding later_rows record_row refuse first
returns-then-room-input_size c = grind (arith, nat_tests)

pub returns : goal.returns
unfolding later_rows record_row refuse first
returns c = grind (arith, nat_tests)
