-- `kinds::put_close` meets its contract. Assumes nothing.
use Rattle.std.proofs.Common.{[]}
use Rattle.texts.specs.Kinds.{close_line}
use Rattle.texts.proofs.WritesLines.{puts_two}
use Rattle.texts.proofs.kinds.put_close.Goals as goal

pub returns : goal.returns
unfolding close_line
returns c = puts_two _ _ _ _ 6 ([]) c.args.frames _ c.ranges.frames.fits c.to_be_bytes.ensures c.put_line.ensures
