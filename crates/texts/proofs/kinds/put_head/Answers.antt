-- `kinds::put_head` meets its contract. Assumes nothing.
use Rattle.std.proofs.Common.{[], ◌∷◌}
use Rattle.texts.specs.Kinds.{head_line}
use Rattle.texts.proofs.WritesLines.{puts_two}
use Rattle.texts.proofs.kinds.put_head.Goals as goal

pub returns : goal.returns
unfolding head_line
returns c = puts_two _ _ _ _ 1 (c.args.n ∷ []) c.args.k _ c.ranges.k.fits c.to_be_bytes.ensures c.put_line.ensures
