-- `kinds::put_refusal` meets its contract. Assumes nothing.
use Rattle.std.proofs.Common.{[], ◌∷◌}
use Rattle.texts.specs.Kinds.{refusal_line}
use Rattle.texts.proofs.WritesLines.{puts_two}
use Rattle.texts.proofs.kinds.put_refusal.Goals as goal

pub returns : goal.returns
unfolding refusal_line
returns c = puts_two _ _ _ _ 7 (c.args.number ∷ []) c.args.place _ c.ranges.place.fits c.to_be_bytes.ensures c.put_line.ensures
