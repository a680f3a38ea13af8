-- `kinds::put_link` meets its contract. Assumes nothing.
use Rattle.std.proofs.Common.{[], ◌∷◌, ◌<◌, arith}
use Rattle.texts.specs.Kinds.{link_line}
use Rattle.texts.proofs.WritesLines.{puts_two}
use Rattle.texts.proofs.kinds.put_link.Goals as goal

pub returns : goal.returns
unfolding link_line
returns c = let w : c.args.l.tally < 65536 = omega (arith, c.well_formed.0) in puts_two _ _ _ _ 2 (c.args.l.a ∷ c.args.l.b ∷ []) c.args.l.tally _ w c.to_be_bytes.ensures c.put_line.ensures
