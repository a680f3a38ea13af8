-- `frame::byte_at` meets its contract: digits mean a byte. Assumes nothing.
use Rattle.texts.proofs.Walks.{byte_told}
use Rattle.texts.proofs.frame.byte_at.Goals as goal

pub returns : goal.returns
returns c = byte_told c.args.left.now c.args.i c.pair.result _ c.pair.ensures c.unwrap_or.ensures c.requires.1
