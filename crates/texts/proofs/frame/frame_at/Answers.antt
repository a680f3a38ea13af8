-- `frame::frame_at` meets its contract. Assumes nothing.
use Rattle.texts.proofs.Walks.{frame_found}
use Rattle.texts.proofs.frame.frame_at.Goals as goal

pub returns : goal.returns
returns c = frame_found c.args.left.now c.in_ok-kind.kind c.in_ok-kind.size c.in_ok-kind.ensures c.in_ok-sum.sum c.in_ok-sum.ensures
