-- `frame::kind_at` meets its contract: in front of a well formed line stands a kind. Assumes nothing.
use Rattle.std.proofs.Common.{◌∙◌, arith}
use Rattle.texts.proofs.Walks.{size_least, kind_front, kind_well}
use Rattle.texts.proofs.frame.kind_at.Goals as goal

pub bounds-left-1 : goal.bounds-left-1
bounds-left-1 c = omega (arith, c.requires.room, size_least c.args.left.now)

pub unreachable-requires : goal.unreachable-requires
unreachable-requires c = omega (arith, c.in_default.ensures, kind_well c.args.left.now c.requires)

pub returns : goal.returns
returns c = c.in-Some.ensures ∙ kind_front c.args.left.now c.requires
