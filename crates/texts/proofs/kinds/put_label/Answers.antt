-- `kinds::put_label` meets its contract. Assumes nothing.
use Rattle.texts.specs.Kinds.{label_line}
use Rattle.texts.proofs.kinds.put_label.Goals as goal

pub returns : goal.returns
unfolding label_line
returns c = c.put_line.ensures
