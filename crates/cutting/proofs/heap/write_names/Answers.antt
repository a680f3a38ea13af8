-- `cutting::heap::write_names` meets its contract. Assumes nothing.
use Rattle.std.proofs.Common.{arith}
use Rattle.cutting.proofs.Names.{names_written}
use Rattle.cutting.proofs.heap.write_names.Goals as goal

pub returns : goal.returns
returns c = names_written c.args.names.now c.args.n c.args.labels.now c.min-count.result (omega arith) (omega arith) c.copy_from_slice.ensures.after
