-- `shell::output::print` meets its contract: what is printed is in the space. Assumes nothing.
use Rattle.std.proofs.Common.{sym, length, length-take-le, arith}
use Rattle.shell.proofs.Printing.{least}
use Rattle.shell.proofs.output.print.Goals as goal

pub slice_bounds-write_all-end : goal.slice_bounds-write_all-end
slice_bounds-write_all-end g c = sym (length-take-le _ _ (omega (arith, c.to_print-end.ensures, least c.args.answered (length c.args.out.now))))
