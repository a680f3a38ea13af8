-- `answering::thin::thin_read` meets its contract: room for the links kept is made in a local, and what thinning leaves in it is written as AfterThin has it.
-- Assumes nothing.
use Rattle.std.proofs.Common.{sym, length-take-le}
use Rattle.answering.proofs.Spaces.{many_links}
use Rattle.answering.proofs.AfterThin.{kept_held, thinning_framed, thinning_refused, thinning_answers}
use Rattle.answering.proofs.thin.thin_read.Goals as goal

pub slice_bounds-kept-end : goal.slice_bounds-kept-end
slice_bounds-kept-end c = rw c.thinning.auto.space (kept_held c.args.n c.args.k c.args.links.now many_links c.thinning.ensures c.in-Ok.is)

pub slice_bounds-write_input-end : goal.slice_bounds-write_input-end
slice_bounds-write_input-end c =
    sym (length-take-le _ c.thinning.new.space (rw c.thinning.auto.space (kept_held c.args.n c.args.k c.args.links.now many_links c.thinning.ensures c.in-Ok.is)))

pub write_refused-requires : goal.write_refused-requires
write_refused-requires c = thinning_framed c.args.n c.args.k c.args.links.now many_links c.thinning.ensures c.in-Err.is

pub returns-in-Ok : goal.returns-in-Ok
returns-in-Ok c = thinning_answers c.args.n c.args.k c.args.links.now many_links c.thinning.ensures c.in-Ok.is c.write_input.ensures

pub returns-in-Err : goal.returns-in-Err
returns-in-Err c = thinning_refused c.args.n c.args.k c.args.links.now many_links c.thinning.ensures c.in-Err.is c.write_refused.ensures
