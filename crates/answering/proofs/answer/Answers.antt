-- `answering::answer` meets its contract: link space and record space are made in locals, and what the reader leaves in them goes on as AfterRead has it.
-- Assumes nothing.
use Rattle.std.proofs.Common.{sym, length-take-le}
use Rattle.answering.proofs.Spaces.{many_links, wide_space}
use Rattle.answering.proofs.AfterRead.{read_framed, read_refused, links_held, cuts_held, read_answers}
use Rattle.answering.proofs.answer.Goals as goal

pub slice_bounds-links-end : goal.slice_bounds-links-end
slice_bounds-links-end c = rw c.read.auto.links (links_held many_links wide_space c.read.ensures c.in-Ok.is)

pub slice_bounds-links-end-in-Ok : goal.slice_bounds-links-end-in-Ok
slice_bounds-links-end-in-Ok c = sym (length-take-le _ c.read.new.links (rw c.read.auto.links (links_held many_links wide_space c.read.ensures c.in-Ok.is)))

pub slice_bounds-space-end : goal.slice_bounds-space-end
slice_bounds-space-end c = rw (c.size_of.ensures, c.read.auto.space) (cuts_held many_links wide_space c.read.ensures c.in-Ok.is)

pub slice_bounds-given-end : goal.slice_bounds-given-end
slice_bounds-given-end c = sym (length-take-le _ c.read.new.space (rw (c.size_of.ensures, c.read.auto.space) (cuts_held many_links wide_space c.read.ensures c.in-Ok.is)))

pub write_refused-requires : goal.write_refused-requires
write_refused-requires c = read_framed many_links wide_space c.read.ensures c.in-Err.is

pub returns-in-Ok : goal.returns-in-Ok
returns-in-Ok c = read_answers many_links wide_space c.read.ensures c.in-Ok.is c.from.ensures c.from-in-Ok.ensures c.size_of.ensures c.group_read.ensures

pub returns-in-Err : goal.returns-in-Err
returns-in-Err c = read_refused many_links wide_space c.read.ensures c.in-Err.is c.write_refused.ensures
