-- `answering::thin::thin_text` meets its contract: link space and record space are made in locals, and the links that the reader leaves go on as AfterRead
-- has it.
-- Assumes nothing.
use Rattle.std.proofs.Common.{sym, length-take-le}
use Rattle.answering.proofs.Spaces.{many_links, wide_space}
use Rattle.answering.proofs.AfterRead.{read_framed, read_thin_refused, links_held, read_thins}
use Rattle.answering.proofs.thin.thin_text.Goals as goal

pub slice_bounds-links-end : goal.slice_bounds-links-end
slice_bounds-links-end c = rw c.read.auto.links (links_held many_links wide_space c.read.ensures c.in-Ok.is)

pub slice_bounds-links-end-in-Ok : goal.slice_bounds-links-end-in-Ok
slice_bounds-links-end-in-Ok c = sym (length-take-le _ c.read.new.links (rw c.read.auto.links (links_held many_links wide_space c.read.ensures c.in-Ok.is)))

pub write_refused-requires : goal.write_refused-requires
write_refused-requires c = read_framed many_links wide_space c.read.ensures c.in-Err.is

pub returns-in-Ok : goal.returns-in-Ok
returns-in-Ok c = read_thins many_links wide_space c.read.ensures c.in-Ok.is c.from.ensures c.from-in-Ok.ensures c.thin_read.ensures

pub returns-in-Err : goal.returns-in-Err
returns-in-Err c = read_thin_refused many_links wide_space c.read.ensures c.in-Err.is c.write_refused.ensures
