-- `answering::group_read` meets its contract: labels and record space are made in locals, and what grouping leaves in them is written as AfterGroup has it.
-- Assumes nothing.
use Rattle.answering.proofs.Spaces.{wide_space, many_labels}
use Rattle.answering.proofs.AfterGroup.{record_held, grouping_framed, grouping_refused, grouping_answers}
use Rattle.answering.proofs.group_read.Goals as goal

pub write_grouped-requires : goal.write_grouped-requires
write_grouped-requires c = rw c.grouping.auto.space (record_held c.args.n c.args.k c.args.links.now c.args.given.now many_labels wide_space c.grouping.ensures c.in-Ok.is)

pub write_refused-requires : goal.write_refused-requires
write_refused-requires c = grouping_framed c.args.n c.args.k c.args.links.now c.args.given.now many_labels wide_space c.grouping.ensures c.in-Err.is

pub returns-in-Ok : goal.returns-in-Ok
returns-in-Ok c =
    grouping_answers c.args.n c.args.k c.args.links.now c.args.given.now many_labels wide_space c.grouping.ensures c.in-Ok.is c.write_grouped.ensures.are_bytes c.write_grouped.ensures.written

pub returns-in-Err : goal.returns-in-Err
returns-in-Err c = grouping_refused c.args.n c.args.k c.args.links.now c.args.given.now many_labels wide_space c.grouping.ensures c.in-Err.is c.write_refused.ensures
