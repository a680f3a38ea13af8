-- `put` of a link meets its contract. Assumes nothing.
use Rattle.std.proofs.Common.{arith}
use Rattle.meaning.proofs.Room.{over_one}
use Rattle.texts.specs.Storing.{link_here}
use Rattle.texts.proofs.Walks.{within}
use Rattle.texts.proofs.store.LinkHeld.put.Goals as goal

pub byte_at-requires : goal.byte_at-requires
byte_at-requires c = within c.args.left.now 2 c.requires.well c.requires.kind 1 (omega arith)

pub byte_at-requires-2 : goal.byte_at-requires-2
byte_at-requires-2 c = within c.args.left.now 2 c.requires.well c.requires.kind 2 (omega arith)

pub number_at-requires : goal.number_at-requires
number_at-requires c =
    let high = within c.args.left.now 2 c.requires.well c.requires.kind 3 (omega arith) in
    let low = within c.args.left.now 2 c.requires.well c.requires.kind 4 (omega arith) in
    (omega (arith, low.0), high.1, low.1)

pub returns-clause-room_after : goal.returns-clause-room_after
unfolding link_here
returns-clause-room_after c =
    rw (c.byte_at.ensures, c.byte_at-2.ensures, c.number_at.ensures) (over_one c.args.room.now c.args.to _ (omega (arith, c.requires.room)))
