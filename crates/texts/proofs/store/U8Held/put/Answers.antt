-- `put` of an entry's bytes meets its contract: the payload's bytes so far stand at the place. Assumes nothing.
use Rattle.std.proofs.Common.{◌≡◌, ◌+◌, ℕ, List, set, ap, ◌∙◌, arith}
use Rattle.meaning.specs.Room.{over}
use Rattle.cutting.specs.Record.{entry_size}
use Rattle.texts.specs.Storing.{payload_at}
use Rattle.texts.proofs.Walks.{within}
use Rattle.texts.proofs.ReadsStore.{payload_length, stored_none, stored_more}
use Rattle.texts.proofs.store.U8Held.put.Goals as goal

pub loop-i-init : goal.loop-i-init
loop-i-init c = stored_none c.args.left.now c.args.room.now c.args.to

pub byte_at-requires : goal.byte_at-requires
byte_at-requires c = within c.args.left.now 3 c.requires.well c.requires.kind (c.loop-i.i + 1) (omega arith)

pub bounds-room-to : goal.bounds-room-to
bounds-room-to c = omega (arith, c.requires.room, c.loop-i.auto.room, payload_length c.args.left.now entry_size)

pub loop-i-preserved : goal.loop-i-preserved
loop-i-preserved c =
    let cs = c.args.left.now in
    ap (λ (x : List ℕ). set x (c.args.to + c.loop-i.i) c.byte_at.result) c.loop-i.invariant
    ∙ stored_more cs c.args.room.now c.args.to c.loop-i.i c.byte_at.result (omega (arith, c.requires.room, payload_length cs entry_size)) c.byte_at.ensures

pub returns-clause-value : goal.returns-clause-value
returns-clause-value c = omega (arith, payload_length c.args.left.now entry_size)

pub returns-clause-room_after : goal.returns-clause-room_after
returns-clause-room_after c =
    let all : c.loop-i.i ≡ entry_size = omega arith in
    c.loop-i.invariant ∙ ap (λ (m : ℕ). over c.args.room.now c.args.to (payload_at c.args.left.now m)) all
