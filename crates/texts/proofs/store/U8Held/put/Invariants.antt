-- The loop of `put` of an entry's bytes: the payload's bytes so far stand at the place.
use Rattle.std.proofs.Common.{◌≡◌}
use Rattle.meaning.specs.Room.{over}
use Rattle.texts.specs.Storing.{payload_at}
use Rattle.texts.proofs.store.U8Held.put.Given as goal

abbrev pub invariant-loop-i : goal.invariant-loop-i
invariant-loop-i l = l.room ≡ over l.initial.room l.to (payload_at l.left l.i)
