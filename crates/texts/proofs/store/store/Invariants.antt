-- The loop of `store::store`: the room so far is a walk over what the text holds that has come to `from` (`Storing`).
use Rattle.std.proofs.Common.{◌-◌, length}
use Rattle.texts.proofs.ReadsPut.{Storing}
use Rattle.texts.proofs.store.store.Given as goal

abbrev pub invariant-loop-to : goal.invariant-loop-to
invariant-loop-to g l = Storing (g.T.Held.held) l.text l.initial.room l.room l.from l.to

abbrev pub decreases-loop-to : goal.decreases-loop-to
decreases-loop-to g l = length l.text - l.from
