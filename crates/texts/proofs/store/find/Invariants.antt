-- The loop of `store::find`: what is to be found is still to be found (`Onward`).
use Rattle.std.proofs.Common.{◌-◌, length}
use Rattle.frames.specs.Kinds.{number_of}
use Rattle.texts.proofs.ReadsStore.{Onward}
use Rattle.texts.proofs.store.find.Given as goal

abbrev pub invariant-loop-at : goal.invariant-loop-at
invariant-loop-at l = Onward l.text l.from (number_of l.kind) l.at

abbrev pub decreases-loop-at : goal.decreases-loop-at
decreases-loop-at l = length l.text - l.at
