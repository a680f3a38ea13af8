-- The loop of `record::copy`: the first j bytes are put in.
use Rattle.std.proofs.Common.{◌≡◌, take}
use Rattle.meaning.specs.Room.{fitted}
use Rattle.cutting.proofs.record.copy.Given as goal

abbrev pub invariant-loop-j : goal.invariant-loop-j
invariant-loop-j l = l.to ≡ fitted l.initial.to l.at (take l.j l.from)
