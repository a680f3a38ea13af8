use Prim.Native.Nat.{◌-◌}
use mathlib.Core.Path.{◌≡◌}
use Rattle.links.specs.Table.{held}
use Rattle.cutting.specs.Finish.{Going}
use Rattle.cutting.proofs.firm.finish.Given as goal

abbrev pub invariant-loop-cuts : goal.invariant-loop-cuts
invariant-loop-cuts l = (l.table ≡ l.initial.table) × Going l.counts.bones (held l.initial.table) l.counts.k l.initial.space l.initial.cuts l.names l.space l.cuts l.from

abbrev pub decreases-loop-cuts : goal.decreases-loop-cuts
decreases-loop-cuts l = l.counts.bones - l.cuts
