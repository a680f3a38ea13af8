use Rattle.std.proofs.Common.{◌-◌}
use Rattle.links.specs.Table.{held}
use Rattle.cutting.specs.Finish.{Peeled}
use Rattle.cutting.proofs.firm.peel.Given as goal

-- the bones from u on were looked at
abbrev pub invariant-loop-u : goal.invariant-loop-u
invariant-loop-u l = Peeled l.fn.counts.bones (held l.fn.table) l.fn.counts.k l.fn.names l.fn.space l.fn.given l.names l.space l.cuts (l.fn.counts.bones - l.u)
