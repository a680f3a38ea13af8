-- `cutting::heap::record::read` meets its contract. Assumes nothing.
use Prim.Native.Nat.{◌*◌}
use mathlib.Core.Path.{sym, ◌∙◌}
use Rattle.cutting.specs.Record.{entry_size}
use Rattle.cutting.proofs.Entries.{at_whole, at_none, entry_here}
use Rattle.cutting.proofs.record.read.Goals as goal

pub returns-then-bytes-i : goal.returns-then-bytes-i
returns-then-bytes-i c = sym (at_none c.args.bytes.now c.args.i c.if-bytes-i.true)

pub returns : goal.returns
returns c =
    let a = c.args in
    entry_here a.bytes.now (a.i * entry_size) _ _ c.from_be_bytes-weight.ensures c.side_at-side.ensures
    ∙ sym (at_whole a.bytes.now a.i c.if-bytes-i.false)
