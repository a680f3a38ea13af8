-- `cutting::heap::record::write` meets its contract. Assumes nothing.
use Rattle.meaning.specs.Room.{over}
use Rattle.meaning.proofs.Room.{over_then, fitted_all}
use Rattle.cutting.proofs.Entries.{put_none, put_whole}
use Prim.Native.Nat.{ℕ, ◌+◌, ◌*◌, ◌≤◌}
use mathlib.Core.List.{List}
use Rattle.cutting.specs.Record.{entry_size, head_bytes, entry_bytes}
use mathlib.Core.Path.{◌≡◌, sym, ◌∙◌, ap}
use lib.ListN.{length}
use native.Mathlib.Omega.{arith}
use Rattle.cutting.proofs.record.write.Goals as goal

pub returns-then-space-i : goal.returns-then-space-i
returns-then-space-i c = sym (put_none c.args.space.now c.args.i _ c.if-space-i.true)

pub returns : goal.returns
unfolding entry_bytes
returns c =
    let e = c.args.entry in
    let at = c.args.i * entry_size in
    let long : length e.side ≡ 16 = c.well_formed.1.1.0.1.1.1.1.0.1.0.1 in
    let head = c.put_name_and_weight.ensures in
    let room : at + 5 + length e.side ≤ length c.args.space.now = omega arith in
    c.copy.ensures
    ∙ fitted_all _ (c.args.i * entry_size + 5) e.side (omega arith)
    ∙ ap (λ (x : List ℕ). over x (c.args.i * entry_size + 5) e.side) c.put_name_and_weight.ensures
    ∙ over_then c.args.space.now at (head_bytes e.pile e.weight) e.side (omega arith)
    ∙ sym (put_whole c.args.space.now c.args.i e c.if-space-i.false)
