-- `input::put_record` meets its contract. Assumes nothing.
use Prim.Native.Nat.{◌+◌, ◌*◌}
use native.Mathlib.Omega.{arith}
use Rattle.frames.proofs.Places.{puts_fit}
use Rattle.frames.specs.Frame.{line_size}
use Rattle.texts.specs.Kinds.{link_line}
use Rattle.texts.proofs.WritesLines.{length-link}
use Rattle.texts.proofs.input.put_record.Goals as goal

pub returns : goal.returns
returns c =
    let a = c.args in
    (puts_fit a.text.now (line_size 1 + line_size 2 * a.i) (link_line a.l) _ _ (omega (arith, c.requires, length-link a.l)) c.put_link.ensures).1
