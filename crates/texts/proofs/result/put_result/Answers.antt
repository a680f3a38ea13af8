-- `result::put_result` meets its contract. Assumes nothing.
use mathlib.Core.Path.{refl}
use native.Mathlib.Omega.{arith}
use Rattle.texts.proofs.WritesTexts.{result_made}
use Rattle.texts.proofs.result.put_result.Goals as goal

pub overflow_cast-frames : goal.overflow_cast-frames
overflow_cast-frames c = omega (arith, c.requires.named.bones, c.requires.named.cuts)

pub returns : goal.returns
returns c =
    let a = c.args in
    result_made a.room.now a.bytes.now a.names.now a.n a.k c.requires.named c.requires.bytes_in_bounds _ _ _ _ _ _ _ _ _
    c.put_head-cuts.ensures
    c.put_cuts-labels.ensures
    c.put_labels-close.ensures
    refl
    c.put_close.ensures
