-- `input::put_around` meets its contract. Assumes nothing.
use mathlib.Core.Path.{refl}
use native.Mathlib.Omega.{arith}
use lib.ListN.{length}
use Rattle.texts.proofs.WritesRows.{later_accepted, head_put, around_made}
use Rattle.texts.proofs.input.put_around.Goals as goal

pub overflow_add-links : goal.overflow_add-links
overflow_add-links c =
    let later = later_accepted c.args.n c.args.count c.args.bytes.now (length c.args.text.now) c.requires.text_value in
    let head = head_put c.args.n c.args.k c.args.count c.args.bytes.now c.args.text.now later.fits _ _ c.put_head-links.ensures in
    omega (arith, head.0, c.requires.counts.links)

pub overflow_cast-frames : goal.overflow_cast-frames
overflow_cast-frames c =
    let later = later_accepted c.args.n c.args.count c.args.bytes.now (length c.args.text.now) c.requires.text_value in
    omega (arith, c.requires.counts.bones, c.requires.counts.links, later.cuts)

pub returns : goal.returns
returns c =
    let a = c.args in
    let later = later_accepted a.n a.count a.bytes.now (length a.text.now) c.requires.text_value in
    around_made a.n a.k a.count a.bytes.now a.text.now later.fits _ _ _ _ _ _ _
    c.put_head-links.ensures
    c.put_cuts-close.ensures
    refl
    c.put_close.ensures
