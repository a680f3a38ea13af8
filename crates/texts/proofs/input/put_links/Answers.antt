-- `input::put_links` meets its contract: each link's line is put behind those before it. Assumes nothing.
use Rattle.std.proofs.Common.{◌≡◌, length, ap, ◌∙◌, arith, le_refl}
use Rattle.texts.proofs.WritesLinks.{linked, linked_none, linked_more, linked_all}
use Rattle.texts.proofs.input.put_links.Goals as goal

pub loop-i-init : goal.loop-i-init
loop-i-init c = linked_none c.args.text.now c.args.links.now

pub loop-i-preserved : goal.loop-i-preserved
loop-i-preserved c =
    let many = length c.args.links.now in
    rw (c.put_record.ensures, c.loop-i.invariant)
    (linked_more c.args.text.now c.args.links.now many (le_refl many) (λ h. c.requires) c.loop-i.i c.loop-i-test.true)

pub returns : goal.returns
returns c =
    let all : c.loop-i.i ≡ length c.args.links.now = omega arith in
    c.loop-i.invariant ∙ ap (linked c.args.text.now c.args.links.now) all ∙ linked_all c.args.text.now c.args.links.now
