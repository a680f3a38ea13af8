-- `links::records::keep_links` meets its contract: none is kept at first, a link that is alike is kept behind the others, and all were gone through at the end.
-- Assumes nothing.
use Rattle.std.proofs.Common.{◌≡◌, ◌<◌, [], ◌∷◌, length, get_or, take, refl, sym, ◌∙◌, ap, arith, length-append, take_all, zero-le}
use Rattle.links.specs.Records.{same_label, kept_links}
use Rattle.links.specs.Forms.{front, no_link}
use Rattle.links.proofs.RecordsKept.{kept_no, kept_one}
use Rattle.links.proofs.FormFront.{front_nil}
use Rattle.links.proofs.records.keep_links.Goals as goal
use Rattle.links.proofs.records.keep_links.Goals.{then-same_label, else-same_label}

pub loop-i-init : goal.loop-i-init
unfolding kept_links
loop-i-init g c = (zero-le, refl, front_nil g.L.LinkForm.links_in g.L.LinkForm.written c.args.out.now g.met.L.LinkForm.written_none)

pub overflow_add-kept : goal.overflow_add-kept
overflow_add-kept g c = omega arith

pub loop-i-preserved : goal.loop-i-preserved
loop-i-preserved g c =
    let links = g.L.LinkForm.links_in c.args.links.now in
    let labels = c.args.labels.now in
    let front_of = front g.L.LinkForm.links_in g.L.LinkForm.written c.args.out.now in
    let most = c.loop-i.invariant.0 in
    let number = c.loop-i.invariant.1 in
    let room = c.loop-i.invariant.2 in
    let inside : c.loop-i.i < length links = omega (arith, c.count-i-end.ensures, c.loop-i-test.true) in
    let tested : same_label labels (get_or links c.loop-i.i no_link) ≡ c.same_label.result = rw (← c.link-l.ensures) (sym c.same_label.ensures) in
    elim c.if-same_label.branch [
      | then-same_label w ↦
          let one = kept_one labels links c.loop-i.i inside (tested ∙ w.if-same_label.true) in (
            omega (arith, most, w.kept-is),
            omega (arith, number, w.kept-is, ap length one, length-append (kept_links labels (take c.loop-i.i links)) (get_or links c.loop-i.i no_link ∷ [])),
            w.out-is ∙ w.put.ensures c.args.out.now _ (sym number) room ∙ rw c.link-l.ensures (ap front_of one),
          )
      | else-same_label w ↦
          let stays = kept_no labels links c.loop-i.i inside (tested ∙ w.if-same_label.false) in
          (omega (arith, most, w.kept-is), w.kept-is ∙ number ∙ ap length stays, w.out-is ∙ room ∙ ap front_of stays)
    ]

pub returns : goal.returns
returns g c =
    let all = ap (kept_links c.args.labels.now) (take_all c.loop-i.i (g.L.LinkForm.links_in c.args.links.now) (omega (arith, c.loop-i-test.false, c.count-i-end.ensures))) in
    (c.loop-i.invariant.1 ∙ ap length all, c.loop-i.invariant.2 ∙ ap (front g.L.LinkForm.links_in g.L.LinkForm.written c.args.out.now) all)
