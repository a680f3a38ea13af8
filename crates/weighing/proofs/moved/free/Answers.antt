-- `weighing::moved::free` meets its contract: after i turns the bones in the first i places bear a mark.
-- Assumes nothing.
use Rattle.std.proofs.Common.{◌≡◌, ◌<◌, ℕ, get_or, false, true, refl, ◌∙◌, arith, length-set, length-take}
use Rattle.std.proofs.lemmas.List.{get_or-take}
use Rattle.weighing.specs.Lists.{listed, marked}
use Rattle.meaning.specs.Count.{some}
use Rattle.weighing.proofs.Listing.{blank}
use Rattle.weighing.proofs.Moving.{free_next}
use Rattle.weighing.proofs.moved.free.Goals as goal

pub loop-b-init : goal.loop-b-init
unfolding marked listed some
loop-b-init c = (refl, λ b. rw (blank false 128 b))

pub bounds-marks-from : goal.bounds-marks-from
bounds-marks-from c =
    let l = c.loop-b in
    let here : l.b-index < c.args.left = omega (arith, length-take {A = ℕ}) in
    omega (arith, c.requires.low l.b-index here, c.from.ensures, get_or-take c.args.left c.args.order.now l.b-index 0 here)

pub loop-b-preserved : goal.loop-b-preserved
unfolding marked listed some
loop-b-preserved c =
    let l = c.loop-b in
    let here : l.b-index < c.args.left = omega (arith, length-take {A = ℕ}) in
    let bone : c.from.result ≡ get_or c.args.order.now l.b-index 0 = c.from.ensures ∙ get_or-take c.args.left c.args.order.now l.b-index 0 here in
    (length-set l.marks c.from.result true ∙ l.invariant.0, free_next c.args.order.now l.marks l.b-index c.from.result l.invariant.0 (omega (arith, c.requires.low l.b-index here, bone)) bone l.invariant.1)

pub returns : goal.returns
unfolding marked listed some
returns c =
    let done : c.loop-b.b-index ≡ c.args.left = omega (arith, length-take {A = ℕ}) in
    (c.loop-b.invariant.0, rw done at c.loop-b.invariant.1)
