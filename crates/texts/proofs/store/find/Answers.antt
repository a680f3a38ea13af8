-- `store::find` meets its contract. Assumes nothing.
use Rattle.std.proofs.Common.{◌≡◌, ◌+◌, get_or, drop, refl, sym, ap, ◌∙◌, arith}
use Rattle.frames.specs.Frame.{payloads}
use Rattle.texts.specs.Walk.{size_at}
use Rattle.texts.proofs.KindNumbers.{numbered, same_number, other_number}
use Rattle.texts.proofs.Walks.{size_of, left_is}
use Rattle.texts.proofs.ReadsStore.{onward_well, onward_more, onward_here, onward_end}
use Rattle.texts.proofs.store.find.Goals as goal

pub loop-at-init : goal.loop-at-init
loop-at-init c = record { onward = omega arith; within = c.requires.0; well = c.requires.1; lines = refl }

pub kind_at-here-requires : goal.kind_at-here-requires
kind_at-here-requires c = rw (left_is c.args.text.now c.loop-at.at) (onward_well c.args.text.now c.args.from _ c.loop-at.at c.loop-at.invariant c.loop-at-test.true)

pub returns-then-eq : goal.returns-then-eq
returns-then-eq c =
    let text = c.args.text.now in
    let at = c.loop-at.at in
    let kind = c.kind_at-here in
    let number = rw left_is at kind.ensures in
    let size : c.payload.result + 2 ≡ size_at (drop at text)
    = ap (λ x. x + 2) (c.payload.ensures ∙ ap (λ x. get_or payloads x 0) (numbered kind.result)) ∙ sym (size_of (drop at text) _ (sym number)) in
    onward_here text c.args.from _ at c.loop-at.invariant c.loop-at-test.true (sym number ∙ same_number kind.result c.args.kind _ c.eq.ensures c.if-eq.true) _ (omega arith)

pub loop-at-preserved : goal.loop-at-preserved
loop-at-preserved c =
    let text = c.args.text.now in
    let at = c.loop-at.at in
    let kind = c.kind_at-here in
    let number = rw left_is at kind.ensures in
    let size : c.payload.result + 2 ≡ size_at (drop at text)
    = ap (λ x. x + 2) (c.payload.ensures ∙ ap (λ x. get_or payloads x 0) (numbered kind.result)) ∙ sym (size_of (drop at text) _ (sym number)) in
    onward_more text c.args.from _ at c.loop-at.invariant c.loop-at-test.true (λ e. other_number kind.result c.args.kind _ c.eq.ensures c.if-eq.false (number ∙ e)) _ (omega arith)

pub returns : goal.returns
returns c = onward_end c.args.text.now c.args.from _ c.loop-at.at c.loop-at.invariant (omega arith)
