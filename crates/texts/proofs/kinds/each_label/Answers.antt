-- `kinds::each_label` meets its contract: a label more behind those before it. Assumes nothing.
use Rattle.std.proofs.Common.{ℕ, ◌<◌, ◌≡◌, take, get_or, sym, ap, ◌∙◌, arith, length-take, get_or-take}
use Rattle.meaning.specs.Room.{over}
use Rattle.meaning.proofs.Room.{over_nil}
use Rattle.weighing.specs.Side.{heap_of}
use Rattle.frames.proofs.Places.{puts_fit}
use Rattle.texts.specs.Kinds.{label_line, label_lines}
use Rattle.texts.proofs.WritesLines.{length_label, next_label}
use Rattle.texts.proofs.kinds.each_label.Goals as goal

pub loop-bone-init : goal.loop-bone-init
unfolding label_lines
loop-bone-init c = (omega arith, sym (over_nil c.args.room.now c.args.at))

pub loop-bone-preserved : goal.loop-bone-preserved
unfolding heap_of
loop-bone-preserved c =
    let a = c.args in
    let l = c.loop-bone in
    let below : l.bone < a.n = omega (arith, c.loop-bone-test.true, length-take a.n a.names.now) in
    let name : get_or (take a.n a.names.now) l.bone 0 ≡ heap_of a.names.now l.bone = get_or-take a.n a.names.now l.bone 0 below in
    let put = puts_fit l.room l.next (label_line l.bone (heap_of a.names.now l.bone)) _ _ (omega (arith, length_label l.bone (heap_of a.names.now l.bone), c.requires.1, l.invariant.0)) (rw name at c.put_label-next.ensures) in (
      omega (arith, put.0, length_label l.bone (heap_of a.names.now l.bone), l.invariant.0),
      put.1 ∙ next_label a.room.now l.room a.at l.next l.bone (heap_of a.names.now) (omega (arith, c.requires.1)) l.invariant.1 l.invariant.0,
    )

pub returns : goal.returns
returns c =
    let a = c.args in
    let all : c.loop-bone.bone ≡ a.n = omega (arith, c.loop-bone-test.false, c.loop-bone.auto.bone-end, length-take a.n a.names.now, c.requires.0, c.told-names) in
    (omega (arith, c.loop-bone.invariant.0), c.loop-bone.invariant.1 ∙ ap (λ (m : ℕ). over a.room.now a.at (label_lines m (heap_of a.names.now))) all)
