-- `kinds::each_cut` meets its contract: a cut's line more behind those before it. Assumes nothing.
use Rattle.std.proofs.Common.{◌≡◌, ◌+◌, ◌*◌, ◌/◌, ℕ, [], ◌∷◌, ◌++◌, length, sym, ap, ◌∙◌, arith, length-append, length-drop}
use Rattle.meaning.specs.Room.{over}
use Rattle.meaning.proofs.Room.{over_nil}
use Rattle.cutting.specs.Record.{entry_size}
use Rattle.frames.specs.Frame.{line}
use Rattle.frames.proofs.Places.{puts_fit}
use Rattle.texts.specs.Kinds.{cut_lines}
use Rattle.texts.proofs.WritesLines.{entry, length_cut, next_cut, next_entry}
use Rattle.texts.proofs.kinds.each_cut.Goals as goal

pub loop-entry-init : goal.loop-entry-init
unfolding cut_lines
loop-entry-init c =
    rw c.into_iter-entry-iterator.ensures.into_iter_gives
    (c.chunks_exact-entry-items.ensures.size, c.chunks_exact-entry-items.ensures.rest, omega arith, omega arith, sym (over_nil c.args.room.now c.args.at))

pub loop-entry-preserved : goal.loop-entry-preserved
loop-entry-preserved c =
    let a = c.args in
    let l = c.loop-entry in
    let i = length l.yielded in
    let steps = c.in-Some.ensures.steps in
    let more : length (l.yielded ++ c.in-Some.entry ∷ []) ≡ i + 1 = length-append l.yielded (c.in-Some.entry ∷ []) in
    let turn = next_entry a.bytes.now _ _ c.in-Some.entry.now i _ l.invariant.0 l.invariant.1 l.invariant.2 steps.1.0 steps.1.1 in
    let long = length_cut a.bytes.now i turn.0 in
    let put = puts_fit l.room l.next (line 3 (entry a.bytes.now i)) _ _ (omega (arith, c.requires, l.invariant.3, l.auto.room)) (rw turn.1 at c.put_line-next.ensures) in
    rw more (
      steps.0 ∙ l.invariant.0,
      turn.2,
      omega (arith, turn.0),
      omega (arith, put.0, l.invariant.3),
      put.1 ∙ next_cut a.bytes.now i turn.0 a.room.now l.room a.at l.next c.requires l.invariant.4 l.invariant.3,
    )

pub returns : goal.returns
returns c =
    let a = c.args in
    let l = c.loop-entry in
    let all : length l.yielded ≡ length a.bytes.now / entry_size
    = omega (arith, c.in-None.ensures.steps.1.0, l.invariant.0, ap length l.invariant.1, length-drop (entry_size * length l.yielded) a.bytes.now, l.invariant.2) in
    record {
      value = omega (arith, l.invariant.3);
      room_after = l.invariant.4 ∙ ap (λ (m : ℕ). over a.room.now a.at (cut_lines m a.bytes.now)) all;
    }
