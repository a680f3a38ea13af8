-- `cutting::heap::least_of` meets its contract. The invariant: no bone below b is on the side. Assumes nothing.
use Prim.Native.Nat.{◌/◌}
use mathlib.Core.Path.{sym, ◌∙◌}
use native.Mathlib.Omega.{arith}
use borrow.Author.Count.{below_more}
use Rattle.meaning.proofs.Tests.{holds, fails}
use Rattle.weighing.specs.Side.{side_of}
use Rattle.weighing.proofs.Sides.{on_side}
use Rattle.cutting.proofs.Parting.{least_here, least_none}
use Rattle.cutting.proofs.Renaming.{byte_nought}
use Rattle.cutting.proofs.heap.least_of.Goals as goal

pub loop-b-init : goal.loop-b-init
loop-b-init c x l = byte_nought c.args.side.now x (c.first_byte-b.ensures.1 (x / 8) (omega arith))

pub returns-then-in_side : goal.returns-then-in_side
returns-then-in_side c =
    let a = c.args in
    let head = c.loop-b in
    sym (least_here a.n (side_of a.side.now) head.b (omega arith)
    (holds (sym (on_side a.side.now head.b (omega arith) c.in_side.ensures) ∙ c.if-in_side.true))
    head.invariant)

pub loop-b-preserved : goal.loop-b-preserved
loop-b-preserved c =
    let a = c.args in
    let head = c.loop-b in
    below_more _ head.b head.invariant (fails (sym (on_side a.side.now head.b (omega arith) c.in_side.ensures) ∙ c.if-in_side.false))

pub returns : goal.returns
returns c =
    let a = c.args in
    sym (least_none a.n (side_of a.side.now) (λ x l. c.loop-b.invariant x (omega arith)))
