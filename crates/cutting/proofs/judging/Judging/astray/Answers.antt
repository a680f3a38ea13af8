-- `cutting::judging::Judging::astray` meets its contract: the bones are tried one by one for one outside the pile. Assumes nothing.
use Rattle.std.proofs.Common.{◌≡◌, not, ◌&&◌, ltb, refl, ◌∙◌, arith, rules}
use Rattle.std.proofs.lemmas.Bool.Decides.{nat_tests}
use Rattle.std.proofs.lemmas.Iterator.{YieldsList-from_range}
use Rattle.std.proofs.lemmas.Iterator.Search.{any_from_yields_List}
use Rattle.meaning.specs.Count.{Bones, some}
use Rattle.meaning.specs.Heap.{pile}
use Rattle.weighing.specs.Side.{heap_of, side_of}
use Rattle.weighing.proofs.Listing.{any_below}
use Rattle.cutting.specs.RecordRows.{astray}
use Rattle.cutting.proofs.Parting.{some_below}
use Rattle.cutting.proofs.judging.Judging.astray.Goals as goal
use Rattle.cutting.proofs.judging.Judging.astray.Goals.{then-not-moves, else-not-moves}

pub returns-then-in_side : goal.returns-then-in_side
unfolding astray
returns-then-in_side c =
    elim c.if-not-moves.branch [
      | then-not-moves w ↦ grind (arith, nat_tests)
      | else-not-moves w ↦ grind (arith, nat_tests)
    ]

pub returns-else-in_side : goal.returns-else-in_side
unfolding astray
returns-else-in_side c =
    let s = c.args.self.now in
    let off : Bones = λ b. side_of c.args.side.now b && not (pile s.bones (heap_of s.names.now) c.args.name b) in
    let strays : c.any.result ≡ some 128 off =
    any_from_yields_List (λ b. ltb b 128 && off b) _ _ c.any.result c.any.ensures.ran (YieldsList-from_range 0 128 128 refl (omega arith)) (λ x b q k. search rules)
    ∙ any_below (λ b. ltb b 128 && off b) 128
    ∙ some_below 128 off in
    elim c.if-not-moves.branch [
      | then-not-moves w ↦ grind (arith, nat_tests)
      | else-not-moves w ↦ grind (arith, nat_tests)
    ]
