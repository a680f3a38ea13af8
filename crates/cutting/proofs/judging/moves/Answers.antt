-- `cutting::judging::moves` meets its contract: the bones are tried one by one. Assumes nothing.
use Rattle.std.proofs.Common.{rules, ◌&&◌, ltb, refl, ◌∙◌, arith}
use Rattle.std.proofs.lemmas.Iterator.{YieldsList-from_range}
use Rattle.std.proofs.lemmas.Iterator.Search.{any_from_yields_List}
use Rattle.weighing.specs.Side.{side_of}
use Rattle.weighing.proofs.Listing.{any_below}
use Rattle.cutting.proofs.Parting.{some_below}
use Rattle.cutting.proofs.judging.moves.Goals as goal

pub returns : goal.returns
returns c =
    let on = side_of c.args.side.now in
    any_from_yields_List (λ b. ltb b 128 && on b) _ _ c.any.result c.any.ensures.ran (YieldsList-from_range 0 128 128 refl (omega arith)) (λ x b q k. search rules)
    ∙ any_below (λ b. ltb b 128 && on b) 128
    ∙ some_below 128 on
