-- `weighing::degrees::another` meets its contract: the bones are tried one by one.
-- Assumes nothing.
use Rattle.std.proofs.Common.{refl, ◌∙◌, arith, rules}
use Rattle.std.proofs.lemmas.Iterator.{YieldsList-from_range}
use Rattle.std.proofs.lemmas.Iterator.Search.{any_from_yields_List}
use Rattle.weighing.specs.Piles.{heap}
use Rattle.weighing.specs.Degrees.{mate}
use Rattle.weighing.specs.Side.{heap_of}
use Rattle.weighing.proofs.Listing.{any_below}
use Rattle.weighing.proofs.degrees.another.Goals as goal

pub returns : goal.returns
unfolding mate heap_of
returns c =
    let s = c.args.piles.now in
    any_from_yields_List (mate (heap s) c.args.u) _ _ c.any.result c.any.ensures.ran (YieldsList-from_range 0 s.bones s.bones refl (omega arith)) (λ x b q k. search rules)
    ∙ any_below (mate (heap s) c.args.u) s.bones
