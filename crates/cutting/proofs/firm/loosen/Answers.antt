-- `cutting::firm::loosen` meets its contract: a bone that is cut off is a lawful cut, and leaves the piles firm that were. Assumes nothing.
use Rattle.std.proofs.Common.{◌<◌, le_refl, arith}
use Rattle.weighing.specs.Search.{cut_of}
use Rattle.cutting.proofs.Going.{firm_peeled, loosed_lawful}
use Rattle.cutting.proofs.firm.loosen.Goals as goal

pub cut-requires : goal.cut-requires
unfolding cut_of
cut-requires c =
    let law = loosed_lawful _ (omega arith) c.lone-light.ensures.loosed c.in-Some.is in
    let weighs-less : c.in-Some.split.weight < c.args.counts.k = law.light in
    omega (arith, weighs-less)

pub returns : goal.returns
returns c =
    let law = loosed_lawful _ (omega arith) c.lone-light.ensures.loosed c.in-Some.is in
    record {
      on = λ space₀ cuts₀ from g. c.cut.ensures.on _ c.args.counts.k space₀ cuts₀ from from g law (firm_peeled g (cut_of c.in-Some.split) law);
      more = omega arith;
      most = le_refl _;
    }
