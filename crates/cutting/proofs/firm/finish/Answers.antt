-- `cutting::firm::finish` meets its contract. The invariant: the table is as it came, the cuts so far are a lawful run that leaves the names,
-- and the piles below `from` are firm. Each cut leaves less room for cuts. Assumes nothing.
use Rattle.std.proofs.Common.{◌<◌, refl, ◌∙◌, arith}
use Rattle.weighing.specs.Search.{cut_of}
use Rattle.cutting.proofs.Going.{going_start, going_few, going_end, peeled_going, found_split, none_found, firm_found}
use Rattle.cutting.proofs.firm.finish.Goals as goal

pub loop-cuts-init : goal.loop-cuts-init
loop-cuts-init c = (refl, going_start c.requires.begun)

pub peel-cuts-requires : goal.peel-cuts-requires
peel-cuts-requires c =
    omega (arith, going_few c.loop-cuts.invariant.1)

pub loop-cuts-smaller-then-before-cuts : goal.loop-cuts-smaller-then-before-cuts
loop-cuts-smaller-then-before-cuts c =
    let g = peeled_going c.loop-cuts.invariant.0 c.peel-cuts.ensures c.loop-cuts.invariant.1 in
    omega (arith, c.if-before-cuts.true, going_few g)

pub loop-cuts-preserved-then-before-cuts : goal.loop-cuts-preserved-then-before-cuts
loop-cuts-preserved-then-before-cuts c =
    (c.loop-cuts.invariant.0, peeled_going c.loop-cuts.invariant.0 c.peel-cuts.ensures c.loop-cuts.invariant.1)

pub cut-name-requires : goal.cut-name-requires
unfolding cut_of
cut-name-requires c =
    let found = found_split _ _ _ (omega arith) c.requires.small c.loop-cuts.invariant.0 c.search.ensures.searched c.in-Some.is in
    let weighs-less : c.in-Some.split.weight < c.args.counts.k = found.0.light in
    omega (arith, weighs-less)

pub overflow_add-cuts : goal.overflow_add-cuts
overflow_add-cuts c =
    let g = peeled_going c.loop-cuts.invariant.0 c.peel-cuts.ensures c.loop-cuts.invariant.1 in
    omega (arith, going_few g)

pub loop-cuts-smaller : goal.loop-cuts-smaller
loop-cuts-smaller c =
    let g = peeled_going c.loop-cuts.invariant.0 c.peel-cuts.ensures c.loop-cuts.invariant.1 in
    omega (arith, going_few g, c.peel-cuts.ensures.more)

pub loop-cuts-preserved : goal.loop-cuts-preserved
unfolding cut_of
loop-cuts-preserved c =
    let g = peeled_going c.loop-cuts.invariant.0 c.peel-cuts.ensures c.loop-cuts.invariant.1 in
    let split = c.in-Some.split in
    let found = found_split _ _ _ (omega arith) c.requires.small c.loop-cuts.invariant.0 c.search.ensures.searched c.in-Some.is in (
      c.search.ensures.table_unchanged ∙ c.loop-cuts.invariant.0,
      rw c.from-from.ensures (c.cut-name.ensures.on _ c.args.counts.k c.args.space.now c.args.given.cuts c.loop-cuts.from split.pile g found.0 (firm_found g (cut_of split) found)),
    )

pub returns-in_default : goal.returns-in_default
returns-in_default c =
    let g = peeled_going c.loop-cuts.invariant.0 c.peel-cuts.ensures c.loop-cuts.invariant.1 in
    going_end g (none_found c.args.counts.k _ _ (omega arith) c.requires.small c.loop-cuts.invariant.0 c.search.ensures.searched c.in_default.is)
