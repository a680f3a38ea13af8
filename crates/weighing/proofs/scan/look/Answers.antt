-- `weighing::scan::look` meets its contract, by whether the bone has the greatest tally so far.
-- Assumes nothing.
use Rattle.std.proofs.Common.{◌≡◌, ◌^◌, ◌<◌, ◌≤◌, get_or, refl, inl, inr, mod-eq_of_lt, arith}
use Rattle.links.specs.Table.{held}
use Rattle.weighing.proofs.scan.look.Goals as goal

pub overflow_add-near : goal.overflow_add-near
overflow_add-near c =
    let tied-small : get_or c.args.attach.now c.from-x.result 0 ≤ 2 ^ 40 = rw c.from-x.ensures c.requires.i_bound.0 in
    omega (arith, tied-small, c.tally_between.ensures.1)

pub overflow_add-out : goal.overflow_add-out
overflow_add-out c =
    let tied-small : get_or c.args.attach.now c.from-x.result 0 ≤ 2 ^ 40 = rw c.from-x.ensures c.requires.i_bound.0 in
    omega (arith, tied-small, c.tally_between.ensures.1, c.requires.i_bound.1)

pub returns-then-got-near : goal.returns-then-got-near
returns-then-got-near c =
    let tally-is : c.tally_between.result ≡ held c.args.table.now c.args.u c.from-x.result = let low : c.from-x.result < 128 = omega (arith, c.from-x.ensures, c.requires.u_bound.2) in
    rw (mod-eq_of_lt c.requires.u_bound.0, mod-eq_of_lt low) at c.tally_between.ensures.0 in
    rw (← c.from-x.ensures, ← tally-is) (record { stored = refl; small = c.tally_between.ensures.1; sums = refl; best = inl (refl, refl, c.if-got-near.true) })

pub returns-else-got-near : goal.returns-else-got-near
returns-else-got-near c =
    let tally-is : c.tally_between.result ≡ held c.args.table.now c.args.u c.from-x.result = let low : c.from-x.result < 128 = omega (arith, c.from-x.ensures, c.requires.u_bound.2) in
    rw (mod-eq_of_lt c.requires.u_bound.0, mod-eq_of_lt low) at c.tally_between.ensures.0 in
    rw (← c.from-x.ensures, ← tally-is) (record { stored = refl; small = c.tally_between.ensures.1; sums = refl; best = inr (refl, refl, c.if-got-near.false) })
