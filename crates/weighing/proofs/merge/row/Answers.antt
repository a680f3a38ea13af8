-- `weighing::merge::row` meets its contract: after i turns it is done for the bones in the first i places.
-- Assumes nothing.
use Rattle.std.proofs.Common.{◌≡◌, ◌<◌, ℕ, refl, ◌∙◌, arith, length-take}
use Rattle.std.proofs.lemmas.List.{get_or-take}
use Rattle.weighing.proofs.Rows.{row-start, put, skip, row_turn}
use Rattle.weighing.proofs.merge.row.Goals as goal
use Rattle.weighing.proofs.merge.row.Goals.{then-c-a, else-c-a}

pub loop-c-init : goal.loop-c-init
loop-c-init g c = row-start _ _ _ _ (omega arith)

pub loop-c-preserved : goal.loop-c-preserved
loop-c-preserved g c =
    let pre = c.requires in
    let l = c.loop-c in
    let here : l.c-index < c.args.m = omega (arith, length-take {A = ℕ}) in
    row_turn pre.3 here pre.0 pre.1 pre.2 l.invariant (c.from-c.ensures ∙ get_or-take c.args.m c.args.list.now l.c-index 0 here)
    (elim c.if-c-a.branch [
      | then-c-a w ↦ put _ w.if-c-a.true refl w.step.ensures.fits (w.table-is ∙ w.step.ensures.moved)
      | else-c-a w ↦ skip w.if-c-a.false w.table-is
    ])

pub returns : goal.returns
returns g c =
    let all : c.loop-c.c-index ≡ c.args.m = omega (arith, length-take {A = ℕ}) in
    rw all at c.loop-c.invariant
