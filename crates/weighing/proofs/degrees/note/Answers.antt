-- `weighing::degrees::note` meets its contract. The invariant: the bones below j have the tally of i in addition, and own is the sum of these.
-- Assumes nothing.
use Rattle.std.proofs.Common.{◌≡◌, get_or, ◌∙◌, zero-le, arith, length-set, le-ltb}
use Rattle.meaning.specs.Count.{sum}
use Rattle.links.proofs.TableHeld.{held_symmetric}
use Rattle.links.specs.Table.{held}
use Rattle.weighing.specs.Side.{heap_of}
use Rattle.weighing.specs.Degrees.{toward, mate}
use Rattle.weighing.proofs.Noting.{toward_next, store_next, noted_next}
use Rattle.weighing.proofs.degrees.note.Goals as goal

pub loop-j-init : goal.loop-j-init
unfolding toward sum
loop-j-init c = (c.requires.1.notes.long, omega arith, λ b. rw (le-ltb b 0 zero-le))

pub loop-j-preserved : goal.loop-j-preserved
unfolding toward sum
loop-j-preserved c =
    let a = c.args in
    let l = c.loop-j in
    let tally = c.earlier-tally.ensures in (
      length-set l.degrees l.j _ ∙ l.invariant.0,
      omega (arith, tally, l.invariant.1, toward_next l.j (held a.table.now) (mate (heap_of a.names.now) a.i) a.i),
      store_next _ (λ b. get_or a.degrees.now b 0) l.degrees l.j _ (omega arith) (λ e. omega (arith, e, tally)) l.invariant.2,
    )

pub returns : goal.returns
unfolding toward sum
returns c =
    let l = c.loop-j in
    let done : l.j ≡ c.args.i = omega arith in
    noted_next (held c.args.table.now) (held_symmetric c.args.table.now) (heap_of c.args.names.now) c.args.i c.requires.0 l.degrees l.own c.requires.1 l.invariant.0
    (simp done at l.invariant.1)
    (simp done at l.invariant.2)
