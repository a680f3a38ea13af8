-- `weighing::scan::scan` meets its contract. The loop's invariant is `Scan`, what is known whenever a bone is to be taken.
-- Assumes nothing.
use Rattle.std.proofs.Common.{arith}
use Rattle.links.specs.Table.{held}
use Rattle.links.proofs.TableHeld.{held_symmetric}
use Rattle.weighing.proofs.Listing.{once_less}
use Rattle.weighing.proofs.Scanning.{scan_start, then, u_low, passed_done, passed_light, scan_next}
use Rattle.weighing.proofs.scan.scan.Goals as goal

pub loop-left-init : goal.loop-left-init
loop-left-init c =
    scan_start (held c.args.table.now) (held_symmetric c.args.table.now) c.args.k c.args.order.now c.args.joins.now c.args.count c.args.seed c.requires.0 c.requires.1 (omega arith)

pub returns-then-left-eq0 : goal.returns-then-left-eq0
returns-then-left-eq0 c = passed_done c.loop-left.invariant c.take-u.ensures c.if-left-eq0.true

pub reach-got-requires : goal.reach-got-requires
reach-got-requires c =
    let i = c.loop-left.invariant in (
      u_low i c.take-u.ensures,
      once_less (then i c.take-u.ensures).once (omega (arith, i.few)),
      λ x. omega (arith, i.slow x, i.ordered.once.few),
    )

pub returns-then-got-k : goal.returns-then-got-k
returns-then-got-k c =
    passed_light c.loop-left.invariant c.take-u.ensures (omega (arith, c.if-left-eq0.false)) c.reach-got.ensures c.if-got-k.true

pub loop-left-preserved : goal.loop-left-preserved
loop-left-preserved c =
    scan_next c.loop-left.invariant c.take-u.ensures (omega (arith, c.if-left-eq0.false)) c.reach-got.ensures (λ l. omega (arith, c.if-got-k.false))
