-- `frame::add_bytes` meets its contract. Assumes nothing.
use Rattle.std.proofs.Common.{◌≡◌, arith}
use Rattle.texts.proofs.Walks.{adding_none, digit_told, adding_more}
use Rattle.texts.proofs.frame.add_bytes.Goals as goal

pub loop-i-init : goal.loop-i-init
loop-i-init c = adding_none _ _

pub loop-i-preserved : goal.loop-i-preserved
loop-i-preserved c =
    adding_more c.args.left.now c.args.size c.loop-i.i c.loop-i.sum c.loop-i.bad c.unwrap_or-high.result c.unwrap_or-low.result _
    c.requires c.loop-i-test.true c.loop-i.invariant
    (digit_told _ _ _ c.value.ensures c.unwrap_or-high.ensures) (digit_told _ _ _ c.value-in-loop-i.ensures c.unwrap_or-low.ensures) c.add_byte-sum.ensures

pub returns-then-bad : goal.returns-then-bad
returns-then-bad c = c.loop-i.invariant.broken c.if-bad.true

pub returns-else-bad : goal.returns-else-bad
returns-else-bad c =
    let all : c.args.size ≡ c.loop-i.i = omega arith in
    let added = c.loop-i.invariant.good c.if-bad.false in
    rw all (added.digits, added.sum)
