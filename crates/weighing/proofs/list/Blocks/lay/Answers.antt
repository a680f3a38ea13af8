-- `weighing::list::Blocks::lay` meets its contract: after each turn one bone more is laid out.
-- Assumes nothing.
use Rattle.std.proofs.Common.{◌≡◌, ℕ, ◌-◌, ◌<◌, Bool, true, false, List, get_or, refl, arith}
use Rattle.meaning.proofs.Tests.{holds, fails}
use Rattle.weighing.specs.Lists.{Once, marked}
use Rattle.weighing.proofs.Laying.{Laying, laying_start, tied_room, laying_tied, laying_head, laying_end}
use Rattle.weighing.proofs.list.Blocks.lay.Goals as goal

pub loop-i-init : goal.loop-i-init
unfolding marked
loop-i-init c =
    (laying_start c.requires.1 c.args.self.now.list c.args.self.now.into c.args.self.now.start c.requires.0 c.requires.2 (omega arith, omega arith, omega arith), refl, refl)

-- where a bone is tied, the next place behind is one of the 128
room : {order : List ℕ} {joins : List Bool} {count heads : ℕ} {list₀ into₀ start₀ list into start : List ℕ} {head group front back i : ℕ} → Once order count
    → 0 < i → Laying order joins count heads list₀ into₀ start₀ list into start head group front back i → get_or joins (i - 1) false ≡ true → back < 128
unfolding marked
room ones more so tied = omega (arith, ones.few, tied_room ones more so (holds tied))

pub bounds-self-back : goal.bounds-self-back
bounds-self-back c = room c.requires.1 (omega arith) c.loop-i.invariant.0 c.if-joins-i.true

pub bounds-self-back-then-joins-i : goal.bounds-self-back-then-joins-i
bounds-self-back-then-joins-i c = room c.requires.1 (omega arith) c.loop-i.invariant.0 c.if-joins-i.true

pub overflow_cast-self : goal.overflow_cast-self
overflow_cast-self c = omega (arith, room c.requires.1 (omega arith) c.loop-i.invariant.0 c.if-joins-i.true)

pub bounds-self-back-then-joins-i-2 : goal.bounds-self-back-then-joins-i-2
bounds-self-back-then-joins-i-2 c = room c.requires.1 (omega arith) c.loop-i.invariant.0 c.if-joins-i.true

pub overflow_add-back : goal.overflow_add-back
overflow_add-back c = omega (arith, room c.requires.1 (omega arith) c.loop-i.invariant.0 c.if-joins-i.true)

pub loop-i-preserved-then-joins-i : goal.loop-i-preserved-then-joins-i
unfolding marked
loop-i-preserved-then-joins-i c = (laying_tied c.requires.1 (omega arith) c.loop-i.invariant.0 (holds c.if-joins-i.true), c.loop-i.invariant.1, c.loop-i.invariant.2)

pub loop-i-preserved : goal.loop-i-preserved
unfolding marked
loop-i-preserved c = (laying_head c.requires.1 (omega arith) c.loop-i.invariant.0 (fails c.if-joins-i.false), c.loop-i.invariant.1, c.loop-i.invariant.2)

pub returns : goal.returns
unfolding marked
returns c = (laying_end c.requires.1 c.args.self.now.list _ (omega arith) c.loop-i.invariant.0, c.loop-i.invariant.1, c.loop-i.invariant.2)
