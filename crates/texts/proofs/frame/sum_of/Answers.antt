-- `frame::sum_of` meets its contract. Assumes nothing.
use Prim.Native.Nat.{ℕ}
use mathlib.Core.Path.{sym, subst}
use Rattle.texts.specs.Walk.{Summed}
use Rattle.texts.proofs.frame.sum_of.Goals as goal

pub returns-then-size-eq6 : goal.returns-then-size-eq6
returns-then-size-eq6 c =
    subst (λ (n : ℕ). Summed c.args.left.now n c.add_bytes.result) (sym c.if-size-eq6.true) c.add_bytes.ensures
