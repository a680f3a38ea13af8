-- The loop of `frame::add_bytes`: the sum of the pairs passed, where they are all digits, and whether some are not (`Adding`).
use Rattle.texts.proofs.Walks.{Adding}
use Rattle.texts.proofs.frame.add_bytes.Given as goal

abbrev pub invariant-loop-i : goal.invariant-loop-i
invariant-loop-i l = Adding l.left l.size l.i l.sum l.bad
