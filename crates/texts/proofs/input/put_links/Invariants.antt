-- The loop of `input::put_links`: the text space so far is the lines of the links passed, behind the head (`linked`).
use Rattle.std.proofs.Common.{◌≡◌}
use Rattle.texts.proofs.WritesLinks.{linked}
use Rattle.texts.proofs.input.put_links.Given as goal

abbrev pub invariant-loop-i : goal.invariant-loop-i
invariant-loop-i l = l.text ≡ linked l.initial.text l.links l.i
