-- `frame::line_of` meets its contract. Assumes nothing.
use Rattle.std.proofs.Common.{◌≡◌, ◌+◌, Bool, true, false, Option, MatchOption, get_or, refl, sym, ap, ◌∙◌, arith}
use Rattle.std.specs.Bool.{then_some}
use Rattle.meaning.proofs.Tests.{holds, fails}
use Rattle.frames.specs.Frame.{payloads}
use Rattle.texts.specs.Walk.{LineAt}
use Rattle.texts.proofs.KindNumbers.{numbered}
use Rattle.texts.proofs.Walks.{size_least, kind_well, line_found, no_feed}
use Rattle.texts.proofs.frame.line_of.Goals as goal

pub returns-then-left-le2 : goal.returns-then-left-le2
returns-then-left-le2 c = λ w. omega (arith, w.room, size_least c.args.left.now)

pub returns-in_err-kind : goal.returns-in_err-kind
returns-in_err-kind c = rw c.from_residual.ensures (λ w. omega (arith, c.in_err-kind.ensures, kind_well c.args.left.now w))

-- what is given by a test: the value where it holds
by_test : {A P : Type 0} (Q : A → Type 0) (b : Bool) (x : A) (r : Option A) → r ≡ then_some b x → (b ≡ true → Q x) → (b ≡ false → P) → MatchOption r P Q
by_test Q true x r e f g = rw e (f refl)
by_test Q false x r e f g = rw e (g refl)

pub returns : goal.returns
returns c =
    let left = c.args.left.now in
    let kind = c.in_ok-kind.kind in
    let size : c.payload-size.result + 2 ≡ _ = ap (λ x. x + 2) (c.payload-size.ensures ∙ ap (λ x. get_or payloads x 0) (numbered kind)) in
    by_test (λ line. LineAt left line.0 line.1) _ _ _ c.then_some.ensures
    (λ t. line_found left kind c.in_ok-kind.ensures _ size (holds (sym c.feed_at.ensures ∙ t)))
    (λ f. no_feed left kind c.in_ok-kind.ensures _ size (fails (sym c.feed_at.ensures ∙ f)))
