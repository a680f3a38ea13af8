-- `judge::judge_line` meets its contract: a row that refuses is the first that does, and behind all of them the line passed. Assumes nothing.
use Rattle.std.proofs.Common.{sym, ◌∙◌, arith}
use Rattle.frames.specs.declared.kind.Kind.TheVariants.{Close}
use Rattle.texts.proofs.KindNumbers.{numbered, same_number, other_number}
use Rattle.texts.proofs.Walks.{within}
use Rattle.texts.proofs.Judging.{follows-not, follows-yes, row_17, row_18, row_19}
use Rattle.texts.proofs.judge.judge_line.Goals.{else-eq-via-then-eq+else-from-line, else-eq-via-else-eq}
use Rattle.texts.proofs.judge.judge_line.Goals as goal

pub returns-then-frame-ne0 : goal.returns-then-frame-ne0
returns-then-frame-ne0 c =
    let f = c.requires in
    rw c.at.ensures (row_17 _ f.well c.args.stage c.args.line (λ e. c.if-frame-ne0.true (f.sum ∙ e)))

pub returns-then-not-may_follow : goal.returns-then-not-may_follow
returns-then-not-may_follow c =
    let f = c.requires in
    rw c.at-then-not-may_follow.ensures
    (row_18 _ f.well c.args.stage c.args.line (sym f.sum ∙ c.if-frame-ne0.false)
    (follows-not c.args.stage _ _ c.may_follow.result c.may_follow.ensures (numbered _ ∙ f.kind) c.if-not-may_follow.true))

pub number_at-requires : goal.number_at-requires
number_at-requires c =
    let f = c.requires in
    let e = sym f.kind ∙ same_number c.args.frame.kind Close _ c.eq.ensures c.if-eq.true in
    let high = within c.args.left.now 6 f.well e 1 (omega arith) in
    let low = within c.args.left.now 6 f.well e 2 (omega arith) in
    (omega (arith, low.0), high.1, low.1)

pub returns-then-from-line : goal.returns-then-from-line
returns-then-from-line c =
    let f = c.requires in
    let order = follows-yes c.args.stage _ _ c.may_follow.result c.may_follow.ensures (numbered _ ∙ f.kind) c.if-not-may_follow.false in
    rw c.at-then-from-line.ensures
    (row_19 _ f.well c.args.stage c.args.line (sym f.sum ∙ c.if-frame-ne0.false) order (sym f.kind ∙ same_number c.args.frame.kind Close _ c.eq.ensures c.if-eq.true)
    (λ e. c.if-from-line.true (c.from.ensures ∙ c.number_at.ensures ∙ e)))

pub returns : goal.returns
returns c =
    let f = c.requires in
    record {
      well = f.well;
      sum = sym f.sum ∙ c.if-frame-ne0.false;
      order = follows-yes c.args.stage _ _ c.may_follow.result c.may_follow.ensures (numbered _ ∙ f.kind) c.if-not-may_follow.false;
      count = λ e.
          elim c.else-eq.branch [
            | else-eq-via-then-eq+else-from-line w ↦ sym w.number_at.ensures ∙ sym w.from.ensures ∙ w.if-from-line.false
            | else-eq-via-else-eq w ↦ absurd (other_number c.args.frame.kind Close _ c.eq.ensures w.if-eq.false (f.kind ∙ e))
          ];
    }
