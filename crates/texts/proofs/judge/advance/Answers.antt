-- `judge::advance` meets its contract. Assumes nothing.
use Rattle.std.proofs.Common.{drop, sym, ◌∙◌, arith}
use Rattle.frames.specs.declared.kind.Kind.TheVariants.{Head}
use Rattle.texts.proofs.KindNumbers.{numbered, same_number, other_number}
use Rattle.texts.proofs.Walks.{within, left_is}
use Rattle.texts.proofs.Advances.{go_head, go_on}
use Rattle.texts.proofs.judge.advance.Goals as goal

pub byte_at-requires : goal.byte_at-requires
byte_at-requires c =
    let a = c.args in
    let kind = sym c.requires.line.frame.kind ∙ same_number a.frame.kind Head _ c.eq.ensures c.if-eq.true in
    rw (left_is a.text.now a.s.at) (within (drop a.s.at a.text.now) 1 c.requires.line.frame.well kind 1 (omega arith))

pub number_at-requires : goal.number_at-requires
number_at-requires c =
    let a = c.args in
    let kind = sym c.requires.line.frame.kind ∙ same_number a.frame.kind Head _ c.eq.ensures c.if-eq.true in
    let high = within (drop a.s.at a.text.now) 1 c.requires.line.frame.well kind 2 (omega arith) in
    let low = within (drop a.s.at a.text.now) 1 c.requires.line.frame.well kind 3 (omega arith) in
    rw (left_is a.text.now a.s.at) (omega (arith, low.0), high.1, low.1)

pub returns-then-eq : goal.returns-then-eq
returns-then-eq c =
    let a = c.args in
    go_head a.text.now a.s c.step-next.result a.frame c.requires (rw numbered at c.step-next.ensures) _ _
    (same_number c.args.frame.kind Head _ c.eq.ensures c.if-eq.true) (rw left_is at c.byte_at.ensures) (rw left_is at c.number_at.ensures)

pub returns : goal.returns
returns c =
    let a = c.args in
    go_on a.text.now a.s c.step-next.result a.frame c.requires (rw numbered at c.step-next.ensures) (other_number c.args.frame.kind Head _ c.eq.ensures c.if-eq.false)
