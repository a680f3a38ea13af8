-- `result::write_result` meets its contract: checking leaves the names that the rest is told of, and what it refuses is refused before row 20.
-- Assumes nothing.
use Rattle.std.proofs.Common.{◌≡◌, ℕ, List, length, replicate, sym, ◌∙◌}
use lib.ListN.{length-replicate}
use Rattle.std.proofs.lemmas.Result.{err_from_is_err_and}
use Rattle.texts.specs.Writers.{result_text}
use Rattle.texts.proofs.Rows.{told_accepted, told_refused}
use Rattle.texts.proofs.Fronts.{writes_refused}
use Rattle.texts.proofs.WritesResult.{result_refused, result_left, result_named}
use Rattle.texts.proofs.result.write_result.Goals as goal

-- the names, at nought
abbrev names₀ : List ℕ
names₀ = replicate 128 0

many : length names₀ ≡ 128
many = length-replicate {A = ℕ} 128 0

pub returns-in_err-checking : goal.returns-in_err-checking
returns-in_err-checking c =
    let a = c.args in
    let p = err_from_is_err_and c.from_residual.result c.from_residual.ensures.1 in
    let refused = told_refused _ _ _ (sym c.in_err-checking.was ∙ c.checking.ensures.answer) in
    rw (p.1, p.2)
    (writes_refused (result_text a.n a.k a.bytes.now) a.text.now (result_refused a.n a.k a.links.now a.bytes.now names₀ many (length a.text.now) _ refused))

pub result_from-requires : goal.result_from-requires
result_from-requires c =
    let a = c.args in
    let accepted = told_accepted _ _ _ (sym c.in_ok-checking.was ∙ c.checking.ensures.answer) in
    result_named a.n a.k a.links.now a.bytes.now names₀ many accepted.0 c.checking.new.labels c.checking.ensures.names_after

pub returns : goal.returns
returns c =
    let a = c.args in
    let accepted = told_accepted _ _ _ (sym c.in_ok-checking.was ∙ c.checking.ensures.answer) in
    rw (result_left a.n a.k a.links.now a.bytes.now names₀ many accepted.0 (length a.text.now)) c.result_from.ensures
