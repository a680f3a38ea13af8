-- `cutting::record::copy` meets its contract. Assumes nothing.
use Rattle.std.proofs.Common.{ℕ, ◌≡◌, ◌∙◌, ◌+◌, ◌<◌, ◌-◌, min, List, length, get_or, set, take, length-take-le, take-suc, ap, sym, arith, add-one}
use Rattle.meaning.specs.Room.{fitted}
use Rattle.meaning.proofs.Room.{fitted_nil, fitted_next, fitted_most}
use Rattle.cutting.proofs.record.copy.Goals as goal

pub loop-j-init : goal.loop-j-init
loop-j-init c = sym (fitted_nil c.args.to.now c.args.at)

pub loop-j-preserved : goal.loop-j-preserved
loop-j-preserved c =
    let a = c.args in
    let j = c.loop-j.j in
    let read : j < length a.from.now = omega arith in
    ap (λ (l : List ℕ). set l (a.at + j) (get_or a.from.now j 0)) c.loop-j.invariant
    ∙ ap (λ (m : ℕ). set (fitted a.to.now a.at (take j a.from.now)) (a.at + m) (get_or a.from.now j 0)) (sym (length-take-le j a.from.now (omega arith)))
    ∙ fitted_next a.to.now a.at (take j a.from.now) (get_or a.from.now j 0)
    ∙ ap (fitted a.to.now a.at) (sym (ap (λ (m : ℕ). take m a.from.now) (add-one j) ∙ take-suc a.from.now j 0 read))

pub returns : goal.returns
returns c =
    let a = c.args in
    let done : c.loop-j.j ≡ min (length a.from.now) (length a.to.now - a.at) = omega arith in
    c.loop-j.invariant ∙ fitted_most a.to.now a.at a.from.now c.loop-j.j done
