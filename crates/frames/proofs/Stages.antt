-- Laws of the stages of an input text: what may follow links where it may follow a cut, and where each frame that may follow leads.
-- Assumes nothing.
use Rattle.std.proofs.Common.{◌≡◌, ℕ, Bool, true, false, ◌||◌, T, eqb, refl, arith, ne_eqb}
use Rattle.std.proofs.lemmas.Grind.{common_steps}
use Rattle.frames.specs.declared.stage.Stage.{Stage}
use Rattle.frames.specs.declared.stage.Stage.TheVariants.{Opening, Linking, Cutting, Closed}
use Rattle.frames.specs.Stages.{follows, after}
use Rattle.frames.specs.Step.{leads}

-- what is no link may follow links where it may follow a cut
pub without_link : (stage : Stage) (kind : ℕ) → stage ≡ Linking → (kind ≡ 2 → ⊥) → follows Cutting kind ≡ follows stage kind
unfolding follows
without_link stage kind e a = rw (e, ne_eqb kind 2 a) (sort (eqb kind 3) (eqb kind 5 || eqb kind 6))
  where
    sort : (a b : Bool) → a || b ≡ (false || a) || b
    sort true b = refl
    sort false b = refl

-- a frame that may follow leads as far as the text has come after it
pub leads_on : (stage : Stage) (kind : ℕ) → T (follows stage kind) → leads stage kind ≡ after stage kind
unfolding follows after leads
leads_on Opening kind t = grind (arith, common_steps)
leads_on Linking kind t = grind (arith, common_steps)
leads_on Cutting kind t = grind (arith, common_steps)
leads_on Closed kind t = absurd t
