-- Laws of rows that are tried in order, and of what is answered where none refuses.
-- Assumes nothing.
use Rattle.std.proofs.Common.{◌≡◌, ℕ, Bool, true, false, not, T, List, [], ◌∷◌, ◌++◌, Ok, Err, refl}
use Rattle.meaning.specs.declared.Row.{Row}
use Rattle.meaning.specs.declared.Refusal.{Refusal}
use Rattle.meaning.specs.Judge.{Judged, Accepted, Refused, answered, refuse, first}
use Rattle.meaning.proofs.Tests.{fails}
use Rattle.std.specs.Result.{result_and}

-- a row that applies is the answer; one that does not is passed over
pub row_applies : (b : Bool) (row : Row) (place : ℕ) (js : List Judged) → T b → first (refuse b row place ∷ js) ≡ Refused row place
unfolding refuse first
row_applies true row place js t = refl
row_applies false row place js t = absurd t

pub row_passes : (b : Bool) (row : Row) (place : ℕ) (js : List Judged) → T (not b) → first (refuse b row place ∷ js) ≡ first js
unfolding refuse first
row_passes true row place js t = absurd t
row_passes false row place js t = refl

-- and one that accepts was passed over
pub row_accepted : (b : Bool) (row : Row) (place : ℕ) (js : List Judged) → first (refuse b row place ∷ js) ≡ Accepted → T (not b) × (first js ≡ Accepted)
row_accepted b row place js e = let r = Rattle.cutting.proofs.Lawful.row_accepted b row place js e in (fails r.0, r.1)

-- a row refuses by the opposite of what it asks
pub twice : (b : Bool) → T b → T (not (not b))
twice true t = t
twice false t = t

pub once : (b : Bool) → T (not (not b)) → T b
once true t = t
once false t = t

-- a row that accepts wherever it is reached can be left out
pub first_without : (js : List Judged) (j : Judged) (ks : List Judged) → (first js ≡ Accepted → j ≡ Accepted) → first (js ++ j ∷ ks) ≡ first (js ++ ks)
unfolding first
first_without [] j ks f = rw (f refl) refl
first_without (Ok done ∷ js) j ks f = first_without js j ks f
first_without (Err refusal ∷ js) j ks f = refl

-- the first refusal of two lists of rows
pub first_both : (js ks : List Judged) → first (js ++ ks) ≡ result_and (first js) (first ks)
unfolding first
first_both [] ks = refl
first_both (Ok done ∷ js) ks = first_both js ks
first_both (Err refusal ∷ js) ks = refl

-- what an answer tells of the rows, and the rows of the answer
module _ {A : Type 0} where
  pub answered_accepted : {j : Judged} (x : A) → j ≡ Accepted → answered j x ≡ Ok x
  unfolding answered
  answered_accepted x e = rw e

  pub answered_refused : {j : Judged} (x : A) {refusal : Refusal} → j ≡ Err refusal → answered j x ≡ Err refusal
  unfolding answered
  answered_refused x e = rw e

  pub told_accepted : (j : Judged) (x y : A) → Ok y ≡ answered j x → (j ≡ Accepted) × (y ≡ x)
  unfolding answered
  told_accepted (Ok done) x y e = (refl, cc)
  told_accepted (Err refusal) x y e = let z : ⊥ = cc in absurd z

  pub told_refused : (j : Judged) (x : A) (refusal : Refusal) → Err refusal ≡ answered j x → j ≡ Err refusal
  unfolding answered
  told_refused (Ok done) x refusal e = let z : ⊥ = cc in absurd z
  told_refused (Err q) x refusal e = cc
