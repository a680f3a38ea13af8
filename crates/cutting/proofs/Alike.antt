-- Two tallies that agree on any two bones below n give the same weights, and so the same firm sets, labels, groups, refusals and
-- lawful runs. A table and the links that fill it hold such tallies.
-- Assumes nothing.
use Prim.Native.Nat.{ℕ, suc, ◌<◌}
use mathlib.Core.Path.{◌≡◌, refl, ◌∙◌, ap₂, fun_ext}
use mathlib.Core.Bool.{not, ◌&&◌, ◌||◌}
use mathlib.Core.List.{List, [], ◌∷◌, ◌++◌}
use lib.Dec.{leb, eqb}
use Rattle.meaning.specs.Count.{some_set, every_set, every, least, count}
use Rattle.meaning.specs.Tally.{Tally, weight}
use Rattle.meaning.specs.Firm.{splits, firm, group, label, groups}
use Rattle.meaning.specs.Heap.{Heap, Cut, LawfulRun, parted, pile, stands, finished}
use Rattle.meaning.proofs.Firm.{weight_same}
use Rattle.cutting.specs.RecordRows.{entry_rows, entries_rows}

abbrev pub Alike : ℕ → Tally → Tally → Type 0
Alike n v w = (i j : ℕ) → i < n → j < n → v i j ≡ w i j

module _ (n : ℕ) (v w : Tally) (e : Alike n v w) where
  pub weight_alike : weight n v ≡ weight n w
  weight_alike = fun_ext (λ S. fun_ext (λ A. weight_same n v w S S A A e (λ b h. refl) (λ b h. refl)))

  pub firm_alike : (k : ℕ) → firm n v k ≡ firm n w k
  unfolding firm
  firm_alike k = λ i S. every_set n (λ A. not (splits n S A) || leb k (weight_alike i S A))

  pub label_alike : (k : ℕ) → label n v k ≡ label n w k
  unfolding label group
  label_alike k = λ i b. least n (λ c. some_set n (λ S. (S b && S c) && firm_alike k i S))

  pub groups_alike : (k : ℕ) → groups n v k ≡ groups n w k
  unfolding groups
  groups_alike k = λ i. count n (λ b. eqb (label_alike k i b) b)

  pub finished_alike : (k : ℕ) (h : Heap) → finished n v k h ≡ finished n w k h
  unfolding finished
  finished_alike k h = λ i. every n (λ p. not (stands n h p) || firm_alike k i (pile n h p))

  entry_alike : (k : ℕ) (h : Heap) (i : ℕ) (c : Cut) → entry_rows n v k h i c ≡ entry_rows n w k h i c
  unfolding entry_rows
  entry_alike k h i c =
      let same : weight n v (pile n h c.name) c.side ≡ weight n w (pile n h c.name) c.side = λ x. weight_alike x (pile n h c.name) c.side in
      rw same

  pub entries_alike : (k : ℕ) (cs : List Cut) (h : Heap) (i : ℕ) → entries_rows n v k h i cs ≡ entries_rows n w k h i cs
  unfolding entries_rows
  entries_alike k [] h i = refl
  entries_alike k (c ∷ cs) h i = ap₂ ◌++◌ (entry_alike k h i c) (entries_alike k cs (parted n h c) (suc i))

  pub run_alike : (k : ℕ) (cs : List Cut) (h : Heap) → LawfulRun n v k h cs → LawfulRun n w k h cs
  unfolding LawfulRun
  run_alike k [] h run = tt
  run_alike k (c ∷ cs) h run = (
    record {
      standing = run.0.standing;
      moving = run.0.moving;
      staying = run.0.staying;
      within = run.0.within;
      true_weight = run.0.true_weight ∙ (λ i. weight_alike i (pile n h c.name) c.side);
      light = run.0.light;
    },
    run_alike k cs (parted n h c) run.1,
  )
