-- What the laws of groups and runs come to, at runs from the start: the proofs behind the theorems.
-- Assumes nothing.
use Prim.Native.Nat.{ℕ, zero, suc, ◌+◌, ◌≤◌, ◌<◌}
use mathlib.Core.Path.{◌≡◌, sym, ◌∙◌, subst}
use mathlib.Core.Logic.{⊎_elim, ◌↔◌}
use mathlib.Core.Bool.{not}
use mathlib.Core.List.{List, [], ◌∷◌, ◌++◌, append_assoc, append-nil}
use native.Mathlib.Nat.{le_antisymm}
use native.Mathlib.Omega.{arith}
use lib.Dec.{T}
use lib.ListN.{length, length-append}
use Rattle.meaning.specs.Count.{Bones}
use Rattle.meaning.specs.Tally.{Tally, Symmetric}
use Rattle.meaning.specs.Firm.{firm, group, label, groups}
use Rattle.meaning.specs.Heap.{Heap, start, piles, Cut, LawfulRun, left, weights, between, finished}
use Rattle.meaning.proofs.Tests.{decide, same_test}
use Rattle.meaning.proofs.Sums.{count_most}
use Rattle.meaning.proofs.Sets.{Same}
use Rattle.meaning.proofs.Groups.{group_intro, group_elim, group_self, group-firm, group_largest, label_in, label-least, label_same, label-group}
use Rattle.meaning.proofs.Runs.{Reached, reached_start, reached_left, run_append, piles-left, between_left, next_cut, finished_labels, labels_finished, piles-groups, between_labels, piles-start, between_start}

module _ (n : ℕ) (w : Tally) (k : ℕ) where
  pub largest_same : (b : ℕ) → b < n → (S : Bones) → T (S b) → T (firm n w k S)
      → ((F : Bones) → T (F b) → T (firm n w k F) → (c : ℕ) → c < n → T (F c) → T (S c)) → Same n S (group n w k b)
  largest_same b h S sb f l c hc =
      same_test (S c) (group n w k b c) (group_largest n w k b h S sb f c hc) (l (group n w k b) (group_self n w k b h) (group-firm n w k b h) c hc)

  pub same_label_lem : (b c : ℕ) → b < n → c < n → (label n w k b ≡ label n w k c) ↔ ((S : Bones) × T (S b) × T (S c) × T (firm n w k S))
  same_label_lem b c hb hc = (
    λ e. let s = group_elim n w k b c (label-group n w k b c hb hc e) in (s.set, s.b_in, s.c_in, s.is_firm),
    λ r. label_same n w k b c (group_intro n w k b c (record { set = r.0; b_bone = hb; c_bone = hc; b_in = r.1; c_in = r.2; is_firm = r.3 })),
  )

  pub label_unique : (b : ℕ) → b < n → (l : ℕ) → T (group n w k b l) → ((c : ℕ) → T (group n w k b c) → l ≤ c) → l ≡ label n w k b
  label_unique b h l g f = le_antisymm (f (label n w k b) (label_in n w k b h)) (label-least n w k b l g)

  reached : (cs : List Cut) → LawfulRun n w k start cs → Reached n w k (left n start cs)
  reached cs run = reached_left n w k cs start run (reached_start n w k)

  pub none_divided : (cs : List Cut) → LawfulRun n w k start cs → (b c : ℕ) → b < n → c < n → label n w k b ≡ label n w k c → left n start cs b ≡ left n start cs c
  none_divided cs run b c hb hc e =
      (reached cs run).whole (group n w k b) (group-firm n w k b hb) b c hb hc (group_self n w k b hb) (label-group n w k b c hb hc e)

  piles_cuts : 0 < n → (cs : List Cut) → LawfulRun n w k start cs → piles n (left n start cs) ≡ length cs + 1
  piles_cuts p cs run = omega (arith, piles-left n w k cs start run (reached_start n w k).named, piles-start n p)

  pub at_most : 0 < n → (cs : List Cut) → LawfulRun n w k start cs → length cs + 1 ≤ n
  unfolding piles
  at_most p cs run = omega (arith, piles_cuts p cs run, count_most n (Rattle.meaning.specs.Heap.stands n (left n start cs)))

  pub goes_on : Symmetric w → (cs : List Cut) → LawfulRun n w k start cs → T (not (finished n w k (left n start cs)))
      → (c : Cut) × LawfulRun n w k start (cs ++ c ∷ [])
  unfolding LawfulRun
  goes_on s cs run t =
      let r = next_cut n w k s (left n start cs) t in
      (r.0, run_append n w k cs (r.0 ∷ []) start run (r.1, tt))

  -- with fuel for the cuts that are left
  finish : 0 < n → Symmetric w → (fuel : ℕ) (cs : List Cut) → LawfulRun n w k start cs → n ≤ length cs + fuel
      → (ds : List Cut) × LawfulRun n w k start (cs ++ ds) × T (finished n w k (left n start (cs ++ ds)))
  finish p s zero cs run f = absurd (omega (arith, at_most p cs run))
  finish p s (suc fuel) cs run f =
      ⊎_elim
      (λ t. ([], subst (λ (xs : List Cut). LawfulRun n w k start xs) (sym (append-nil cs)) run, subst (λ (xs : List Cut). T (finished n w k (left n start xs))) (sym (append-nil cs)) t))
      (λ t. let c = goes_on s cs run t in
      let r = finish p s fuel (cs ++ c.0 ∷ []) c.1 (omega (arith, length-append cs (c.0 ∷ []))) in
      let e = append_assoc cs (c.0 ∷ []) r.0 in
      (c.0 ∷ r.0, subst (λ (xs : List Cut). LawfulRun n w k start xs) e r.1, subst (λ (xs : List Cut). T (finished n w k (left n start xs))) e r.2))
      (decide (finished n w k (left n start cs)))

  pub can_finish : 0 < n → Symmetric w → (cs : List Cut) → LawfulRun n w k start cs
      → (ds : List Cut) × LawfulRun n w k start (cs ++ ds) × T (finished n w k (left n start (cs ++ ds)))
  can_finish p s cs run = finish p s n cs run (omega arith)

  pub names_are_labels : (cs : List Cut) → LawfulRun n w k start cs
      → ((b : ℕ) → b < n → left n start cs b ≡ label n w k b) ↔ T (finished n w k (left n start cs))
  names_are_labels cs run =
      (labels_finished n w k (left n start cs), finished_labels n w k (left n start cs) (reached cs run))

  pub cuts_and_groups : 0 < n → (cs : List Cut) → LawfulRun n w k start cs → T (finished n w k (left n start cs)) → length cs + 1 ≡ groups n w k
  cuts_and_groups p cs run t = sym (piles_cuts p cs run) ∙ piles-groups n w k (left n start cs) ((names_are_labels cs run).1 t)

  pub weights-between : Symmetric w → (cs : List Cut) → LawfulRun n w k start cs → T (finished n w k (left n start cs)) → weights cs ≡ between n w (label n w k)
  weights-between s cs run t =
      omega (arith, between_left n w k s cs start run (reached_start n w k).named, between_start n w, between_labels n w k (left n start cs) ((names_are_labels cs run).1 t))

  pub same_end : 0 < n → (cs ds : List Cut) → LawfulRun n w k start cs → LawfulRun n w k start ds
      → T (finished n w k (left n start cs)) → T (finished n w k (left n start ds))
      → ((b : ℕ) → b < n → left n start cs b ≡ left n start ds b) × (length cs ≡ length ds)
  same_end p cs ds rc rd tc td = (
    λ b h. (names_are_labels cs rc).1 tc b h ∙ sym ((names_are_labels ds rd).1 td b h),
    omega (arith, cuts_and_groups p cs rc tc, cuts_and_groups p ds rd td),
  )
