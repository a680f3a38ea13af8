-- The theorems about groups and cuts, in document 01's words. Each only restates and cites. They hold for every number n of bones, every
-- threshold k and every symmetric tally w; the pair tally of any links is one (`links_symmetric`).
-- Assumes nothing.
use Prim.Native.Nat.{ℕ, ◌+◌, ◌≤◌, ◌<◌}
use mathlib.Core.Path.{◌≡◌}
use mathlib.Core.Logic.{◌↔◌}
use mathlib.Core.Bool.{not, ◌||◌}
use mathlib.Core.List.{List, [], ◌∷◌, ◌++◌}
use lib.Dec.{T, eqb}
use lib.ListN.{length}
use Rattle.meaning.specs.declared.Link.{Link}
use Rattle.meaning.specs.Count.{Bones}
use Rattle.meaning.specs.Tally.{Tally, Symmetric, pair_tally, weight}
use Rattle.meaning.specs.Firm.{splits, firm, group, label, groups}
use Rattle.meaning.specs.Heap.{Heap, start, Cut, Lawful, LawfulRun, left, weights, between, finished}
use Rattle.meaning.specs.Cases.{Bench}
use Rattle.meaning.proofs.Tallies.{pair_tally_symmetric}
use Rattle.meaning.proofs.Firm as Firm
use Rattle.meaning.proofs.Groups as Groups
use Rattle.meaning.proofs.Heaps as Heaps
use Rattle.meaning.proofs.Runs as Runs
use Rattle.meaning.proofs.Ends as Ends
use Rattle.meaning.proofs.Cases as Cases

-- the pair tally is the same in either direction of writing
pub links_symmetric : (links : List Link) → Symmetric (pair_tally links)
links_symmetric = pair_tally_symmetric

module _ (n : ℕ) (w : Tally) (k : ℕ) where
  -- rule 3: firm means that every split into two non-empty sides weighs at least k; a lone bone is firm
  pub firm_means : (S : Bones) → T (firm n w k S) ↔ ((A : Bones) → T (splits n S A) → k ≤ weight n w S A)
  firm_means S = (Firm.firm_elim n w k S, Firm.firm_intro n w k S)

  pub lone-firm : (b : ℕ) → T (firm n w k (λ c. eqb c b))
  lone-firm = Firm.firm-lone n w k

  -- rule 4: two firm sets that share a bone have a firm union
  pub union_firm : (X Y : Bones) (b : ℕ) → b < n → T (X b) → T (Y b) → T (firm n w k X) → T (firm n w k Y) → T (firm n w k (λ c. X c || Y c))
  union_firm = Firm.firm_union n w k

  -- rule 4: each bone lies in exactly one largest firm set, its group
  unfoldable pub Largest : ℕ → Bones → Type 0
  Largest b S = T (S b) × T (firm n w k S) × ((F : Bones) → T (F b) → T (firm n w k F) → (c : ℕ) → c < n → T (F c) → T (S c))

  pub group_is_largest : (b : ℕ) → b < n → Largest b (group n w k b)
  unfolding Largest
  group_is_largest b h = (Groups.group_self n w k b h, Groups.group-firm n w k b h, λ F fb f. Groups.group_largest n w k b h F fb f)

  pub largest_is_group : (b : ℕ) → b < n → (S : Bones) → Largest b S → (c : ℕ) → c < n → S c ≡ group n w k b c
  unfolding Largest
  largest_is_group b h S l = Ends.largest_same n w k b h S l.0 l.1 l.2

  -- rule 5: two bones carry the same label exactly if some firm set holds both
  pub same_label_lem : (b c : ℕ) → b < n → c < n → (label n w k b ≡ label n w k c) ↔ ((S : Bones) × T (S b) × T (S c) × T (firm n w k S))
  same_label_lem = Ends.same_label_lem n w k

  -- rule 5: the label is the least bone of the group, and nothing else is
  pub label_is_least : (b : ℕ) → b < n → T (group n w k b (label n w k b)) × ((c : ℕ) → T (group n w k b c) → label n w k b ≤ c)
  label_is_least b h = (Groups.label_in n w k b h, Groups.label-least n w k b)

  pub label_unique : (b : ℕ) → b < n → (l : ℕ) → T (group n w k b l) → ((c : ℕ) → T (group n w k b c) → l ≤ c) → l ≡ label n w k b
  label_unique = Ends.label_unique n w k

  -- a direct pair tally of k or more keeps its two bones together in every lawful cut
  pub direct_pair : Symmetric w → (h : Heap) (c : Cut) → Lawful n w k h c → (x y : ℕ) → x < n → y < n → h x ≡ h y → k ≤ w x y → c.side x ≡ c.side y
  direct_pair s h c law = Heaps.direct_together n w k h c law s

  -- rule 6: no lawful run, wherever it stops, has divided a group
  pub none_divided : (cs : List Cut) → LawfulRun n w k start cs → (b c : ℕ) → b < n → c < n → label n w k b ≡ label n w k c → left n start cs b ≡ left n start cs c
  none_divided = Ends.none_divided n w k

  pub stops_lawful : (cs ds : List Cut) → LawfulRun n w k start (cs ++ ds) → LawfulRun n w k start cs
  stops_lawful cs ds = Runs.run_front n w k cs ds start

  -- rule 6: a lawful run has at most n − 1 cuts
  pub at_most : 0 < n → (cs : List Cut) → LawfulRun n w k start cs → length cs + 1 ≤ n
  at_most = Ends.at_most n w k

  -- rule 7: a run that is not finished can be continued by a lawful cut, and every lawful run can be continued to a finished one
  pub goes_on : Symmetric w → (cs : List Cut) → LawfulRun n w k start cs → T (not (finished n w k (left n start cs)))
      → (c : Cut) × LawfulRun n w k start (cs ++ c ∷ [])
  goes_on = Ends.goes_on n w k

  pub can_finish : 0 < n → Symmetric w → (cs : List Cut) → LawfulRun n w k start cs
      → (ds : List Cut) × LawfulRun n w k start (cs ++ ds) × T (finished n w k (left n start (cs ++ ds)))
  can_finish = Ends.can_finish n w k

  -- rule 7: the pile names that a lawful run leaves are the labels exactly when it is finished
  pub names_are_labels : (cs : List Cut) → LawfulRun n w k start cs
      → ((b : ℕ) → b < n → left n start cs b ≡ label n w k b) ↔ T (finished n w k (left n start cs))
  names_are_labels = Ends.names_are_labels n w k

  -- a finished run has one cut fewer than there are groups, and its weights add up to the tally between bones of different groups
  pub cuts_and_groups : 0 < n → (cs : List Cut) → LawfulRun n w k start cs → T (finished n w k (left n start cs)) → length cs + 1 ≡ groups n w k
  cuts_and_groups = Ends.cuts_and_groups n w k

  pub weights-between : Symmetric w → (cs : List Cut) → LawfulRun n w k start cs → T (finished n w k (left n start cs)) → weights cs ≡ between n w (label n w k)
  weights-between = Ends.weights-between n w k

  -- two finished lawful runs, whoever made them and in whichever order, leave the same names and have the same number of cuts
  pub same_end : 0 < n → (cs ds : List Cut) → LawfulRun n w k start cs → LawfulRun n w k start ds
      → T (finished n w k (left n start cs)) → T (finished n w k (left n start ds))
      → ((b : ℕ) → b < n → left n start cs b ≡ left n start ds b) × (length cs ≡ length ds)
  same_end = Ends.same_end n w k

-- the bench cases marked P
pub bench_cases : Bench
bench_cases = Cases.bench
