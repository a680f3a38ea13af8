-- Rules 6 and 7: heaps, piles, lawful cuts, runs of them, and when a run is finished.
use Rattle.std.specs.Prelude.{ℕ, ◌+◌, ◌<◌, ◌≡◌, Bool, cond, not, ◌&&◌, ◌||◌, List, [], ◌∷◌, T, eqb, ltb}
use Rattle.meaning.specs.Count.{Bones, count, some, every, least}
use Rattle.meaning.specs.Tally.{Tally, total, weight}
use Rattle.meaning.specs.Firm.{firm}

-- 6. A heap gives each bone the name of its pile, the pile's least bone. It starts as one pile of all bones.
abbrev pub Heap : Type 0
Heap = ℕ → ℕ

unfoldable pub start : Heap
start b = 0

-- the bones below n of the pile named p; whether that pile stands
unfoldable pub pile : ℕ → Heap → ℕ → Bones
pile n h p b = ltb b n && eqb (h b) p

unfoldable pub stands : ℕ → Heap → ℕ → Bool
stands n h p = pile n h p p

-- the number of piles
unfoldable pub piles : ℕ → Heap → ℕ
piles n h = count n (stands n h)

-- a cut names a pile, states a weight, and gives the side that moves out
pub record Cut : Type 0 where
  pub name : ℕ
  pub weighs : ℕ
  pub side : Bones

-- a lawful cut of a heap
pub record Lawful (n : ℕ) (w : Tally) (k : ℕ) (h : Heap) (c : Cut) : Type 0 where
  pub standing : T (stands n h c.name)
  pub moving : T (some n c.side)
  pub staying : T (not (c.side c.name))
  pub within : (b : ℕ) → T (c.side b) → T (pile n h c.name b)
  pub true_weight : c.weighs ≡ weight n w (pile n h c.name) c.side
  pub light : c.weighs < k

-- the heap that a cut leaves: the moved bones become a pile under their own least bone
unfoldable pub parted : ℕ → Heap → Cut → Heap
parted n h c b = cond (c.side b) (least n c.side) (h b)

-- a run of lawful cuts from a heap, each lawful in the heap that those before it leave; and the heap that a run leaves
unfoldable pub LawfulRun : ℕ → Tally → ℕ → Heap → List Cut → Type 0
LawfulRun n w k h [] = Unit {0}
LawfulRun n w k h (c ∷ cs) = Lawful n w k h c × LawfulRun n w k (parted n h c) cs

unfoldable pub left : ℕ → Heap → List Cut → Heap
left n h [] = h
left n h (c ∷ cs) = left n (parted n h c) cs

-- the weights of a run, added up
unfoldable pub weights : List Cut → ℕ
weights [] = 0
weights (c ∷ cs) = c.weighs + weights cs

-- the tally between bones of different piles, each pair once
unfoldable pub between : ℕ → Tally → Heap → ℕ
between n w h = total n w (λ i j. ltb i j && not (eqb (h i) (h j)))

-- 7. A run of lawful cuts is finished when every pile that it leaves is firm.
unfoldable pub finished : ℕ → Tally → ℕ → Heap → Bool
finished n w k h = every n (λ p. not (stands n h p) || firm n w k (pile n h p))
