-- What the promises of the search and of the degrees settle: two answers that both keep one are equal. Of a search, whether there is a light split and in
-- which pile; which split of that pile is free.
-- Assumes nothing.
use Rattle.std.proofs.Common.{◌≡◌, ℕ, ◌<◌, ◌≤◌, ltb, List, length, Option, Some, None, is_some, sym, refl, ap, ◌∙◌, ⊎_elim, arith, ltb→lt, nltb→le, ext_get_or}
use Rattle.std.specs.Option.{option_map}
use Rattle.meaning.specs.Bytes.{Bytes}
use Rattle.meaning.specs.Tally.{Tally}
use Rattle.meaning.specs.Heap.{Heap, Lawful, stands}
use Rattle.meaning.proofs.Tests.{decide}
use Rattle.meaning.proofs.Heaps.{pile_bone, lawful_not_firm}
use Rattle.weighing.proofs.SideBytes.{sides_same}
use Rattle.weighing.specs.declared.search.Split.{Split}
use Rattle.weighing.specs.Search.{cut_of, FirmPiles, Searched}
use Rattle.weighing.specs.Degrees.{Noted, Lessened, Loosed}

-- ---- the search

module _ (n : ℕ) (w : Tally) (k : ℕ) (h : Heap) (from : ℕ) where
  -- a pile that has a lawful cut is not among those that are firm
  past : (r : Split) → Lawful n w k h (cut_of r) → from ≤ r.pile → (to : ℕ) → FirmPiles n w k h from to → to ≤ r.pile
  unfolding FirmPiles cut_of stands
  past r law above to firm =
      ⊎_elim (λ t. absurd (lawful_not_firm n w k h (cut_of r) law (firm r.pile above (ltb→lt r.pile to t) law.standing))) (λ t. nltb→le r.pile to t) (decide (ltb r.pile to))

  found : (r : Split) → Lawful n w k h (cut_of r) → r.pile < n
  unfolding cut_of stands
  found r law = pile_bone n h r.pile r.pile law.standing

  -- where one answer is none, every answer is
  pub searched_none : (s : Option Split) → Searched n w k h from None → Searched n w k h from s → s ≡ None
  unfolding Searched
  searched_none None x y = refl
  searched_none (Some s) x y = absurd (omega (arith, past s y.0 y.1 n x, found s y.0))

  pub searched_unique : (r s : Option Split) → Searched n w k h from r → Searched n w k h from s
      → (is_some r ≡ is_some s) × (option_map (λ x. x.pile) r ≡ option_map (λ x. x.pile) s)
  unfolding Searched
  searched_unique (Some r) (Some s) x y =
      let same : r.pile ≡ s.pile = omega (arith, past r x.0 x.1 s.pile y.2, past s y.0 y.1 r.pile x.2) in
      (refl, ap Some same)
  searched_unique (Some r) None x y = absurd (omega (arith, past r x.0 x.1 n y, found r x.0))
  searched_unique None s x y = let none = searched_none s x y in rw none (refl, refl)

-- ---- degrees

pub noted_unique : (n : ℕ) (w : Tally) (h : Heap) (c d : List ℕ) → Noted n w h c → Noted n w h d → c ≡ d
noted_unique n w h c d x y = ext_get_or 0 c d (x.notes.long ∙ sym y.notes.long) (λ b l. x.each b ∙ sym (y.each b))

pub lessened_unique : (less : ℕ → ℕ) (before c d : List ℕ) → Lessened less before c → Lessened less before d → c ≡ d
lessened_unique less before c d x y =
    ext_get_or 0 c d (x.notes.long ∙ sym y.notes.long) (λ b l. omega (arith, x.each b, y.each b, x.notes.small b, y.notes.small b))

-- that two sides are runs of bytes of one length, as their type says
abbrev pub SameWidth : Option Split → Option Split → Type 0
SameWidth r s = (a b : Split) → r ≡ Some a → s ≡ Some b → (length a.side ≡ length b.side) × Bytes a.side × Bytes b.side

-- a bone cut off by itself: two answers that agree on whether it was are the same
pub loosed_unique : (n : ℕ) (w : Tally) (k : ℕ) (h : Heap) (u : ℕ) (r s : Option Split) → is_some r ≡ is_some s → SameWidth r s
    → Loosed n w k h u r → Loosed n w k h u s → r ≡ s
unfolding Loosed
loosed_unique n w k h u (Some r) (Some s) e wide x y =
    let (long, bytes, bytes') = wide r s refl refl in
    let side : r.side ≡ s.side = sides_same r.side s.side long bytes bytes' (λ b. x.3 b ∙ sym (y.3 b)) in
    ap Some (rw (x.1, x.2, side, ← y.1, ← y.2))
loosed_unique n w k h u (Some r) None e wide x y = cc
loosed_unique n w k h u None (Some s) e wide x y = cc
loosed_unique n w k h u None None e wide x y = refl
