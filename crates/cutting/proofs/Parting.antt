-- Laws of parting a heap: trying a side bone by bone, its least bone, and the names of a parted heap.
-- Assumes nothing.
use Prim.Native.Nat.{ℕ, zero, suc, ◌/◌, ◌≤◌, ◌<◌, suc-le-suc, zero-le, min}
use mathlib.Core.Path.{◌≡◌, refl, ◌∙◌, ap, ap₂, fun_ext}
use mathlib.Core.Logic.{⊎_elim}
use mathlib.Core.Bool.{Bool, cond, not, ◌&&◌, true, false}
use mathlib.Core.List.{List, [], ◌∷◌}
use native.Mathlib.Omega.{arith}
use lib.Dec.{T, ltb, lt→ltb, ltb→lt, nltb→le, T_not, not_T}
use lib.ListN.{length, get_or, replicate}
use Rattle.meaning.specs.Count.{Bones, some, least}
use Rattle.meaning.specs.Judge.{Judged, Accepted}
use Rattle.meaning.specs.Heap.{Heap, start, Cut, parted, left}
use Rattle.meaning.proofs.Tests.{decide, is_false, same_test, both, right_of, is_true}
use Rattle.meaning.proofs.Sets.{some_intro, some_elim, least_is}
use Rattle.weighing.specs.Side.{heap_of}
use Rattle.cutting.specs.Record.{entry_size, cuts_of}
use Rattle.meaning.specs.Room.{settled}
use Rattle.meaning.proofs.Room.{settled_new}
use Rattle.cutting.specs.Names.{names}
use Rattle.cutting.proofs.Narrow.{Narrow, Narrows, narrow_cuts}
use Rattle.cutting.proofs.Names.{length-names, Within, heap_within, heap_of-names}

-- the least bone of a side: the first that is on it; and n where none is
pub least_here : (n : ℕ) (X : Bones) (b : ℕ) → b < n → T (X b) → ((c : ℕ) → c < b → T (not (X c))) → least n X ≡ b
least_here n X b h t f =
    least_is n X b h t
    (λ c l s. ⊎_elim (λ u. absurd (T_not (X c) (f c (ltb→lt c b u)) s)) (nltb→le c b) (decide (ltb c b)))

pub least_none : (n : ℕ) (X : Bones) → ((c : ℕ) → c < n → T (not (X c))) → least n X ≡ n
unfolding least
least_none zero X f = refl
least_none (suc n) X f =
    ap₂ (λ (x : Bool) (m : ℕ). cond x 0 (suc m)) (is_false (X 0) (f 0 (suc-le-suc zero-le))) (least_none n (λ c. X (suc c)) (λ c l. f (suc c) (suc-le-suc l)))

-- whether some bone passes: one does; and none does
pub some_here : (n : ℕ) (X : Bones) (b : ℕ) → b < n → T (X b) → some n X ≡ true
some_here n X b h t = is_true (some n X) (some_intro n X b h t)

pub some_none : (n : ℕ) (X : Bones) → ((c : ℕ) → c < n → T (not (X c))) → some n X ≡ false
some_none n X f = is_false (some n X) (not_T (some n X) (λ t. let r = some_elim n X t in T_not (X r.0) (f r.0 r.1) r.2))

-- among the bones below n no more is asked of them than that
pub some_below : (n : ℕ) (X : Bones) → some n (λ b. ltb b n && X b) ≡ some n X
some_below n X =
    same_test _ _
    (λ t. let r = some_elim n (λ b. ltb b n && X b) t in some_intro n X r.0 r.1 (right_of (ltb r.0 n) (X r.0) r.2))
    (λ t. let r = some_elim n X t in some_intro n (λ b. ltb b n && X b) r.0 r.1 (both (ltb r.0 n) (X r.0) (lt→ltb r.0 n r.1) r.2))

-- a heap of 128 bones stays one when it is parted, and when a run of cuts parts it
pub parted_within : (n : ℕ) (h : Heap) (c : Cut) → Narrow c → Within 128 h → Within 128 (parted n h c)
unfolding parted
parted_within n h c narrow w b l =
    ap (λ (t : Bool). cond t (least n c.side) (h b)) (is_false (c.side b) (not_T (c.side b) (λ s. absurd (omega (arith, narrow b s, l)))))
    ∙ w b l

left_within : (n : ℕ) (cs : List Cut) (h : Heap) → Narrows cs → Within 128 h → Within 128 (left n h cs)
unfolding left
left_within n [] h narrow w = w
left_within n (c ∷ cs) h narrow w =
    left_within n cs (parted n h c) narrow.1 (parted_within n h c narrow.0 w)

-- 128 names of a parted heap mean that heap
pub parted-names : (n : ℕ) (old : List ℕ) (c : Cut) {new : List ℕ} → n ≤ 128 → length old ≡ 128 → Narrow c → new ≡ names 128 (parted (min n 128) (heap_of old) c)
    → (heap_of new ≡ parted n (heap_of old) c) × (length new ≡ 128)
parted-names n old c few long narrow e =
    let all : min n 128 ≡ n = omega arith in (
      ap heap_of e
          ∙ heap_of-names 128 (parted (min n 128) (heap_of old) c) (parted_within (min n 128) (heap_of old) c narrow (heap_within old 128 long))
          ∙ ap (λ (m : ℕ). parted m (heap_of old) c) all,
      ap length e ∙ length-names 128 (parted (min n 128) (heap_of old) c),
    )

-- and those that an accepted record leaves mean the heap that it leaves
pub judged_names : (n : ℕ) (bytes was : List ℕ) {r : Judged} {new : List ℕ} → n ≤ 128 → r ≡ Accepted
    → new ≡ settled r was (names 128 (left (min n 128) start (cuts_of bytes)))
    → (heap_of new ≡ left n start (cuts_of bytes)) × (length new ≡ 128)
unfolding cuts_of start
judged_names n bytes was few accepted e =
    let all : min n 128 ≡ n = omega arith in
    let cs : List Cut = cuts_of bytes in
    let new = e ∙ settled_new was (names 128 (left (min n 128) start cs)) accepted in (
      ap heap_of new
          ∙ heap_of-names 128 (left (min n 128) start cs) (left_within (min n 128) cs start (narrow_cuts (length bytes / entry_size) bytes) (λ b l. refl))
          ∙ ap (λ (m : ℕ). left m start cs) all,
      ap length new ∙ length-names 128 (left (min n 128) start cs),
    )

-- names that are all nought are one pile of all bones
pub heap_start : (m : ℕ) → heap_of (replicate m 0) ≡ start
unfolding heap_of start
heap_start m = fun_ext (nought m)
  where
    nought : (m b : ℕ) → ◌≡◌ {A = ℕ} (get_or (replicate m 0) b 0) 0
    nought zero b = refl
    nought (suc m) zero = refl
    nought (suc m) (suc b) = nought m b
