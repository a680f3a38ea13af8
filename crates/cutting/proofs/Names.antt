-- Laws of names: at the front of lent room, one bone after the other; as a heap; and its piles counted.
-- Assumes nothing.
use Prim.Native.Nat.{ℕ, zero, suc, ◌+◌, ◌≤◌, ◌<◌, min}
use mathlib.Core.Path.{◌≡◌, refl, sym, ◌∙◌, ap, ap₂, fun_ext}
use mathlib.Core.Bool.{Bool, cond, ◌&&◌}
use mathlib.Core.Logic.{⊎_elim}
use mathlib.Core.List.{List, [], ◌∷◌, ◌++◌, append-nil}
use native.Mathlib.Nat.{le_refl, not-suc-le-zero}
use native.Mathlib.Numerals.{add-one}
use native.Mathlib.Omega.{arith}
use lib.Dec.{eqb, leb, ltb, leb→le, nleb→lt, ltb→lt, nltb→le}
use lib.ListN.{length, get_or, take, drop, length-append, get_or-eq_default, set}
use lib.Seq.{take_all, take-append-le, append_snoc, get_or_at, ext_get_or}
use borrow.Author.Tests.{lt-ltb}
use Rattle.meaning.specs.Count.{sum, count}
use Rattle.meaning.specs.Heap.{Heap, piles, stands, pile}
use Rattle.meaning.proofs.Tests.{decide}
use Rattle.meaning.proofs.Sums.{sum_ext, count_most}
use Rattle.meaning.proofs.Sets.{last_or_below}
use Rattle.meaning.specs.Room.{fitted}
use Rattle.meaning.proofs.Room.{over_front, fitted_all, fitted_most, fitted_next}
use Rattle.weighing.specs.Side.{heap_of}
use Rattle.cutting.specs.Names.{names}

pub length-names : (n : ℕ) (h : Heap) → length (names n h) ≡ n
unfolding names
length-names zero h = refl
length-names (suc n) h = length-append (names n h) (h n ∷ []) ∙ omega (arith, length-names n h)

pub names_same : (n : ℕ) (g h : Heap) → ((b : ℕ) → b < n → g b ≡ h b) → names n g ≡ names n h
unfolding names
names_same zero g h e = refl
names_same (suc n) g h e =
    ap₂ (λ (x : List ℕ) (y : ℕ). x ++ y ∷ []) (names_same n g h (λ b l. e b (omega arith))) (e n (le_refl (suc n)))

pub names_at : (n : ℕ) (h : Heap) (rest : List ℕ) (b : ℕ) → b < n → get_or (names n h ++ rest) b 0 ≡ h b
unfolding names
names_at zero h rest b l = absurd (not-suc-le-zero l)
names_at (suc n) h rest b l =
    ⊎_elim
    (λ e. ap₂ (λ (x : List ℕ) (i : ℕ). get_or x i 0) (append_snoc (names n h) (h n) rest) e ∙ get_or_at (names n h) (h n) rest 0 n (length-names n h) ∙ ap h (sym e))
    (λ m. ap (λ (x : List ℕ). get_or x b 0) (append_snoc (names n h) (h n) rest) ∙ names_at n h (h n ∷ rest) b m)
    (last_or_below n l)

pub names_next : (i : ℕ) (h : Heap) → names (i + 1) h ≡ names i h ++ h i ∷ []
unfolding names
names_next i h = ap (λ (m : ℕ). names m h) (add-one i)

names-take : (k n : ℕ) (h : Heap) → k ≤ n → take k (names n h) ≡ names k h
unfolding names
names-take zero zero h l = refl
names-take (suc k) zero h l = absurd (not-suc-le-zero l)
names-take k (suc n) h l =
    ⊎_elim
    (λ t. take-append-le k (names n h) (h n ∷ []) (omega (arith, leb→le k n t, length-names n h)) ∙ names-take k n h (leb→le k n t))
    (λ t. let e : suc n ≡ k = omega (arith, nleb→lt k n t) in
    take_all k (names (suc n) h) (omega (arith, length-names (suc n) h)) ∙ ap (λ (m : ℕ). names m h) e)
    (decide (leb k n))

-- ---- names at the front of lent room

-- one name more
pub fitted_name : (i : ℕ) (h : Heap) (room : List ℕ) → set (fitted room 0 (names i h)) i (h i) ≡ fitted room 0 (names (i + 1) h)
fitted_name i h room =
    let e : i ≡ 0 + length (names i h) = omega (arith, length-names i h) in
    ap (λ (m : ℕ). set (fitted room 0 (names i h)) m (h i)) e ∙ fitted_next room 0 (names i h) (h i) ∙ ap (fitted room 0) (sym (names_next i h))

-- as many as the room takes
pub fitted-names : (n : ℕ) (h : Heap) (room : List ℕ) → fitted room 0 (names (min n (length room)) h) ≡ fitted room 0 (names n h)
fitted-names n h room =
    ap (fitted room 0) (sym (names-take (min n (length room)) n h (omega arith)))
    ∙ fitted_most room 0 (names n h) (min n (length room)) (omega (arith, length-names n h))

-- ---- names as a heap

-- a heap whose bones from n on are in pile 0
abbrev pub Within : ℕ → Heap → Type 0
Within n h = (b : ℕ) → n ≤ b → h b ≡ 0

pub heap_within : (xs : List ℕ) (n : ℕ) → length xs ≡ n → Within n (heap_of xs)
unfolding heap_of
heap_within xs n e b l = get_or-eq_default xs 0 (omega arith)

pub heap_of-names : (n : ℕ) (h : Heap) → Within n h → heap_of (names n h) ≡ h
unfolding heap_of
heap_of-names n h w =
    fun_ext
    (λ b. ⊎_elim
    (λ t. ap (λ (x : List ℕ). get_or x b 0) (sym (append-nil (names n h))) ∙ names_at n h [] b (ltb→lt b n t))
    (λ t. get_or-eq_default (names n h) 0 (omega (arith, length-names n h, nltb→le b n t)) ∙ sym (w b (nltb→le b n t)))
    (decide (ltb b n)))

pub names_of_heap : (n : ℕ) (xs : List ℕ) → length xs ≡ n → names n (heap_of xs) ≡ xs
unfolding heap_of
names_of_heap n xs e =
    ext_get_or 0 (names n (heap_of xs)) xs (length-names n (heap_of xs) ∙ sym e)
    (λ b l. ap (λ (x : List ℕ). get_or x b 0) (sym (append-nil (names n (heap_of xs)))) ∙ names_at n (heap_of xs) [] b (omega (arith, length-names n (heap_of xs))))

-- the names of the first bones, written to the front of lent room
pub names_written : (xs : List ℕ) (n : ℕ) (room : List ℕ) (count : ℕ) {new : List ℕ} → length xs ≡ 128 → count ≡ min (min n 128) (length room) → new ≡ take count xs → new ++ drop count room ≡ fitted room 0 (names (min n 128) (heap_of xs))
names_written xs n room count {new} long few e =
    let h = heap_of xs in
    let first : take count xs ≡ names count h = ap (take count) (sym (names_of_heap 128 xs long)) ∙ names-take count 128 h (omega arith) in
    let wide = length-names count h in
    ap (λ (x : List ℕ). x ++ drop count room) (e ∙ first)
    ∙ ap (λ (m : ℕ). names count h ++ drop m room) (sym wide)
    ∙ sym (over_front room (names count h))
    ∙ sym (fitted_all room 0 (names count h) (omega (arith, wide)))
    ∙ ap (λ (m : ℕ). fitted room 0 (names m h)) few
    ∙ fitted-names (min n 128) h room

-- the piles, counted by the bones whose name is their own
pub piles_heads : (n : ℕ) (h : Heap) → piles n h ≡ sum n (λ b. cond (eqb (h b) b) 1 0)
unfolding piles count stands pile
piles_heads n h = sum_ext n _ _ (λ b l. ap (λ (t : Bool). cond (t && eqb (h b) b) 1 0) (lt-ltb b n l))

pub sum_next : (i : ℕ) (f : ℕ → ℕ) → sum (i + 1) f ≡ sum i f + f i
unfolding sum
sum_next i f = ap (λ (k : ℕ). sum k f) (add-one i)

-- so many heads among so many bones
pub heads_most : (i : ℕ) (h : Heap) → sum i (λ b. cond (eqb (h b) b) 1 0) ≤ i
unfolding count
heads_most i h = count_most i (λ b. eqb (h b) b)
