-- Laws of degrees: one bone more is noted, and notes are lessened; and of the cut that parts one bone from its pile: what it weighs, that it is lawful, and its
-- side as bytes.
-- Assumes nothing.
use Rattle.std.proofs.Common.{◌≡◌, ℕ, ◌+◌, ◌*◌, ◌%◌, ◌^◌, ◌<◌, Bool, true, false, cond, not, ◌&&◌, T, eqb, ltb, List, length, get_or, set, replicate, sym, refl, ap, ◌∙◌, ⊎_elim, zero-le, le_refl, add-zero, Some, arith, eqb→eq, ltb→lt, length-set, get_or-set_other, get_or-set_same, le-ltb, lt-ltb, eq-eqb, ne_eqb, ◌≤◌}
use Rattle.std.specs.Int.{from_bool}
use mathlib.Core.Path.{fun_ext}
use mathlib.Core.Bool.{and-false, beq}
use native.Mathlib.Decide.{ℕ_discrete}
use lib.Dec.{eqb_refl}
use Rattle.meaning.specs.Count.{Bones}
use Rattle.meaning.specs.Tally.{Tally, weight}
use Rattle.meaning.specs.Heap.{Heap, pile, stands}
use Rattle.meaning.proofs.Sums.{sum_next, sum_ext}
use Rattle.meaning.proofs.Totals.{Symmetric, total_ext}
use Rattle.meaning.proofs.Tests.{◌⇒◌, taut, so, ◌⊃◌, left_of, right_of, decide, is_true, is_false, neqb→ne}
use Rattle.meaning.proofs.Sets.{some_elim}
use Rattle.meaning.proofs.Firm.{splits_intro}
use Rattle.meaning.proofs.Heaps.{pile_intro}
use Rattle.weighing.specs.Side.{side_of}
use Rattle.weighing.proofs.Sides.{pile_below}
use Rattle.weighing.proofs.Listing.{cond_none, cond_and, cond_plus, eqb_turn, ltb_skip, noughts, blank, stored, beq_same}
use Rattle.weighing.specs.Degrees.{toward, others, mate, degree, Noted, share, parting, Notes, Lessened, joined, moves, Loosed}
use Rattle.weighing.proofs.Taking.{at_bone, total_at}
use Rattle.weighing.proofs.Finding.{apart, light_lawful}
use Rattle.weighing.specs.Lists.{marked}
use Rattle.weighing.specs.Search.{cut_of}
use Rattle.weighing.specs.declared.search.Split.{Split}

pub toward_next : (i : ℕ) (w : Tally) (S : Bones) (b : ℕ) → toward (i + 1) w S b ≡ toward i w S b + cond (S i) (w b i) 0
unfolding toward
toward_next i w S b = sum_next i _

-- ---- notes

-- a number or nought, as a product
pub product : (x : ℕ) (t : Bool) {y : ℕ} → y ≡ from_bool t → x * y ≡ cond t x 0
product x true e = rw e (omega arith)
product x false e = rw e (omega arith)

-- which is no more than the number
pub product_most : (x : ℕ) (t : Bool) {y : ℕ} → y ≡ from_bool t → x * y ≤ x
product_most x true e = rw e (omega arith)
product_most x false e = rw e (omega arith)

-- one place more is stored
pub store_next : (f g : ℕ → ℕ) (d : List ℕ) (i v : ℕ) → i < length d → (get_or d i 0 ≡ g i → v ≡ f i) → ((b : ℕ) → get_or d b 0 ≡ cond (ltb b i) (f b) (g b)) → (b : ℕ) → get_or (set d i v) b 0 ≡ cond (ltb b (i + 1)) (f b) (g b)
store_next f g d i v low e known b =
    stored d i v 0 (λ b y. y ≡ cond (ltb b (i + 1)) (f b) (g b)) low (rw (lt-ltb i (i + 1) (omega arith)) (e (known i ∙ rw (le-ltb i i (le_refl i))))) b
    (λ n. known b ∙ ap (λ (t : Bool). cond t (f b) (g b)) (ltb_skip b i n))

noted : {n : ℕ} {w : Tally} {h : Heap} {d : List ℕ} → length d ≡ 128 → ((b : ℕ) → get_or d b 0 ≡ cond (ltb b n) (degree n w h b % 2 ^ 32) 0) → Noted n w h d
noted {n} {w} {h} long each =
    record {
      notes = record { long = long; small = λ b. omega (arith, each b, below (ltb b n) (degree n w h b)) };
      each = each;
    }
  where
    below : (t : Bool) (x : ℕ) → cond t (x % 2 ^ 32) 0 < 2 ^ 32
    below true x = omega arith
    below false x = omega arith

pub noted_none : (w : Tally) (h : Heap) (s : ℕ) → length {A = ℕ} (replicate s 0) ≡ 128 → Noted 0 w h (replicate s 0)
noted_none w h s long = noted long (λ b. noughts s b ∙ rw (le-ltb b 0 zero-le))

module _ (w : Tally) (symmetric : Symmetric w) (h : Heap) (i : ℕ) (low : i < 128) where
  -- bone i comes in: d holds what the bones before it have then, and own is its own degree
  pub noted_next : {notes : List ℕ} (d : List ℕ) (own : ℕ) → Noted i w h notes → length d ≡ 128 → own ≡ toward i w (mate h i) i % 2 ^ 32
      → ((b : ℕ) → get_or d b 0 ≡ cond (ltb b i) ((get_or notes b 0 + cond (mate h i b) (w i b) 0) % 2 ^ 32) (get_or notes b 0)) → Noted (i + 1) w h (set d i own)
  unfolding degree mate others
  noted_next {notes} d own before long sums known =
      noted (length-set d i own ∙ long)
      (store_next (λ b. degree (i + 1) w h b % 2 ^ 32) (λ b. 0) d i own (omega arith)
      (λ _. omega (arith, sums, rw (eq-eqb i i refl, and-false) at (toward_next i w (mate h i) i)))
      (λ b. known b ∙ grown b (ltb b i) (before.each b)))
    where
      grown : (b : ℕ) (t : Bool) → get_or notes b 0 ≡ cond t (degree i w h b % 2 ^ 32) 0 → cond t ((get_or notes b 0 + cond (mate h i b) (w i b) 0) % 2 ^ 32) (get_or notes b 0) ≡ cond t (degree (i + 1) w h b % 2 ^ 32) 0
      grown b true e =
          let turned : cond (mate h i b) (w i b) 0 ≡ cond (mate h b i) (w b i) 0 = rw (eqb_turn (h b) (h i), eqb_turn b i, symmetric i b) in
          omega (arith, e, turned, toward_next i w (mate h b) b)
      grown b false e = e

-- ---- less

-- a term for each b below i + 1
pub upto_next : (f : ℕ → ℕ) (i b : ℕ) → cond (ltb b (i + 1)) (f b) 0 ≡ cond (ltb b i) (f b) 0 + cond (eqb b i) (f i) 0
upto_next f i b = elim (ℕ_discrete b i) [
  | yes e ↦ rw (e, lt-ltb i (i + 1) (omega arith), le-ltb i i (le_refl i), eq-eqb i i refl) (omega arith)
  | no n ↦ rw (← ltb_skip b i n, ne_eqb b i n, add-zero)
]

pub less_same : {f g : ℕ → ℕ} {d d' : List ℕ} → ((b : ℕ) → f b ≡ g b) → Lessened f d d' → Lessened g d d'
less_same e known = record { notes = known.notes; each = λ b. rw (← e b) (known.each b) }

pub less_none : {d : List ℕ} → Notes d → Lessened (λ b. 0) d d
less_none known = record { notes = known; each = λ b. omega (arith, known.small b) }

pub less_then : {f g : ℕ → ℕ} {d d' d'' : List ℕ} → Lessened f d d' → Lessened g d' d'' → Lessened (λ b. f b + g b) d d''
less_then known then = record { notes = then.notes; each = λ b. omega (arith, known.each b, then.each b) }

-- one note is lessened
pub less_at : {f : ℕ → ℕ} {d d' : List ℕ} (i x v : ℕ) → i < 128 → v < 2 ^ 32 → (v + x % 2 ^ 32) % 2 ^ 32 ≡ get_or d' i 0 → Lessened f d d' → Lessened (λ b. f b + cond (eqb b i) x 0) d (set d' i v)
less_at {f} {d} {d'} i x v low fits e known =
    let room : i < length d' = omega (arith, known.notes.long) in
    record {
      notes = record { long = length-set d' i v ∙ known.notes.long; small = λ b. stored d' i v 0 (λ b y. y < 2 ^ 32) room fits b (λ n. known.notes.small b) };
      each = λ b.
          stored d' i v 0 (λ b y. (y + (f b + cond (eqb b i) x 0)) % 2 ^ 32 ≡ get_or d b 0) room (rw (eq-eqb i i refl) (omega (arith, e, known.each i))) b
          (λ n. rw (ne_eqb b i n, add-zero) (known.each b));
    }

-- what is lost once the bones below i that bear the name x have left those of y
unfoldable pub lost_by : ℕ → ℕ → Tally → Heap → ℕ → ℕ → ℕ → ℕ
lost_by i n w h x y b = cond (pile i h x b) (toward n w (others h y b) b) 0 + cond (pile n h y b) (toward i w (others h x b) b) 0

module _ (n : ℕ) (w : Tally) (h : Heap) (x y : ℕ) where
  -- bone i is gone through, and takes what it takes if it bears the name
  pub lost_next : Symmetric w → (i b : ℕ) → lost_by i n w h x y b + cond (eqb (h i) x) (parting n w (others h y i) i b) 0 ≡ lost_by (i + 1) n w h x y b
  unfolding lost_by parting share others pile
  lost_next symmetric i b =
      omega (
        arith,
        cond_and (ltb b i) (eqb (h b) x) (toward n w (others h y b) b),
        cond_and (ltb b (i + 1)) (eqb (h b) x) (toward n w (others h y b) b),
        upto_next (λ b. cond (eqb (h b) x) (toward n w (others h y b) b) 0) i b,
        ap (λ (m : ℕ). cond (pile n h y b) m 0) (toward_next i w (others h x b) b) ∙ cond_plus (pile n h y b) (toward i w (others h x b) b) _,
        tests (eqb (h i) x) (ltb b n) (eqb (h b) y) (toward n w (others h y i) i) (eqb_turn b i) (symmetric i b),
      )
    where
      tests : (s l e : Bool) (t : ℕ) {q q' : Bool} {m m' : ℕ} → q ≡ q' → m ≡ m' → cond s (cond l (cond (e && not q) m 0) 0 + cond q t 0) 0 ≡ cond q (cond s t 0) 0 + cond (l && e) (cond (s && not q') m' 0) 0
      tests true true true t p r = rw (← p, ← r) (omega arith)
      tests true true false t p r = omega arith
      tests true false e t p r = omega arith
      tests false l e t {q} p r = omega (arith, cond_none q, cond_none (l && e))

module _ (n : ℕ) (w : Tally) (h : Heap) (u : ℕ) (low : u < n) where
  own : (b : ℕ) → T (eqb b u ⇒ pile n h (h u) b)
  own b = at_bone (pile n h (h u)) u b (pile_intro n h (h u) u low refl)

  -- a bone against the rest of its pile weighs its degree
  lone-weight : degree n w h u ≡ weight n w (pile n h (h u)) (λ b. eqb b u)
  unfolding degree toward mate others weight
  lone-weight =
      sum_ext n _ _ (λ c l. rw (pile_below n h (h u) c l))
      ∙ sym (total_at n w u (λ i j. pile n h (h u) j && not (eqb j u)) low)
      ∙ total_ext n w _ _ (λ i j hi hj. beq_same _ _ (taut 3 (λ e s x. (e ⇒ s) ⊃ so (beq (e && x) ((s && e) && x))) tt (eqb i u) (pile n h (h u) i) (pile n h (h u) j && not (eqb j u)) (own i)))

  -- the bones that this cut moves out are those on the other side than the bone that names the pile
  pub moves_apart : (b : ℕ) → moves n h u b ≡ apart n h (h u) (λ c. eqb c u) b
  unfolding moves mate others pile
  moves_apart b =
      beq_same _ _
      (taut 4 (λ t a e q. (q ⇒ a && e) ⊃ so (beq (cond t (a && (e && not q)) q) ((a && e) && not (beq q t)))) tt
      (eqb (h u) u) (ltb b n) (eqb (h b) (h u)) (eqb b u) (own b))

pub joined_low : (n : ℕ) (h : Heap) (u : ℕ) → T (joined n h u) → u < n
unfolding joined
joined_low n h u t = ltb→lt u n (left_of (ltb u n) _ t)

pub loosed : (n : ℕ) (w : Tally) (k : ℕ) (h : Heap) (u : ℕ) (r : Split) → Symmetric w → T (joined n h u) → r.pile ≡ h u → r.weight ≡ degree n w h u → r.weight < k → ((b : ℕ) → side_of r.side b ≡ moves n h u b) → Loosed n w k h u (Some r)
unfolding Loosed cut_of joined mate others
loosed n w k h u r symmetric t named weighed light side =
    let low = joined_low n h u t in
    let rest = right_of (ltb u n) _ t in
    let (c, below, is) = some_elim n (mate h u) (right_of (stands n h (h u)) _ rest) in
    let cut =
    light_lawful n k w symmetric h (h u) (λ b. eqb b u) (left_of (stands n h (h u)) _ rest) r.weight
    (record {
      true_weight = weighed ∙ lone-weight n w h u low;
      is_light = light;
      parts = splits_intro n (pile n h (h u)) (λ b. eqb b u) u c low below (pile_intro n h (h u) u low refl) (eqb_refl u)
          (pile_intro n h (h u) c below (eqb→eq _ _ (left_of (eqb (h c) (h u)) _ is))) (right_of (eqb (h c) (h u)) _ is);
    }) in
    (rw (named, fun_ext (λ b. side b ∙ moves_apart n w h u low b)) cut, named, weighed, side)

-- a run of marks with one set
pub one_mark : (u b s : ℕ) → u < length (replicate s false) → marked (set (replicate s false) u true) b ≡ eqb b u
unfolding marked
one_mark u b s low =
    ⊎_elim
    (λ t. rw (is_true (eqb b u) t, eqb→eq b u t, get_or-set_same (replicate s false) u true false low))
    (λ t. rw (is_false (eqb b u) t, get_or-set_other (replicate s false) u b true false (neqb→ne b u t), blank false s b))
    (decide (eqb b u))
