-- Laws of rows: the tallies of a bone changed pair by pair, each by that of another bone; what was added is taken out again; and merges, which are rows
-- added one after the other.
-- Assumes nothing.
use Rattle.std.proofs.Common.{◌≡◌, ℕ, ◌+◌, ◌%◌, ◌<◌, ◌≤◌, not, ◌&&◌, ◌||◌, T, eqb, List, length, get_or, sym, refl, ◌∙◌, ⊎_elim, le_refl, mod-eq_of_lt, arith, eqb→eq, T_not, ext_get_or}
use mathlib.Core.Path.{fun_ext}
use mathlib.Core.Bool.{beq}
use lib.Dec.{eqb_refl}
use Rattle.meaning.specs.Count.{Bones, some}
use Rattle.meaning.proofs.Tests.{◌⇒◌, imp, taut, so, ◌⊃◌, both, decide, either, left_of, right_of, or_left, or_right, eq→eqb, neqb→ne, ne→neqb}
use Rattle.meaning.proofs.Sets.{some_intro, some_elim}
use Rattle.links.specs.Table.{spot, held, raised}
use Rattle.links.proofs.TableSpots.{one_pair}
use Rattle.links.proofs.TableRaised.{length-raised, held-raised, raised_elsewhere}
use Rattle.weighing.specs.Lists.{listed, Once}
use Rattle.weighing.specs.Merge.{but_for, Row, RowAdded, RowTaken, Merges, Fold, Grouped, Stacked}
use Rattle.weighing.specs.declared.list.Blocks.{Blocks}
use Rattle.weighing.proofs.Listing.{beq_same, with_one, listed_more, listed_low, listed_less, listed-not, once_less}

-- no pair yet
pub row-start : {f : ℕ → ℕ} {Fits : ℕ → ℕ → Type 0} (t xs : List ℕ) (a b : ℕ) → length t ≡ 16384 → Row f Fits t t a b (but_for (listed xs 0) a)
unfolding listed some
row-start t xs a b long = record { long = long; long' = long; fits = λ c h r. absurd r; hit = λ c h r. absurd r; miss = λ y n. refl }

module _ {f : ℕ → ℕ} {Fits : ℕ → ℕ → Type 0} {t t' : List ℕ} {a b : ℕ} {R : Bones} (ha : a < 128) (hb : b < 128) (ab : a ≡ b → ⊥) (row : Row f Fits t t' a b R) where
  -- the tallies of b with others than a stay
  of_b : (c : ℕ) → c < 128 → (c ≡ a → ⊥) → held t' b c ≡ held t b c
  unfolding held
  of_b c hc ca = row.miss (spot b c) (λ x l r e. ⊎_elim (λ q. ab (sym q.0)) (λ q. ca q.1) (one_pair b c a x hb hc ha l e))

  -- one more bone
  row_next : (c : ℕ) → c < 128 → (c ≡ a → ⊥) → T (not (R c)) → Fits (held t' a c) (held t' b c) → Row f Fits t (raised t' a c (f (held t' b c))) a b (with_one R c)
  unfolding held
  row_next c hc ca fresh fits =
      record {
        long = row.long;
        long' = length-raised t' a c _ ∙ row.long';
        fits = λ x h r. ⊎_elim (row.fits x h) (λ s. rw (eqb→eq x c s) (rw (of_a, of_b c hc ca) at fits)) (either (R x) (eqb x c) r);
        hit = λ x h r. ⊎_elim
            (λ s. raised_elsewhere t' a c _ (spot a x) (far x h s) ∙ row.hit x h s)
            (λ s. rw (eqb→eq x c s) (held-raised t' a c _ row.long' ha hc ∙ rw (of_a, of_b c hc ca)))
            (either (R x) (eqb x c) r);
        miss = λ y n. raised_elsewhere t' a c _ y (n c hc (or_right (R c) (eqb c c) (eqb_refl c))) ∙ row.miss y (λ x l r. n x l (or_left (R x) (eqb x c) r));
      }
    where
      far : (x : ℕ) → x < 128 → T (R x) → spot a x ≡ spot a c → ⊥
      far x h s e = ⊎_elim (λ q. T_not (R c) fresh (rw q.1 at s)) (λ q. ca (sym q.0)) (one_pair a x a c ha h ha hc e)

      of_a : held t' a c ≡ held t a c
      of_a = row.miss (spot a c) (λ x l r e. far x l r (sym e))

-- one turn of a loop over the places of a list: the bone c there is a itself, and no tally changes, or that of its pair does
pub data Turn (f : ℕ → ℕ) (Fits : ℕ → ℕ → Type 0) (t t' : List ℕ) (a b c : ℕ) : Type 0 where
  put : (by : ℕ) → (c ≡ a → ⊥) → by ≡ held t (b % 128) (c % 128) → Fits (held t (a % 128) (c % 128)) by → t' ≡ raised t (a % 128) (c % 128) (f by) → Turn f Fits t t' a b c
  skip : c ≡ a → t' ≡ t → Turn f Fits t t' a b c

but_one : (R : Bones) (a c : ℕ) → (c ≡ a → ⊥) → but_for (with_one R c) a ≡ with_one (but_for R a) c
but_one R a c n =
    fun_ext (λ b. beq_same _ _ (taut 3 (λ r e q. (e ⇒ not q) ⊃ so (beq ((r || e) && not q) ((r && not q) || e))) tt
    (R b) (eqb b c) (eqb b a) (imp (eqb b c) (not (eqb b a)) (λ t. ne→neqb b a (λ q. n (sym (eqb→eq b c t) ∙ q))))))

but_none : (R : Bones) (a c : ℕ) → c ≡ a → but_for (with_one R c) a ≡ but_for R a
but_none R a c s =
    fun_ext (λ b. beq_same _ _ (taut 3 (λ r e q. (e ⇒ q) ⊃ so (beq ((r || e) && not q) (r && not q))) tt
    (R b) (eqb b c) (eqb b a) (imp (eqb b c) (eqb b a) (λ t. eq→eqb b a (eqb→eq b c t ∙ s)))))

pub row_turn : {f : ℕ → ℕ} {Fits : ℕ → ℕ → Type 0} {t t' t'' xs : List ℕ} {a b c m i : ℕ} → Once xs m → i < m → a < 128 → b < 128 → (a ≡ b → ⊥)
    → Row f Fits t t' a b (but_for (listed xs i) a) → c ≡ get_or xs i 0 → Turn f Fits t' t'' a b c → Row f Fits t t'' a b (but_for (listed xs (i + 1)) a)
row_turn {xs = xs} {a = a} {c = c} {i = i} single l ha hb ab row read (put by n e fits s) =
    let hc : c < 128 = omega (arith, single.low i l) in
    let new : T (not (but_for (listed xs i) a c)) = taut 2 (λ r q. not r ⊃ so (not (r && not q))) tt (listed xs i c) (eqb c a) (rw read (listed-not single i i (le_refl i) l)) in
    rw (listed_more, ← read, but_one _ a c n, s, e, mod-eq_of_lt ha, mod-eq_of_lt hb, mod-eq_of_lt hc)
    (row_next ha hb ab row c hc n new (rw (e, mod-eq_of_lt ha, mod-eq_of_lt hb, mod-eq_of_lt hc) at fits))
row_turn {a = a} {c = c} single l ha hb ab row read (skip e s) = rw (listed_more, ← read, but_none _ a c e, s) row

-- what was added and is taken out leaves what was there before
pub row_back : {t t' t'' : List ℕ} {a b : ℕ} (R : Bones) → a < 128 → b < 128 → (a ≡ b → ⊥) → RowAdded t t' a b (but_for R a) → RowTaken t' t'' a b (but_for R a) → t'' ≡ t
unfolding held
row_back {t} {t'} {t''} {a} {b} R ha hb ab added taken =
    ext_get_or 0 t'' t (taken.long' ∙ sym added.long)
    (λ y h. let touched : Bones = λ c. but_for R a c && eqb y (spot a c) in
    ⊎_elim
    (λ s. let (c, l, is) = some_elim 128 touched s in
    let r = left_of (but_for R a c) _ is in
    let same = of_b ha hb ab added c l (neqb→ne c a (right_of (R c) _ r)) in
    rw (eqb→eq y (spot a c) (right_of (but_for R a c) _ is)) (omega (arith, same, added.fits c l r, added.hit c l r, taken.fits c l r, taken.hit c l r)))
    (λ n. let off : (c : ℕ) → c < 128 → T (but_for R a c) → y ≡ spot a c → ⊥ = λ c l r e. T_not (some 128 touched) n (some_intro 128 touched c l (both (but_for R a c) _ r (eq→eqb y (spot a c) e))) in
    taken.miss y off ∙ added.miss y off)
    (decide (some 128 touched)))

-- ---- merges

-- what a row wants of a bone and its head
pub fold_place : {list into : List ℕ} {lo hi j s v : ℕ} → Once list hi → Fold list into lo s j s v → j < hi → (v < 128) × (get_or list j 0 < 128) × (v ≡ get_or list j 0 → ⊥) × Once list s
fold_place {list} {j = j} {s = s} {v = v} single fold high =
    let before = fold.upto in
    let group = once_less {l = s} single (omega arith) in (
      listed_low group v fold.stands,
      single.low j high,
      λ e. T_not (listed list s (get_or list j 0)) (listed-not single s j before high) (rw e at fold.stands),
      group,
    )

-- the same of the blocks of a pile
pub grouped_at : {b : Blocks} {lo hi j : ℕ} → Once b.list hi → Fold b.list b.into lo (get_or b.start j 0) j (get_or b.start j 0) (get_or b.into j 0) → j < hi → Grouped b j
grouped_at single fold high =
    let place = fold_place single fold high in
    record { low = omega (arith, single.few); head_low = place.0; bone_low = place.1; apart = place.2; group = place.3 }

-- a head stands before the bones that were merged into it
pub before : {b : Blocks} → Stacked b → (j : ℕ) → b.count ≤ j → j < b.size → T (listed b.list j (get_or b.into j 0))
before {b} stacked j h l = let f = stacked.folded j h l in listed_less b.list (get_or b.start j 0) j (get_or b.into j 0) f.upto f.stands

module _ {list into start : List ℕ} {hi : ℕ} {t : List ℕ} where
  pub merges_low : {lo : ℕ} {t' : List ℕ} → Merges list into start hi t lo t' → lo ≤ hi
  merges_low Merges.none = le_refl hi
  merges_low (Merges.more m row) = omega (arith, merges_low m)

  pub merges_none : {lo : ℕ} {t' : List ℕ} → Merges list into start hi t lo t' → lo ≡ hi → t' ≡ t
  merges_none Merges.none e = refl
  merges_none (Merges.more m row) e = absurd (omega (arith, merges_low m))

  -- where u is what the last row was added to
  pub merges_back : {lo : ℕ} {t'' u : List ℕ} → Merges list into start hi t lo t'' → lo < hi → ((t' : List ℕ) → RowAdded t' t'' (get_or into lo 0) (get_or list lo 0) (but_for (listed list (get_or start lo 0)) (get_or into lo 0)) → u ≡ t') → Merges list into start hi t (lo + 1) u
  merges_back Merges.none l was = absurd (omega arith)
  merges_back (Merges.more {t' = t'} m row) l was = rw (was t' row) m
