-- Places of a list filled one by one, each with a bone that stands in none of them yet: the bones of a pile put into a list; and the bones of a pass laid out,
-- the first of them, one more that is tied or leads, and all of them.
-- Assumes nothing.
use Rattle.std.proofs.Common.{◌≡◌, ℕ, ◌+◌, ◌-◌, ◌<◌, ◌≤◌, Bool, cond, not, T, eqb, ltb, ◌⊎◌, List, length, get_or, set, sym, refl, ap, ◌∙◌, inl, inr, ⊎_elim, le_refl, eq-or-lt_of_le, arith, ltb→lt, nltb→le, T_not, length-set, get_or-set_other, get_or-set_same, eq-eqb, ne_eqb}
use Rattle.std.specs.Int.{from_bool}
use native.Mathlib.Decide.{ℕ_discrete}
use Rattle.meaning.specs.Count.{Bones}
use Rattle.meaning.proofs.Tests.{decide, same_test}
use Rattle.weighing.specs.Lists.{listed, Once, marked}
use Rattle.weighing.proofs.Listing.{bit_of, cond_yes, cond_no, listed_by, listed-place, stored, listed_ext, listed_less, unmarked_most, unmarked_tied, unmarked_head}
use Rattle.weighing.specs.Merge.{Long, Fold, unmarked, Laid}

pub last_or : (p n : ℕ) → p < n + 1 → (p ≡ n) ⊎ (p < n)
last_or p n h = eq-or-lt_of_le (omega arith)

-- what holds of one number more
abbrev pub More : (ℕ → Type 0) → ℕ → (ℕ → Type 0) → Type 0
More P n P' = P' n × ((p : ℕ) → P p → P' p) × ((p : ℕ) → P' p → (p ≡ n) ⊎ P p)

-- the places of `used` hold the bones of X, each once: every bone has its place
pub record Filled (list : List ℕ) (used X : ℕ → Type 0) : Type 0 where
  pub place : ℕ → ℕ
  pub there : (b : ℕ) → X b → used (place b) × (get_or list (place b) 0 ≡ b)
  pub back : (p : ℕ) → used p → X (get_or list p 0) × (place (get_or list p 0) ≡ p)

pub filled_none : (list : List ℕ) {used X : ℕ → Type 0} → ((p : ℕ) → used p → ⊥) → ((b : ℕ) → X b → ⊥) → Filled list used X
filled_none list f g = record { place = λ b. 0; there = λ b x. absurd (g b x); back = λ p u. absurd (f p u) }

pub filled_as : {list : List ℕ} {used used' X X' : ℕ → Type 0} → Filled list used X → ((p : ℕ) → used p → used' p) → ((p : ℕ) → used' p → used p) → ((b : ℕ) → X b → X' b) → ((b : ℕ) → X' b → X b) → Filled list used' X'
filled_as so f g h k =
    record {
      place = so.place;
      there = λ b x. let r = so.there b (k b x) in (f _ r.0, r.1);
      back = λ p u. let r = so.back p (g p u) in (h _ r.0, r.1);
    }

-- a bone is stored in a place that was not in use, and is so then, or not
module _ {list : List ℕ} {used X : ℕ → Type 0} (so : Filled list used X) (at v : ℕ) (free : used at → ⊥) where
  stays : (p : ℕ) → used p → get_or (set list at v) p 0 ≡ get_or list p 0
  stays p u = get_or-set_other list at p v 0 (λ e. free (rw e at u))

  pub filled-kept : Filled (set list at v) used X
  filled-kept = record { place = so.place; there = λ b x. let r = so.there b x in (r.0, stays _ r.0 ∙ r.1); back = λ p u. rw (stays p u) (so.back p u) }

  pub filled_next : {used' X' : ℕ → Type 0} → at < length list → (X v → ⊥) → More used at used' → More X v X' → Filled (set list at v) used' X'
  filled_next room new places bones =
      record {
        place = λ b. cond (eqb b v) at (filled-kept.place b);
        there = λ b x. ⊎_elim
            (λ (e : b ≡ v). rw (e, eq-eqb v v refl) (places.0, get_or-set_same list at v 0 room))
            (λ y. let r = filled-kept.there b y in rw (ne_eqb b v (λ e. new (rw e at y))) (places.1 _ r.0, r.1))
            (bones.2 b x);
        back = λ p u. ⊎_elim
            (λ (e : p ≡ at). rw (e, get_or-set_same list at v 0 room, eq-eqb v v refl) (bones.0, refl))
            (λ w. let r = filled-kept.back p w in rw (ne_eqb (get_or (set list at v) p 0) v (λ e. new (rw e at r.0))) (bones.1 _ r.0, r.1))
            (places.2 p u);
      }

-- the first m places
module _ {list : List ℕ} {X : ℕ → Type 0} (m : ℕ) (so : Filled list (λ p. p < m) X) where
  pub filled_once : length list ≡ 128 → m ≤ 128 → ((b : ℕ) → X b → b < 128) → Once list m
  filled_once long few low =
      record { long = long; few = few; low = λ i h. low _ (so.back i h).0; once = λ i j hi hj e. sym (so.back i hi).1 ∙ ap so.place e ∙ (so.back j hj).1 }

  pub filled-listed : (Y : Bones) → ((b : ℕ) → X b → T (Y b)) → ((b : ℕ) → T (Y b) → X b) → (b : ℕ) → listed list m b ≡ Y b
  filled-listed Y f g b =
      same_test _ _
      (λ t. let r = listed-place list m b t in f b (rw r.2 at (so.back r.0 r.1).0))
      (λ t. let r = so.there b (g b t) in listed_by list m (so.place b) b r.0 r.1)

-- the bones of S below b stand in the first m places
pub record Gathered (S : Bones) (list : List ℕ) (m b : ℕ) : Type 0 where
  pub long : length list ≡ 128
  pub most : m ≤ b
  pub filled : Filled list (λ p. p < m) (λ x. T (S x) × (x < b))

-- the next place may hold any bone
pub gathered_next : {S : Bones} {list : List ℕ} {m b : ℕ} → Gathered S list m b → b < 128 → (r : ℕ) → r ≡ from_bool (S b) → Gathered S (set list m b) (m + r) (b + 1)
gathered_next {S} {list} {m} {b} so small r e =
    record {
      long = length-set list m b ∙ so.long;
      most = omega (arith, e, bit_of (S b));
      filled = ⊎_elim
          (λ t. let one : r ≡ 1 = e ∙ (bit_of (S b)).0 ∙ cond_yes (S b) 1 0 t in
          filled_next so.filled m b (λ h. omega arith) (omega arith) (λ h. omega arith)
          (omega arith, λ p h. omega arith, λ p h. last_or p m (omega arith))
          ((t, omega arith), λ x h. (h.0, omega arith), λ x h. ⊎_elim inl (λ l. inr (h.0, l)) (last_or x b h.1)))
          (λ f. let none : r ≡ 0 = e ∙ (bit_of (S b)).0 ∙ cond_no (S b) 1 0 f in
          filled_as (filled-kept so.filled m b (λ h. omega arith)) (λ p h. omega arith) (λ p h. omega arith) (λ x h. (h.0, omega arith))
          (λ x h. ⊎_elim (λ (q : x ≡ b). absurd (T_not (S b) f (rw q at h.0))) (λ l. (h.0, l)) (last_or x b h.1)))
          (decide (S b));
    }

-- the bones in the places from i on of `order`
abbrev From : List ℕ → ℕ → ℕ → ℕ → Type 0
From order count i b = (k : ℕ) × (i ≤ k) × (k < count) × (get_or order k 0 ≡ b)

-- the places laid out: those of heads, and those of the bones tied to them
abbrev Stood : ℕ → ℕ → ℕ → ℕ → Type 0
Stood front heads back p = (p < front) ⊎ ((heads ≤ p) × (p < back))

-- what is the same for each two bones tied in the pass
abbrev Alike : List ℕ → List Bool → ℕ → Bones → Type 0
Alike order joins count d = (i : ℕ) → i + 1 < count → T (marked joins i) → d (get_or order (i + 1) 0) ≡ d (get_or order i 0)

-- the bones in the places from i on of `order` are laid out, and those from `group` on are tied to `head`
pub record Laying (order : List ℕ) (joins : List Bool) (count heads : ℕ) (list₀ into₀ start₀ list into start : List ℕ) (head group front back i : ℕ) : Type 0 where
  pub long : Long list into start
  pub last : i < count
  pub to_come : front + unmarked joins i ≡ heads
  pub so_far : front + back + i ≡ heads + count
  pub spread : Filled list (Stood front heads back) (From order count i)
  pub folds : (j : ℕ) → heads ≤ j → j < back → Fold list into heads front j (get_or start j 0) (get_or into j 0)
  pub here : Fold list into heads front back group head
  pub tied : (d : Bones) → Alike order joins count d → d head ≡ d (get_or order i 0)
  pub joined : (d : Bones) → Alike order joins count d → (j : ℕ) → heads ≤ j → j < back → d (get_or into j 0) ≡ d (get_or list j 0)
  pub rest : (j : ℕ) → count ≤ j → (get_or list j 0 ≡ get_or list₀ j 0) × (get_or into j 0 ≡ get_or into₀ j 0) × (get_or start j 0 ≡ get_or start₀ j 0)

module _ {order : List ℕ} {joins : List Bool} {count heads : ℕ} (ones : Once order count) where
  -- the one taken first leads
  pub laying_start : (list into start : List ℕ) → 0 < count → heads ≡ unmarked joins (count - 1) + 1 → Long list into start
      → Laying order joins count heads (set list 0 (get_or order (count - 1) 0)) into start (set list 0 (get_or order (count - 1) 0)) into start (get_or order (count - 1) 0) heads 1 heads (count - 1)
  laying_start list into start some most long =
      record {
        long = simp length-set long;
        last = omega arith;
        to_come = omega arith;
        so_far = omega arith;
        spread = filled_next (filled_none list {used = λ p. ⊥} {X = λ b. ⊥} (λ p u. u) (λ b x. x)) 0 (get_or order (count - 1) 0) (λ u. u) (omega arith) (λ x. x)
            (inl (omega arith), λ p u. absurd u, λ p. ⊎_elim (λ h. inl (omega arith)) (λ h. absurd (omega arith)))
            ((count - 1, le_refl _, omega arith, refl), λ b x. absurd x, λ b r. let e : r.0 ≡ count - 1 = omega arith in inl (sym r.3 ∙ rw e));
        folds = λ j l h. absurd (omega arith);
        here = record {
          from = le_refl heads;
          upto = le_refl heads;
          stands = listed_by (set list 0 (get_or order (count - 1) 0)) 1 0 _ (omega arith) (get_or-set_same list 0 _ 0 (omega arith));
          alike = λ x l h. absurd (omega arith);
        };
        tied = λ d s. refl;
        joined = λ d s j l h. absurd (omega arith);
        rest = λ j h. (refl, refl, refl);
      }

  module _ {list₀ into₀ start₀ list into start : List ℕ} {head group front back i : ℕ} (more : 0 < i) (so : Laying order joins count heads list₀ into₀ start₀ list into start head group front back i) where
    again : i - 1 + 1 ≡ i
    again = omega arith

    not_yet : From order count i (get_or order (i - 1) 0) → ⊥
    not_yet r = omega (arith, ones.once r.0 (i - 1) r.2 (omega arith) r.3)

    now_too : More (From order count i) (get_or order (i - 1) 0) (From order count (i - 1))
    now_too = (
      (i - 1, le_refl (i - 1), omega arith, refl),
      λ b r. (r.0, omega arith, r.2, r.3),
      λ b r. ⊎_elim (λ (e : i - 1 ≡ r.0). inl (sym r.3 ∙ rw e)) (λ l. inr (r.0, omega arith, r.2, r.3)) (eq-or-lt_of_le r.1),
    )

    -- one that is tied to the bone taken before it stands behind it
    module _ (mark : T (marked joins (i - 1))) where
      pub tied_room : back < count
      tied_room = omega (arith, unmarked_tied joins (i - 1) mark, ap (unmarked joins) again, unmarked_most joins (i - 1))

      pub laying_tied : Laying order joins count heads list₀ into₀ start₀ (set list back (get_or order (i - 1) 0)) (set into back head) (set start back group) head group front (back + 1) (i - 1)
      laying_tied =
          record {
            long = simp length-set so.long;
            last = omega arith;
            to_come = omega (arith, unmarked_tied joins (i - 1) mark, ap (unmarked joins) again);
            so_far = omega arith;
            spread = filled_next so.spread back (get_or order (i - 1) 0) (⊎_elim (λ h. omega arith) (λ h. omega arith)) (omega (arith, tied_room)) not_yet
                (inr (omega arith, omega arith), λ p. ⊎_elim inl (λ h. inr (h.0, omega arith)), λ p. ⊎_elim (λ h. inr (inl h)) (λ h. ⊎_elim inl (λ l. inr (inr (h.0, l))) (last_or p back h.1)))
                now_too;
            folds = λ j l h. elim (ℕ_discrete j back) [
              | yes e ↦ rw (e, get_or-set_same start back group 0 (omega (arith, tied_room)), get_or-set_same into back head 0 (omega (arith, tied_room))) (folds_on so.here (le_refl back))
              | no n ↦ rw (get_or-set_other start back j group 0 n, get_or-set_other into back j head 0 n) (folds_on (so.folds j l (omega arith)) (omega arith))
            ];
            here = record {
              from = so.here.from;
              upto = omega (arith, so.here.upto);
              stands = kept head so.here.stands;
              alike = λ x l h. stored into back head 0 (λ j y. y ≡ head) (omega (arith, tied_room)) refl x (λ n. so.here.alike x l (omega arith));
            };
            tied = ties;
            joined = λ d s j l h.
                stored into back head 0 (λ k y. d y ≡ d (get_or (set list back (get_or order (i - 1) 0)) k 0)) (omega (arith, tied_room))
                (ties d s ∙ ap d (sym (get_or-set_same list back _ 0 (omega (arith, tied_room)))))
                j
                (λ n. so.joined d s j l (omega arith) ∙ ap d (sym (get_or-set_other list back j _ 0 n)));
            rest = λ j h. let off : j ≡ back → ⊥ = λ q. omega (arith, tied_room) in
                rw (get_or-set_other list back j _ 0 off, get_or-set_other into back j _ 0 off, get_or-set_other start back j _ 0 off) (so.rest j h);
          }
        where
          kept : (b : ℕ) → T (listed list front b) → T (listed (set list back (get_or order (i - 1) 0)) front b)
          kept b t = rw (listed_ext (set list back _) list front (λ p h. get_or-set_other list back p _ 0 (λ q. omega arith)) b) t

          folds_on : {j s v : ℕ} → Fold list into heads front j s v → j ≤ back → Fold (set list back (get_or order (i - 1) 0)) (set into back head) heads front j s v
          folds_on {v = v} f h =
              record { from = f.from; upto = f.upto; stands = kept v f.stands; alike = λ x l u. get_or-set_other into back x _ 0 (λ q. omega arith) ∙ f.alike x l u }

          ties : (d : Bones) → Alike order joins count d → d head ≡ d (get_or order (i - 1) 0)
          ties d s = so.tied d s ∙ rw again at (s (i - 1) (omega arith) mark)

    -- one that is not stands in front, and leads those to come
    module _ (mark : T (not (marked joins (i - 1)))) where
      head_room : front < heads
      head_room = omega (arith, unmarked_head joins (i - 1) mark, ap (unmarked joins) again)

      pub laying_head : Laying order joins count heads list₀ into₀ start₀ (set list front (get_or order (i - 1) 0)) into start (get_or order (i - 1) 0) back (front + 1) back (i - 1)
      laying_head =
          record {
            long = simp length-set so.long;
            last = omega arith;
            to_come = omega (arith, unmarked_head joins (i - 1) mark, ap (unmarked joins) again);
            so_far = omega arith;
            spread = filled_next so.spread front (get_or order (i - 1) 0) (⊎_elim (λ h. omega arith) (λ h. omega (arith, head_room))) (omega arith) not_yet
                (inl (omega arith), λ p. ⊎_elim (λ h. inl (omega arith)) inr, λ p. ⊎_elim (λ h. ⊎_elim inl (λ l. inr (inl l)) (last_or p front h)) (λ h. inr (inr h)))
                now_too;
            folds = λ j l h. let f = so.folds j l h in record { from = f.from; upto = f.upto; stands = kept _ f.stands; alike = f.alike };
            here = record {
              from = omega (arith, so.here);
              upto = le_refl back;
              stands = listed_by (set list front (get_or order (i - 1) 0)) (front + 1) front _ (omega arith) (get_or-set_same list front _ 0 (omega arith));
              alike = λ x l h. absurd (omega arith);
            };
            tied = λ d s. refl;
            joined = λ d s j l h. so.joined d s j l h ∙ ap d (sym (get_or-set_other list front j _ 0 (λ q. omega (arith, head_room))));
            rest = λ j h. rw (get_or-set_other list front j _ 0 (λ q. omega arith)) (so.rest j h);
          }
        where
          kept : (b : ℕ) → T (listed list front b) → T (listed (set list front (get_or order (i - 1) 0)) (front + 1) b)
          kept b t =
              let r = listed-place list front b t in
              listed_by (set list front (get_or order (i - 1) 0)) (front + 1) r.0 b (omega arith) (get_or-set_other list front r.0 _ 0 (λ q. omega arith) ∙ r.2)

  -- all are laid out; v was stored before the first turn
  pub laying_end : (entry : List ℕ) (v : ℕ) {into₀ start₀ list into start : List ℕ} {head group front back i : ℕ} → i ≤ 0
      → Laying order joins count heads (set entry 0 v) into₀ start₀ list into start head group front back i → Laid order joins count heads entry into₀ start₀ list into start
  laying_end entry v {into₀} {start₀} {list} {into} {start} {head} {group} {front} {back} {i} none so =
      record {
        once = filled_once count all so.long.0 ones.few (λ b r. omega (arith, ones.low r.0 r.2));
        same = filled-listed count all (listed order count) (λ b r. listed_by order count r.0 b r.2 r.3)
            (λ b t. let r = listed-place order count b t in (r.0, omega arith, r.1, r.2));
        folded = λ j l h. let f = so.folds j l (omega (arith, filled)) in
            record { from = f.from; upto = f.upto; stands = listed_less list front _ _ (omega (arith, full, f.from)) f.stands; alike = f.alike };
        joined = λ d s j l h. so.joined d s j l (omega (arith, filled));
        long = so.long;
        rest = λ j h. rw (← get_or-set_other entry 0 j v 0 (λ q. omega arith)) (so.rest j h);
      }
    where
      full : front ≡ heads
      full = let z : i ≡ 0 = omega arith in omega (arith, so.to_come, ap (unmarked joins) z, unmarked_most joins 0)

      filled : back ≡ count
      filled = omega (arith, so.so_far, full)

      all : Filled list (λ p. p < count) (From order count i)
      all =
          filled_as so.spread (λ p. ⊎_elim (λ h. omega (arith, full, filled)) (λ h. omega (arith, filled)))
          (λ p h. ⊎_elim (λ l. inl (omega (arith, ltb→lt p heads l, full))) (λ g. inr (nltb→le p heads g, omega (arith, filled))) (decide (ltb p heads)))
          (λ b r. r)
          (λ b r. r)
