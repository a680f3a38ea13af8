-- The side of a light split. Marks that two loops set: bones in the first places of the order, and then each bone as the one that it was merged into. Sides as
-- bytes: one bone more put on a side, and a side made bone by bone.
-- Assumes nothing.
use Rattle.std.proofs.Common.{◌≡◌, ℕ, ◌+◌, ◌*◌, ◌/◌, ◌%◌, ◌^◌, ◌<◌, ◌≤◌, Bool, true, false, cond, not, ◌&&◌, ◌||◌, T, eqb, ltb, List, length, get_or, set, replicate, sym, refl, ap, ◌∙◌, ⊎_elim, mod-eq_of_lt, arith, eqb→eq, ltb→lt, T_not, length-set, get_or-set_other, get_or-set_same, lt-ltb, eq-eqb, ne_eqb}
use mathlib.Core.Bool.{or-true, or-false, and-false}
use native.Mathlib.Nat.{zero-div}
use native.Mathlib.Decide.{ℕ_discrete}
use Rattle.meaning.specs.Count.{Bones, every}
use Rattle.meaning.proofs.Tests.{◌⇒◌, mp, left_of, right_of, decide, is_false, same_test, eq→eqb, neqb→ne, ne→neqb}
use Rattle.meaning.proofs.Sets.{every_elim}
use Rattle.weighing.specs.Side.{side_of}
use Rattle.weighing.specs.Lists.{listed, Once, marked}
use Rattle.weighing.specs.Moved.{Spread}
use Rattle.weighing.proofs.Listing.{stored, listed_more, listed-not, noughts, ltb_skip}

-- one mark set
marked_same : (marks : List Bool) (x : ℕ) (v : Bool) → x < length marks → marked (set marks x v) x ≡ v
unfolding marked
marked_same marks x v h = rw get_or-set_same

marked_other : (marks : List Bool) (x y : ℕ) (v : Bool) → (x ≡ y → ⊥) → marked (set marks x v) y ≡ marked marks y
unfolding marked
marked_other marks x y v f = rw (get_or-set_other marks x y v false (λ e. f (sym e)))

-- ---- the bones of the order

pub free_next : (xs : List ℕ) (marks : List Bool) (i x : ℕ) → length marks ≡ 128 → x < 128 → x ≡ get_or xs i 0 → ((b : ℕ) → marked marks b ≡ listed xs i b) → (b : ℕ) → marked (set marks x true) b ≡ listed xs (i + 1) b
unfolding marked
free_next xs marks i x long low e so b =
    rw (listed_more, ← e)
    (stored marks x true false (λ b y. y ≡ (listed xs i b || eqb b x)) (omega arith) (rw (eq-eqb x x refl, or-true)) b (λ n. rw (ne_eqb b x n, or-false) (so b)))

-- ---- the bones merged

pub spread_next : {order list into : List ℕ} {marks : List Bool} {left count size : ℕ} (j x : ℕ) (v : Bool) → Once list size
    → ((i : ℕ) → count ≤ i → i < size → T (listed list i (get_or into i 0))) → count ≤ j → j < size
    → x ≡ get_or list j 0 → v ≡ get_or marks (get_or into j 0) false
    → Spread order left list into count j marks → Spread order left list into count (j + 1) (set marks x v)
unfolding marked
spread_next {order} {list} {into} {marks} {left} {count} {size} j x v o before from within at copied so =
    record {
      long = length-set marks x v ∙ so.long;
      led = λ b t. kept b count from t ∙ so.led b t;
      same = λ i l h. elim (ℕ_discrete i j) [
        | yes e ↦ rw e (kept (get_or into j 0) j (omega arith) (before j from within) ∙ rw (← copied, ← at) (sym (marked_same marks x v (omega (arith, so.long, o.low j within)))))
        | no n ↦ kept (get_or into i 0) i (omega arith) (before i l (omega arith)) ∙ so.same i l (omega arith)
            ∙ sym (marked_other marks x (get_or list i 0) v (λ e. n (o.once i j (omega arith) within (sym e ∙ at))))
      ];
    }
  where
    -- a bone that stands before place j is another than the one there, so its mark stays
    kept : (b m : ℕ) → m ≤ j → T (listed list m b) → marked (set marks x v) b ≡ marked marks b
    kept b m h t = marked_other marks x b v (λ e. T_not (listed list m b) (rw (← e, at) (listed-not o m j h within)) t)

-- one bone more is on the side, or is not
module _ (X : Bones) (i x : ℕ) where
  pub side_next : X i ≡ true → ((ltb x i && X x) || eqb x i) ≡ (ltb x (i + 1) && X x)
  side_next e = elim (ℕ_discrete x i) [ yes q ↦ rw (q, e, lt-ltb i (i + 1) (omega arith), eq-eqb i i refl, or-true) | no n ↦ rw (← ltb_skip x i n, ne_eqb x i n, or-false) ]

  pub side_skip : X i ≡ false → (ltb x i && X x) ≡ (ltb x (i + 1) && X x)
  side_skip e = elim (ℕ_discrete x i) [ yes q ↦ rw (q, e, lt-ltb i (i + 1) (omega arith), and-false) | no n ↦ rw (← ltb_skip x i n) ]

-- ---- bits

-- no bone is on a side of noughts
pub side_none : (s b : ℕ) → side_of (replicate s 0) b ≡ false
unfolding side_of
side_none s b = rw (noughts s (b / 8), zero-div)

-- a bit that was nought is set: the other bits of the byte are as they were, and there is room for it. All bytes and bits are tried.
bits : T (every 256 (λ x. every 8 (λ m. every 8 (λ j. eqb (x / 2 ^ m % 2) 0 ⇒ eqb ((x + 2 ^ m) / 2 ^ j % 2) (cond (eqb j m) 1 (x / 2 ^ j % 2)) && ltb (x + 2 ^ m) 256))))
unfolding every
bits = tt

module _ (x m : ℕ) (byte : x < 256) (bit : m < 8) (e : x / 2 ^ m % 2 ≡ 0) where
  tried : (j : ℕ) → j < 8 → T (eqb ((x + 2 ^ m) / 2 ^ j % 2) (cond (eqb j m) 1 (x / 2 ^ j % 2)) && ltb (x + 2 ^ m) 256)
  tried j h = mp (eqb (x / 2 ^ m % 2) 0) _ (every_elim 8 _ (every_elim 8 _ (every_elim 256 _ bits x byte) m bit) j h) (eq→eqb _ 0 e)

  set_bit : (j : ℕ) → j < 8 → (x + 2 ^ m) / 2 ^ j % 2 ≡ cond (eqb j m) 1 (x / 2 ^ j % 2)
  set_bit j h = eqb→eq _ _ (left_of (eqb ((x + 2 ^ m) / 2 ^ j % 2) _) _ (tried j h))

  pub bit_room : x + 2 ^ m < 256
  bit_room = ltb→lt _ 256 (right_of (eqb ((x + 2 ^ m) / 2 ^ 0 % 2) _) _ (tried 0 (omega arith)))

-- a bit as the code makes it
pub pow_small : (m : ℕ) → m < 8 → 2 ^ m < 256
pow_small m l = omega (arith, bit_room 0 m (omega arith) l (rw zero-div))

pub power : (m : ℕ) → m < 8 → 1 * 2 ^ m % 2 ^ 64 ≡ 2 ^ m
power m l = mod-eq_of_lt (omega (arith, pow_small m l)) ∙ omega arith

-- a bone that is not on the side: its bit
pub off_bit : (side : List ℕ) (b : ℕ) → T (not (side_of side b)) → get_or side (b / 8) 0 / 2 ^ (b % 8) % 2 ≡ 0
unfolding side_of
off_bit side b t = omega (arith, neqb→ne (get_or side (b / 8) 0 / 2 ^ (b % 8) % 2) 1 t)

module _ (side : List ℕ) (b : ℕ) (low : b < 128) (long : length side ≡ 16) (byte : get_or side (b / 8) 0 < 256) (off : T (not (side_of side b))) where
  abbrev after : List ℕ
  after = set side (b / 8) (get_or side (b / 8) 0 + 2 ^ (b % 8))

  pub put_side : (c : ℕ) → side_of after c ≡ (side_of side c || eqb c b)
  unfolding side_of
  put_side c =
      ⊎_elim
      (λ t. rw (eqb→eq (c / 8) (b / 8) t, get_or-set_same side (b / 8) _ 0 (omega arith), set_bit (get_or side (b / 8) 0) (b % 8) byte (omega arith) (off_bit side b off) (c % 8) (omega arith), or_cond)
      (ap (λ (u : Bool). eqb (get_or side (b / 8) 0 / 2 ^ (c % 8) % 2) 1 || u)
      (same_test _ _ (λ u. eq→eqb c b (omega (arith, eqb→eq (c / 8) (b / 8) t, eqb→eq (c % 8) (b % 8) u))) (λ u. eq→eqb (c % 8) (b % 8) (omega (arith, eqb→eq c b u))))))
      (λ n. let apart = neqb→ne (c / 8) (b / 8) n in
      rw (get_or-set_other side (b / 8) (c / 8) _ 0 apart, is_false (eqb c b) (ne→neqb c b (λ e. apart (rw e))), or-false))
      (decide (eqb (c / 8) (b / 8)))
    where
      or_cond : (t : Bool) (y : ℕ) → eqb (cond t 1 y) 1 ≡ (eqb y 1 || t)
      or_cond true y = sym (or-true (eqb y 1))
      or_cond false y = sym (or-false (eqb y 1))
