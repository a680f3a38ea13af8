-- What holds in a pass: bones reached from the one taken last, and what is known whenever the next one is to be taken.
-- Assumes nothing.
use Rattle.std.proofs.Common.{◌≡◌, ℕ, ◌+◌, ◌-◌, ◌*◌, ◌^◌, ◌<◌, ◌≤◌, Bool, false, not, ◌&&◌, T, eqb, leb, List, length, get_or, set, Some, None, replicate, sym, refl, ◌∙◌, ⊎_elim, le_refl, arith, le→leb, leb→le, length-set, get_or-set_other, get_or-set_same, ne_eqb}
use mathlib.Core.Bool.{or-false}
use native.Mathlib.Decide.{ℕ_discrete}
use lib.ListN.{length-replicate}
use Rattle.meaning.specs.Count.{Bones, sum}
use Rattle.meaning.specs.Tally.{Tally}
use Rattle.meaning.proofs.Tests.{left_of}
use Rattle.meaning.proofs.Sums.{sum_next, sum_ext, cond_same}
use Rattle.meaning.proofs.Totals.{Symmetric}
use Rattle.weighing.specs.Lists.{listed, Once, swapped, marked}
use Rattle.weighing.specs.Scan.{Tied, Looked, Reached, Ordered, Passed}
use Rattle.weighing.proofs.Taking.{tie, taken, tie_none, tie_taken, Bounded, bounded_taken, light_ties, out_weight}
use Rattle.weighing.proofs.Listing.{noughts, cond_yes, cond_no, listed_at, listed-place, listed_more, listed_less, listed-not, once_less, listed-sum, Taken, swapped-taken}

-- ---- bones reached one by one

-- a bone that is to be reached has what it had
pub reached_fresh : {w : Tally} {order : List ℕ} {u i m : ℕ} {attach₀ attach : List ℕ} {place top out : ℕ} → Reached w order u i attach₀ attach place top out → Once order m → i < m → get_or attach (get_or order i 0) 0 ≡ get_or attach₀ (get_or order i 0) 0
reached_fresh {w} {order} {u} {i} so once here =
    omega (arith, so.grown (get_or order i 0), cond_no (listed order i (get_or order i 0)) (w u (get_or order i 0)) 0 (listed-not once i i (le_refl i) here))

module _ {w : Tally} {order : List ℕ} {u i m : ℕ} {attach₀ attach attach' : List ℕ} {place top out place' top' out' : ℕ} (so : Reached w order u i attach₀ attach place top out) (once : Once order m) (here : i < m) (low : (x : ℕ) → get_or attach₀ x 0 ≤ 2 ^ 40) (step : Looked (w u (get_or order i 0)) (get_or order i 0) i attach attach' place top out place' top' out') where
  abbrev b : ℕ
  b = get_or order i 0

  stays : (x : ℕ) → (x ≡ b → ⊥) → get_or attach' x 0 ≡ get_or attach x 0
  stays x n = rw step.stored (get_or-set_other attach b x _ 0 n)

  put : get_or attach' b 0 ≡ get_or attach b 0 + w u b
  put = rw step.stored (get_or-set_same attach b _ 0 (omega (arith, so.long, once.low i here)))

  before : (j : ℕ) → j < i → get_or attach' (get_or order j 0) 0 ≡ get_or attach (get_or order j 0) 0
  before j h = stays (get_or order j 0) (λ e. omega (arith, once.once j i (omega arith) here e))

  over : (top ≤ top') × (get_or attach b 0 + w u b ≤ top')
  over = ⊎_elim (λ s. omega arith) (λ s. omega arith) step.best

  found : (place' < i + 1) × (top' ≡ get_or attach' (get_or order place' 0) 0)
  found =
      ⊎_elim
      (λ s. (omega arith, rw s.0 (s.1 ∙ sym put)))
      (λ s. let some : 0 < i = elim (ℕ_discrete i 0) [ yes e ↦ absurd (omega (arith, so.nothing e)) | no n ↦ omega arith ] in
      let within = so.within some in
      (omega arith, rw s.0 (s.1 ∙ so.at some ∙ sym (before place within))))
      step.best

  pub reached_next : Reached w order u (i + 1) attach₀ attach' place' top' out'
  reached_next =
      record {
        long = rw (step.stored, length-set) so.long;
        grown = λ x. elim (ℕ_discrete x b) [
          | yes e ↦ rw e (omega (arith, put, reached_fresh so once here, cond_yes (listed order (i + 1) b) (w u b) 0 (listed_at order (i + 1) i (omega arith))))
          | no n ↦ rw (listed_more, ne_eqb x b n, or-false) (stays x n ∙ so.grown x)
        ];
        slow = λ x. elim (ℕ_discrete x b) [ yes e ↦ rw e (omega (arith, put, reached_fresh so once here, step.small)) | no n ↦ omega (arith, stays x n, so.slow x) ];
        nothing = omega arith;
        within = λ h. found.0;
        at = λ h. found.1;
        greatest = λ j h. elim (ℕ_discrete j i) [ yes e ↦ rw e (omega (arith, put, over)) | no n ↦ omega (arith, before j (omega arith), so.greatest j (omega arith), over) ];
        sums = omega (arith, step.sums, so.sums, sum_next i (λ j. get_or attach' (get_or order j 0) 0), sum_ext i (λ j. get_or attach' (get_or order j 0) 0) (λ j. get_or attach (get_or order j 0) 0) before, put);
        most = omega (arith, step.sums, so.most, reached_fresh so once here, step.small, low b);
      }

-- ---- the pass

-- what is known when the bone in place `at` is to be taken; the bones of the pass are those that `before` lists
pub record Scan (w : Tally) (k : ℕ) (before order : List ℕ) (joins : List Bool) (attach : List ℕ) (count left at top : ℕ) : Type 0 where
  pub symmetric : Symmetric w
  pub ordered : Ordered before order joins count
  pub attach_long : length attach ≡ 128
  pub few : left ≤ count
  pub next : at < left
  pub slow : (x : ℕ) → get_or attach x 0 ≤ (count - left) * 2 ^ 32
  pub ties : (x : ℕ) → T (listed order left x) → get_or attach x 0 ≡ tie w (taken (listed before count) (listed order left)) x
  pub tops : top ≡ get_or attach (get_or order at 0) 0
  pub greatest : (i : ℕ) → i < left → get_or attach (get_or order i 0) 0 ≤ top
  pub bounded : Bounded w (listed before count) (listed order left) (get_or order left 0)
  pub heavy : left < count → k ≤ sum left (λ i. get_or attach (get_or order i 0) 0)
  pub tied : (i : ℕ) → left ≤ i → i + 1 < count → T (marked joins i) → Tied w k (listed before count) (get_or order (i + 1) 0) (get_or order i 0)

pub scan_start : (w : Tally) → Symmetric w → (k : ℕ) (order : List ℕ) (joins : List Bool) (count seed : ℕ) → Once order count → seed < count → length joins ≡ 128 → Scan w k order order joins (replicate 128 0) count count seed 0
scan_start w symmetric k order joins count seed once h long =
    record {
      symmetric = symmetric;
      ordered = record { once = once; same = λ b. refl; long = long };
      attach_long = length-replicate {A = ℕ} 128 0;
      few = le_refl count;
      next = h;
      slow = λ x. omega (arith, noughts 128 x);
      ties = λ x t. noughts 128 x ∙ sym (tie_none w (listed order count) (listed order count) x (λ b s. s));
      tops = sym (noughts 128 (get_or order seed 0));
      greatest = λ i l. omega (arith, noughts 128 (get_or order i 0));
      bounded = λ d x low free dv dx. omega (arith, tie_none w (listed order count) (listed order count) x (λ b s. s));
      heavy = omega arith;
      tied = λ i l m t. absurd (omega arith);
    }

-- the bone in place `at` is taken: it stands in place left − 1
module _ {w : Tally} {k : ℕ} {before order : List ℕ} {joins : List Bool} {attach : List ℕ} {count left at top : ℕ} (s : Scan w k before order joins attach count left at top) {order' : List ℕ} {u : ℕ} (is : (order' ≡ swapped order at (left - 1)) × (u ≡ get_or order at 0) × (u < 256)) where
  abbrev joins' : List Bool
  joins' = set joins (left - 1) (leb k top)

  abbrev L : Bones
  L = listed before count

  pub then : Taken order order' at left count
  then = swapped-taken order at left count s.ordered.once s.next s.few is.0

  taken_free : (b : ℕ) → listed order' (left - 1) b ≡ (listed order left b && not (eqb b u))
  taken_free = rw is.1 then.free

  u_free : T (listed order left u)
  u_free = rw is.1 (listed_at order left at s.next)

  pub u_low : u < 128
  u_low = rw is.1 (s.ordered.once.low at (omega (arith, s.few, s.next)))

  within : (b : ℕ) → T (listed order left b) → T (L b)
  within b t = rw s.ordered.same at (listed_less order left count b s.few t)

  top_tie : top ≡ tie w (taken L (listed order left)) u
  top_tie = s.tops ∙ (rw (← is.1) (s.ties u u_free))

  mark_is : (i : ℕ) → i ≡ left - 1 → marked joins' i ≡ leb k top
  unfolding marked
  mark_is i e = rw (e, get_or-set_same joins (left - 1) (leb k top) false (omega (arith, s.ordered.long, s.next, s.few, s.ordered.once.few)))

  -- the ties go on
  taken_tied : (i : ℕ) → left - 1 ≤ i → i + 1 < count → T (marked joins' i) → Tied w k L (get_or order' (i + 1) 0) (get_or order' i 0)
  unfolding marked
  taken_tied i h l t = elim (ℕ_discrete i (left - 1)) [
    | yes e ↦
        let next : i + 1 ≡ left = omega (arith, s.next) in
        let enough : k ≤ top = leb→le k top (rw (mark_is i e) at t) in
        rw (next, e, then.above left (le_refl left), then.last, ← is.1)
        (light_ties w s.symmetric L (listed order left) within k u (get_or order left 0) s.bounded u_low u_free (omega (arith, top_tie)))
    | no n ↦
        let g : left ≤ i = omega arith in
        rw (then.above (i + 1) (omega arith), then.above i g) (s.tied i g l (rw (get_or-set_other joins (left - 1) i (leb k top) false n) at t))
  ]

  ordered' : Ordered before order' joins' count
  ordered' = record { once = then.once; same = λ b. then.same b ∙ s.ordered.same b; long = rw length-set s.ordered.long }

  -- nothing is left to take
  pub passed_done : left - 1 ≡ 0 → Passed w k before order' joins' count None
  unfolding sum
  passed_done none =
      record {
        ordered = ordered';
        found = (
          λ i. taken_tied i (omega arith),
          λ l.
              let one : left ≡ 1 = omega (arith, s.next) in
              let first : at ≡ 0 = omega (arith, s.next) in
              let all : k ≤ sum 1 (λ i. get_or attach (get_or order i 0) 0) = rw one at (s.heavy (omega arith)) in
              rw (mark_is 0 (sym none)) (le→leb k top (omega (arith, rw first at s.tops))),
        );
      }

  module _ {attach' : List ℕ} {place top' out : ℕ} (some : 0 < left - 1) (r : Reached w order' u (left - 1) attach attach' place top' out) where
    still_free : (x : ℕ) → T (listed order' (left - 1) x) → T (listed order left x)
    still_free x t = left_of (listed order left x) (not (eqb x u)) (rw (taken_free x) at t)

    free_tie : (x : ℕ) → T (listed order' (left - 1) x) → get_or attach' x 0 ≡ tie w (taken L (listed order' (left - 1))) x
    free_tie x t =
        omega (
          arith,
          r.grown x,
          cond_yes (listed order' (left - 1) x) (w u x) 0 t,
          s.ties x (still_free x t),
          tie_taken w s.symmetric L (listed order left) (listed order' (left - 1)) u u_low (within u u_free) u_free taken_free x,
        )

    -- a light split: the sum is what the free bones weigh
    pub passed_light : out < k → Passed w k before order' joins' count (Some (record { weight = out; left = left - 1 }))
    passed_light less =
        record {
          ordered = ordered';
          found = (
            some,
            omega (arith, s.few),
            r.sums
                ∙ listed-sum (once_less then.once (omega (arith, s.few))) (λ x. get_or attach' x 0)
                ∙ sum_ext 128 _ _ (λ x h. cond_same (listed order' (left - 1) x) (free_tie x))
                ∙ out_weight w s.symmetric L (listed order' (left - 1)) (λ b t. within b (still_free b t)),
            less,
          );
        }

    pub scan_next : (out < k → ⊥) → Scan w k before order' joins' attach' count (left - 1) place top'
    scan_next not-light =
        record {
          symmetric = s.symmetric;
          ordered = ordered';
          attach_long = r.long;
          few = omega (arith, s.few);
          next = r.within some;
          slow = λ x. omega (arith, r.slow x, s.slow x, s.few, some);
          ties = free_tie;
          tops = r.at some;
          greatest = r.greatest;
          bounded = rw (then.last, ← is.1)
              (bounded_taken w s.symmetric L (listed order left) (listed order' (left - 1)) u u_low (within u u_free) u_free taken_free (get_or order left 0) s.bounded
              (λ x low t. let (i, below, at_x) = listed-place order left x t in
              omega (arith, s.ties x t, top_tie, rw at_x at (s.greatest i below))));
          heavy = λ l. omega (arith, r.sums, not-light);
          tied = taken_tied;
        }
