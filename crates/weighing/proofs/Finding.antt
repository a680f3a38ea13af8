-- What the search knows between piles and between passes; and a light split of a pile as a lawful cut.
-- Assumes nothing.
use Rattle.std.proofs.Common.{◌≡◌, ℕ, ◌+◌, ◌-◌, ◌^◌, ◌<◌, ◌≤◌, Bool, true, false, cond, not, Option, Some, None, ◌&&◌, T, eqb, List, length, replicate, sym, refl, ap, ◌∙◌, ⊎_elim, le_refl, arith}
use mathlib.Core.Path.{fun_ext}
use mathlib.Core.Bool.{beq}
use native.Mathlib.Decide.{ℕ_discrete}
use lib.ListN.{length-replicate}
use Rattle.meaning.specs.Count.{Bones, some}
use Rattle.meaning.specs.Tally.{Tally, weight}
use Rattle.meaning.specs.Firm.{firm}
use Rattle.meaning.specs.Heap.{Heap, Lawful, pile, stands}
use Rattle.meaning.proofs.Tests.{◌⇒◌, taut, so, ◌⊃◌, decide, left_of, right_of}
use Rattle.meaning.proofs.Sets.{some_intro}
use Rattle.meaning.proofs.Totals.{Symmetric, total_mono}
use Rattle.meaning.proofs.Firm.{weight_other, splits_elim}
use Rattle.meaning.proofs.Heaps.{pile_intro, pile_bone, pile_name}
use Rattle.links.specs.Table.{held}
use Rattle.weighing.specs.Side.{heap_of, side_of}
use Rattle.links.proofs.TableHeld.{held_symmetric}
use Rattle.weighing.specs.Search.{Small, cut_of, FirmPiles, Searched}
use Rattle.weighing.proofs.Listing.{beq_same, listed-place}
use Rattle.weighing.proofs.Contracting.{total_wide, bulk}
use Rattle.weighing.proofs.Searching.{Light, weight_on, Agree, Contracted, heads_few, pass_firm, pass_light, pass_more, later_same}
use Rattle.weighing.specs.Lists.{listed, Once, marked}
use Rattle.weighing.specs.Scan.{Passed}
use Rattle.weighing.specs.declared.scan.Pass.{Pass}
use Rattle.weighing.specs.Merge.{Merges, none, more, MergesIn, FoldedIn, Stacked, unmarked, LaidOut}
use Rattle.weighing.specs.declared.list.Blocks.{Blocks}
use Rattle.weighing.specs.Moved.{Spread}

-- the tallies of a pile fit where all do
pub small_fits : (n : ℕ) → n ≤ 128 → (t : List ℕ) (L : Bones) → ((b : ℕ) → T (L b) → b < n) → Small n t → bulk (held t) L < 2 ^ 32
unfolding bulk
small_fits n few t L below small =
    omega (
      arith,
      small.sums,
      total_wide n 128 (held t) (λ i j. (L i && L j) && not (eqb i j)) few
          (λ i j q. (below i (left_of (L i) (L j) (left_of (L i && L j) (not (eqb i j)) q)), below j (right_of (L i) (L j) (left_of (L i && L j) (not (eqb i j)) q)))),
      total_mono n (held t) (λ i j. (L i && L j) && not (eqb i j)) (λ i j. not (eqb i j)) (λ i j hi hj. taut 3 (λ a b c. so ((a && b) && c ⇒ c)) tt (L i) (L j) (not (eqb i j))),
    )

-- the side that moves out: the bones of the pile on the other side than its least bone
abbrev pub apart : ℕ → Heap → ℕ → Bones → Bones
apart n h p d b = pile n h p b && not (beq (d b) (d p))

-- a light split of a pile, as a lawful cut
module _ (n k : ℕ) (w : Tally) (symmetric : Symmetric w) (h : Heap) (p : ℕ) (d : Bones) (standing : T (stands n h p)) (weighs : ℕ) (light : Light n k w (pile n h p) d weighs) where
  side_weight : weight n w (pile n h p) (apart n h p d) ≡ weight n w (pile n h p) d
  side_weight =
      weight_on n w (pile n h p) (apart n h p d) (λ b. cond (d p) (not (d b)) (d b))
      (λ b t. beq_same _ _ (taut 3 (λ s a c. s ⊃ so (beq (s && not (beq a c)) (cond c (not a) a))) tt (pile n h p b) (d b) (d p) t))
      ∙ either_way (d p)
    where
      either_way : (c : Bool) → weight n w (pile n h p) (λ b. cond c (not (d b)) (d b)) ≡ weight n w (pile n h p) d
      either_way true = weight_other n w symmetric (pile n h p) d
      either_way false = refl

  some_apart : T (some n (apart n h p d))
  some_apart =
      let e = splits_elim n (pile n h p) d light.parts in
      ⊎_elim
      (λ y. some_intro n (apart n h p d) e.y e.y_bone (taut 3 (λ s a c. s ⊃ (not a) ⊃ c ⊃ so (s && not (beq a c))) tt (pile n h p e.y) (d e.y) (d p) e.y_set e.y_side y))
      (λ f. some_intro n (apart n h p d) e.x e.x_bone (taut 3 (λ s a c. s ⊃ a ⊃ (not c) ⊃ so (s && not (beq a c))) tt (pile n h p e.x) (d e.x) (d p) e.x_set e.x_side f))
      (decide (d p))

  pub light_lawful : Lawful n w k h (record { name = p; weighs = weighs; side = apart n h p d })
  light_lawful =
      record {
        standing = standing;
        moving = some_apart;
        staying = taut 2 (λ s a. so (not (s && not (beq a a)))) tt (pile n h p p) (d p);
        within = λ b q. left_of (pile n h p b) (not (beq (d b) (d p))) q;
        true_weight = light.true_weight ∙ sym side_weight;
        light = light.is_light;
      }

-- before pile p: every pile from `from` on is firm, and the table is as it was
pub record Piling (bones k : ℕ) (names : List ℕ) (from : ℕ) (t₀ t : List ℕ) (joins : List Bool) (p : ℕ) : Type 0 where
  pub few : bones ≤ 128
  pub same : t ≡ t₀
  pub begun : from ≤ p
  pub table_long : length t ≡ 16384
  pub joins_long : length joins ≡ 128
  pub firm_before : Small bones t₀ → FirmPiles bones (held t₀) k (heap_of names) from p

-- before a pass: the bones of the pile p are cut into blocks; t₀ is the table before the first pass
pub record Passing (bones k : ℕ) (names t₀ t : List ℕ) (b : Blocks) (joins : List Bool) (p seed : ℕ) : Type 0 where
  pub few : bones ≤ 128
  pub low : p < bones
  pub blocks : Contracted k t₀ t b.list b.into b.start b.count b.size
  pub whole : listed b.list b.size ≡ pile bones (heap_of names) p
  pub next : seed < b.count
  pub table_long : length t ≡ 16384
  pub joins_long : length joins ≡ 128

pub piling_start : (bones k : ℕ) (names : List ℕ) (from : ℕ) (t : List ℕ) → bones ≤ 128 → length t ≡ 16384 → Piling bones k names from t t (replicate 128 false) from
unfolding FirmPiles
piling_start bones k names from t few table =
    record {
      few = few;
      same = refl;
      begun = omega arith;
      table_long = table;
      joins_long = length-replicate 128 false;
      firm_before = λ small q h l. absurd (omega arith);
    }

module _ {bones k : ℕ} {names : List ℕ} {from : ℕ} {t₀ t : List ℕ} {joins : List Bool} {p : ℕ} (s : Piling bones k names from t₀ t joins p) where
  -- the pile p is firm, or stands not: on to the next, with the table as it was
  piling_on : {t' : List ℕ} {joins' : List Bool} → t' ≡ t → length joins' ≡ 128
      → (Small bones t₀ → T (stands bones (heap_of names) p) → T (firm bones (held t₀) k (pile bones (heap_of names) p)))
      → Piling bones k names from t₀ t' joins' (p + 1)
  unfolding FirmPiles
  piling_on back joins_long here =
      record {
        few = s.few;
        same = back ∙ s.same;
        begun = omega (arith, s.begun);
        table_long = ap length back ∙ s.table_long;
        joins_long = joins_long;
        firm_before = λ small q low high. elim (ℕ_discrete q p) [ yes e ↦ rw e (here small) | no n ↦ s.firm_before small q low (omega arith) ];
      }

  -- no pile is named p
  pub piling_skip : (heap_of names p ≡ p → ⊥) → Piling bones k names from t₀ t joins (p + 1)
  unfolding stands
  piling_skip other = piling_on refl s.joins_long (λ small q. absurd (other (pile_name bones (heap_of names) p p q)))

  -- the passes over the pile p begin
  pub passing_start : p < bones → heap_of names p ≡ p → {b' : Blocks} → Once b'.list b'.size → b'.count ≡ b'.size → Agree (listed b'.list b'.size) (pile bones (heap_of names) p) → Passing bones k names t t b' joins p 0
  passing_start low named {b'} once each of =
      let (i, below, is) = listed-place b'.list b'.size p (rw of (pile_intro bones (heap_of names) p p low named)) in
      record {
        few = s.few;
        low = low;
        blocks = rw each (record {
          some_bones = omega arith;
          few = le_refl b'.size;
          once = once;
          folded = λ j h l. absurd (omega arith);
          merges = none;
          kept = λ f d w j h l. absurd (omega arith);
        });
        whole = fun_ext of;
        next = omega arith;
        table_long = s.table_long;
        joins_long = s.joins_long;
      }

  -- no pile is left: all are firm
  pub searched_none : bones ≤ p → Small bones t₀ → Searched bones (held t₀) k (heap_of names) from None
  unfolding Searched FirmPiles
  searched_none done small = λ q h l. s.firm_before small q h (omega arith)

-- merging keeps the table's length
merges_long : {list into start t t' : List ℕ} {hi lo : ℕ} → length t ≡ 16384 → Merges list into start hi t lo t' → length t' ≡ 16384
merges_long long none = long
merges_long long (more m row) = row.long'

-- between two passes the blocks can be undone, and their marks spread
pub passing_stacked : {bones k : ℕ} {names t t' : List ℕ} {b : Blocks} {joins : List Bool} {p seed : ℕ} → Passing bones k names t t' b joins p seed → Stacked b
passing_stacked m = record { few = m.blocks.few; once = m.blocks.once; folded = m.blocks.folded }

module _ {bones k : ℕ} {names t t' : List ℕ} {b : Blocks} {joins : List Bool} {p seed : ℕ} (m : Passing bones k names t t' b joins p seed) {order : List ℕ} {joins' : List Bool} {split : Option Pass} (pass : Passed (held t') k b.list order joins' b.count split) where
  -- what was laid out can be merged
  pub passing_laid : {b' : Blocks} {heads : ℕ} → split ≡ None → heads ≡ unmarked joins' (b.count - 1) + 1 → LaidOut order joins' heads b b' → (heads ≤ b'.count) × Once b'.list b'.count × FoldedIn b' heads b'.count
  passing_laid dark is (laid, same, _) = rw same (heads_few m.blocks pass dark is, laid.once, laid.folded)

  -- fewer blocks: the passes go on
  pub passing_next : {b' b'' : Blocks} {t'' : List ℕ} {heads : ℕ} → split ≡ None → heads ≡ unmarked joins' (b.count - 1) + 1 → LaidOut order joins' heads b b' → MergesIn b' b'.count t' heads t'' → b'' ≡ record b' { count = heads }
      → Passing bones k names t t'' b'' joins' p (heads - 1)
  passing_next dark is (laid, same, whole) merges e =
      rw e (record {
        few = m.few;
        low = m.low;
        blocks = rw whole (pass_more m.blocks pass dark is laid (rw same at merges));
        whole = rw whole (sym (later_same m.blocks pass dark is laid b.size m.blocks.few) ∙ m.whole);
        next = omega arith;
        table_long = merges_long m.table_long merges;
        joins_long = pass.ordered.long;
      })

  module _ {from : ℕ} {t₀ : List ℕ} {joins₀ : List Bool} (s : Piling bones k names from t₀ t joins₀ p) where
    below : (x : ℕ) → T (listed b.list b.size x) → x < bones
    below = rw m.whole (pile_bone bones (heap_of names) p)

    fits_at : Small bones t → bulk (held t) (listed b.list b.size) < 2 ^ 32
    fits_at = small_fits bones s.few t (listed b.list b.size) below

    -- the pile is firm
    pub piling_next : {heads : ℕ} {t'' : List ℕ} → split ≡ None → heads ≡ unmarked joins' (b.count - 1) + 1 → heads ≡ 1 → t'' ≡ t → Piling bones k names from t₀ t'' joins' (p + 1)
    piling_next dark is one back =
        piling_on s back pass.ordered.long
        (rw (← s.same) (λ small q. rw m.whole at (pass_firm m.blocks pass bones s.few below dark (sym is ∙ one) (fits_at small))))

    -- a light split: the cut of this pile, those before it being firm
    pub searched : heap_of names p ≡ p → {f : Pass} → split ≡ Some f → {marks : List Bool} → Spread order f.left b.list b.into b.count b.size marks → (side : List ℕ) → Agree (side_of side) (apart bones (heap_of names) p (marked marks))
        → Small bones t₀ → Searched bones (held t₀) k (heap_of names) from (Some (record { pile = p; weight = f.weight; side = side }))
    unfolding Searched cut_of stands
    searched named {f = found} lit {marks} spread side of small = (
      rw (← s.same, fun_ext of)
          (light_lawful bones k (held t) (held_symmetric t) (heap_of names) p (marked marks) (pile_intro bones (heap_of names) p p m.low named) found.weight
          (rw m.whole at (pass_light m.blocks pass bones s.few below lit marks spread (fits_at (rw s.same small))))),
      s.begun,
      s.firm_before small,
    )
