-- `cutting::heap::count_piles` meets its contract. The invariant: the heads below b are counted. Assumes nothing.
use Prim.Native.Nat.{ℕ, ◌+◌, ◌<◌, min}
use mathlib.Core.Path.{◌≡◌, refl, sym, ◌∙◌, ap, ap₂}
use mathlib.Core.Bool.{Bool, true, false, cond}
use lib.ListN.{get_or}
use native.Mathlib.Omega.{arith}
use lib.Dec.{eqb}
use Rattle.meaning.specs.Count.{sum}
use Rattle.weighing.specs.Side.{heap_of}
use Rattle.cutting.proofs.Names.{piles_heads, sum_next, heads_most}
use mathlib.Core.List.{List}
use mir.Val.{Fits, bool_byte}
use mir.Syntax.{w32}
use Rattle.cutting.proofs.heap.count_piles.Goals as goal

-- so many heads fit: there are no more than bones
sum_fits : (names : List ℕ) (b count more : ℕ) → b < 128 → count ≡ sum b (λ x. cond (eqb (heap_of names x) x) 1 0) → more ≡ cond (eqb (heap_of names b) b) 1 0 → Fits w32 (count + more)
sum_fits names b count more h e f =
    omega (arith, e, f, heads_most (b + 1) (heap_of names), sum_next b (λ x. cond (eqb (heap_of names x) x) 1 0))

-- a head counts one
head_one : (names : List ℕ) (b : ℕ) {name one : ℕ} → name ≡ get_or names b 0 → one ≡ bool_byte (eqb name b) → one ≡ cond (eqb (heap_of names b) b) 1 0
unfolding heap_of
head_one names b {name} n e = e ∙ as_number (eqb name b) ∙ ap (λ (x : ℕ). cond (eqb x b) 1 0) n
  where
    as_number : (t : Bool) → bool_byte t ≡ cond t 1 0
    as_number true = refl
    as_number false = refl

pub loop-b-init : goal.loop-b-init
unfolding sum
loop-b-init c = refl

pub overflow_add-count : goal.overflow_add-count
unfolding heap_of
overflow_add-count c =
    sum_fits c.args.names.now _ _ _ (omega arith) c.loop-b.invariant (head_one c.args.names.now c.loop-b.b c.from.ensures c.from-count.ensures)

pub loop-b-preserved : goal.loop-b-preserved
unfolding heap_of
loop-b-preserved c = ap₂ ◌+◌ c.loop-b.invariant (head_one c.args.names.now c.loop-b.b c.from.ensures c.from-count.ensures) ∙ sym (sum_next c.loop-b.b _)

pub returns : goal.returns
returns c =
    let a = c.args in
    let done : c.loop-b.b ≡ min a.n 128 = omega arith in
    c.loop-b.invariant ∙ ap (λ (m : ℕ). sum m (λ x. cond (eqb (heap_of a.names.now x) x) 1 0)) done ∙ sym (piles_heads (min a.n 128) (heap_of a.names.now))
