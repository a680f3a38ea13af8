-- `weighing::degrees::lone` meets its contract: the cut is lawful where the tests say that it is to be made.
-- Assumes nothing.
use Rattle.std.proofs.Common.{◌≡◌, ◌<◌, ℕ, Bool, true, sym, refl, ◌∙◌, arith, le-ltb, lt-ltb}
use Rattle.meaning.proofs.Tests.{holds}
use Rattle.links.specs.Table.{held}
use Rattle.links.proofs.TableHeld.{held_symmetric}
use Rattle.weighing.specs.Side.{heap_of}
use Rattle.weighing.specs.Piles.{heap}
use Rattle.weighing.specs.Degrees.{joined, mate, degree, loose, Loosed, without}
use Rattle.weighing.specs.declared.piles.Piles.{Piles}
use Rattle.weighing.proofs.Noting.{joined_low, loosed, less_same, less_none}
use Rattle.weighing.proofs.degrees.lone.Goals as goal

-- a bone that was found to have mates is one of the bones of the piles, and so below 128
among : (s : Piles) {u : ℕ} {mates : Bool} → mates ≡ joined s.bones (heap s) u → mates ≡ true → u < s.bones
among s {u} is so = joined_low s.bones (heap s) u (holds (sym is ∙ so))

below : (s : Piles) {u : ℕ} {mates : Bool} → mates ≡ joined s.bones (heap s) u → mates ≡ true → u < 128
below s is so = omega (arith, s.few, among s is so)

pub bounds-piles-u : goal.bounds-piles-u
bounds-piles-u c = below c.new-piles.result c.has_mates.ensures c.if-has_mates.true

pub take_out-weight-requires : goal.take_out-weight-requires
take_out-weight-requires c = below c.new-piles.result c.has_mates.ensures c.if-has_mates.true

pub bounds-piles-u-then-weight-k : goal.bounds-piles-u-then-weight-k
bounds-piles-u-then-weight-k c = below c.new-piles.result c.has_mates.ensures c.if-has_mates.true

pub lone_side-requires : goal.lone_side-requires
lone_side-requires c = among c.new-piles.result c.has_mates.ensures c.if-has_mates.true

pub returns-then-weight-k : goal.returns-then-weight-k
unfolding loose heap_of degree mate Loosed without
returns-then-weight-k c =
    let a = c.args in
    let s = c.new-piles in
    let sure : joined s.result.bones (heap s.result) a.u ≡ true = sym c.has_mates.ensures ∙ c.if-has_mates.true in
    let d = c.take_out-weight.ensures in
    rw (← s.ensures.0, ← s.ensures.1) (record {
      light_value = rw (sure, ← d.value, lt-ltb _ _ c.if-weight-k.true);
      loosed = loosed s.result.bones (held a.table.now) a.k (heap s.result) a.u _ (held_symmetric a.table.now) (holds sure) refl d.value c.if-weight-k.true c.lone_side.ensures;
      loses = λ notes. less_same (λ b. rw sure) (d.loses notes);
    })

pub returns-else-weight-k : goal.returns-else-weight-k
unfolding loose heap_of degree mate Loosed without
returns-else-weight-k c =
    let s = c.new-piles in
    let sure : joined s.result.bones (heap s.result) c.args.u ≡ true = sym c.has_mates.ensures ∙ c.if-has_mates.true in
    let d = c.take_out-weight.ensures in
    rw (← s.ensures.0, ← s.ensures.1) (record {
      light_value = rw (sure, ← d.value, le-ltb _ _ c.if-weight-k.false);
      loosed = tt {0};
      loses = λ notes. less_same (λ b. rw sure) (d.loses notes);
    })

pub returns-else-has_mates : goal.returns-else-has_mates
unfolding loose heap_of degree mate Loosed without
returns-else-has_mates c =
    let s = c.new-piles in
    let none = sym c.has_mates.ensures ∙ c.if-has_mates.false in
    rw (← s.ensures.0, ← s.ensures.1) (record {
      light_value = rw none;
      loosed = tt {0};
      loses = λ notes. less_same (λ b. rw none) (less_none notes);
    })
