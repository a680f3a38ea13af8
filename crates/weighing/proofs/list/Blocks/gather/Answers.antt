-- `weighing::list::Blocks::gather` meets its contract: after b turns the bones of the pile below b are listed.
-- Assumes nothing.
use Rattle.std.proofs.Common.{◌≡◌, refl, ap, ◌∙◌, zero-le, arith}
use Rattle.std.specs.Int.{from_bool}
use Rattle.meaning.proofs.Heaps.{pile_bone}
use Rattle.weighing.specs.Piles.{heap, pile_in}
use Rattle.weighing.proofs.Listing.{bit_of}
use Rattle.weighing.proofs.Laying.{filled_none, filled_once, filled-listed, gathered_next}
use Rattle.weighing.proofs.list.Blocks.gather.Goals as goal

pub loop-b-init : goal.loop-b-init
loop-b-init c =
    record { long = omega arith; most = zero-le; filled = filled_none _ (λ p h. omega arith) (λ x h. omega arith) }

pub bounds-self-m : goal.bounds-self-m
bounds-self-m c = omega (arith, c.loop-b.invariant.most)

pub overflow_add-m : goal.overflow_add-m
overflow_add-m c = omega (arith, c.loop-b.invariant.most, bit_of c.is_in.result, c.from-m.ensures)

pub loop-b-preserved : goal.loop-b-preserved
loop-b-preserved c =
    gathered_next c.loop-b.invariant (omega arith) c.from-m.result (c.from-m.ensures ∙ ap from_bool c.is_in.ensures)

pub returns : goal.returns
returns c =
    let l = c.loop-b in
    let s = c.args.piles.now in
    let p = c.args.p in
    let all : l.b ≡ s.bones = omega arith in
    let gathered = rw all at l.invariant in
    let so = gathered.filled in record {
      once = (filled_once l.m so gathered.long (omega arith) (λ x h. omega arith), omega (arith, gathered.most), refl);
      by_index = filled-listed l.m so (pile_in s p) (λ x h. h.0) (λ x t. (t, pile_bone s.bones (heap s) p x t));
    }
