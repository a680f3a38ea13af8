-- `write::put_bytes` meets its contract. The invariant: the first i bytes stand at the place, and the sum is theirs.
-- Assumes nothing.
use Rattle.std.proofs.Common.{ℕ, ◌+◌, ◌*◌, ◌%◌, [], ◌∷◌, List, slice_index_or, sym, ap, ◌∙◌, arith}
use Rattle.meaning.specs.Room.{over}
use Rattle.meaning.proofs.Room.{over_nil}
use Rattle.frames.specs.Frame.{byte_sum, hex}
use Rattle.frames.proofs.Writes.{next_hex, next_sum}
use Rattle.frames.proofs.write.put_bytes.Goals as goal

pub loop-i-init : goal.loop-i-init
unfolding byte_sum hex
loop-i-init c = record { sum_so_far = omega (arith, c.ranges.first.fits); written_so_far = sym (over_nil c.args.room.now c.args.at) }

pub loop-i-preserved : goal.loop-i-preserved
loop-i-preserved c =
    let a = c.args in
    let i = c.loop-i.i in
    let b = slice_index_or a.bytes.now i 0 in
    let inv = c.loop-i.invariant in
    record {
      sum_so_far = ap (λ (s : ℕ). (s + b) % 256) inv.sum_so_far ∙ next_sum a.bytes.now i c.loop-i-test.true a.first;
      written_so_far =
          c.put_byte.ensures
          ∙ ap (λ (r : List ℕ). over r (a.at + 2 * i) (hex (b ∷ []))) inv.written_so_far
          ∙ next_hex a.bytes.now i c.loop-i-test.true a.room.now a.at c.requires;
    }
