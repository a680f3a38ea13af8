use Rattle.std.proofs.Common.{◌≡◌, ◌∷◌, take}
use Rattle.meaning.specs.Room.{over}
use Rattle.frames.specs.Frame.{byte_sum, hex}
use Rattle.frames.proofs.write.put_bytes.Given as goal

abbrev pub invariant-loop-i : goal.invariant-loop-i
invariant-loop-i l =
    record {
      sum_so_far : l.sum ≡ byte_sum (l.first ∷ take l.i l.bytes);
      written_so_far : l.room ≡ over l.initial.room l.at (hex (take l.i l.bytes));
    }
