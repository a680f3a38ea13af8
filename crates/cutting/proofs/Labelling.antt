-- One pile of all bones, cut to the end from the empty record on: the names are the bones' labels.
-- Assumes nothing.
use Prim.Native.Nat.{ℕ, ◌*◌, ◌≤◌, ◌<◌}
use mathlib.Core.Path.{◌≡◌, ◌∙◌, ap, subst}
use mathlib.Core.List.{List}
use native.Mathlib.Omega.{arith}
use lib.Dec.{T}
use lib.ListN.{length}
use Rattle.meaning.specs.Tally.{Tally}
use Rattle.meaning.specs.Firm.{label}
use Rattle.meaning.specs.Heap.{Heap, start, LawfulRun, left, finished}
use Rattle.weighing.specs.Side.{heap_of}
use Rattle.cutting.specs.Record.{entry_size, cuts_in}
use Rattle.cutting.specs.Finish.{Begun, Ended}
use Rattle.cutting.proofs.Finish.{run_labels}

module _ (n : ℕ) (w : Tally) (k : ℕ) (space : List ℕ) (some_bones : 0 < n) where
  -- what is asked of it
  pub none_begun : n ≤ 128 → k ≤ 65535 → (names : List ℕ) → length names ≡ 128 → heap_of names ≡ start → entry_size * 127 ≤ length space → Begun n w k names space 0
  unfolding cuts_in left LawfulRun
  none_begun few low names long one room =
      record {
        some_bones = some_bones;
        few_bones = few;
        low_threshold = low;
        room = omega (arith, few, room);
        run = tt;
        heap = one;
        names_long = long;
      }

  -- and what it leaves
  pub ended_named : (names' space' : List ℕ) (cuts : ℕ) → Ended n w k space 0 names' space' cuts → (b : ℕ) → b < n → heap_of names' b ≡ label n w k b
  ended_named names' space' cuts e b l =
      ap (λ (h : Heap). h b) e.heap
      ∙ run_labels n w k some_bones (cuts_in cuts space') e.run (subst (λ (h : Heap). T (finished n w k h)) e.heap e.done) b l
