-- `cutting::check::tell_piles` meets its contract. Assumes nothing.
use Rattle.std.proofs.Common.{◌≡◌, ℕ, min, refl, ◌∙◌, ap, ap₂, arith}
use Rattle.meaning.specs.Heap.{piles}
use Rattle.meaning.specs.Room.{fitted}
use Rattle.weighing.specs.Side.{heap_of}
use Rattle.links.specs.Table.{held}
use Rattle.cutting.specs.Names.{names}
use Rattle.cutting.specs.Runs.{answer_of}
use Rattle.cutting.proofs.Finish.{searched_few, searched_finished}
use Rattle.cutting.proofs.check.tell_piles.Goals as goal

pub returns : goal.returns
returns c =
    let a = c.args in
    let h = heap_of a.names.now in
    let all : min a.counts.bones 128 ≡ a.counts.bones = omega arith in record {
      value = ap₂ answer_of (c.count_piles.ensures ∙ ap (λ (m : ℕ). piles m h) all) (searched_finished a.counts.bones (held a.table.now) a.counts.k h _ _ (searched_few a.counts.bones _ _ a.counts.k h 0 _ (omega arith) c.requires refl c.search.ensures.searched) c.is_none.ensures);
      labels_after = c.write_names.ensures ∙ ap (λ (m : ℕ). fitted a.labels.now 0 (names m h)) all;
    }
