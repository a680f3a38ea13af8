-- `cutting::group::complete` meets its contract. Assumes nothing.
use Rattle.std.proofs.Common.{◌≡◌, ℕ, true, min, ◌∙◌, ap, arith}
use Rattle.meaning.specs.Heap.{piles}
use Rattle.meaning.specs.Room.{fitted}
use Rattle.weighing.specs.Side.{heap_of}
use Rattle.links.specs.Table.{held}
use Rattle.cutting.specs.Names.{names}
use Rattle.cutting.specs.Runs.{answer_of}
use Rattle.cutting.proofs.Continuing.{record_sound, given_whole, given_begins, ended_continued, ended_labels, ended_groups}
use Rattle.cutting.proofs.group.complete.Goals as goal

pub finish-requires : goal.finish-requires
finish-requires c =
    let a = c.args in
    let w = held a.table.now in
    let sound = record_sound _ _ _ _ c.requires.entries_value.0 in
    record {
      small = c.requires.small;
      begun = rw (given_whole a.counts.bones w a.counts.k a.entries.now a.space.now sound (omega arith) c.requires.room c.copy.ensures, c.within.ensures)
          (given_begins a.counts.bones w a.counts.k a.entries.now a.space.now sound (omega arith) c.requires.room a.names.now (omega arith) (omega arith) c.requires.entries_value.1 (omega arith));
    }

pub returns : goal.returns
returns c =
    let a = c.args in
    let n = a.counts.bones in
    let w = held a.table.now in
    let sound = record_sound _ _ _ _ c.requires.entries_value.0 in
    let given = given_whole n w a.counts.k a.entries.now a.space.now sound (omega arith) c.requires.room c.copy.ensures in
    let end = rw (given, c.within.ensures) at c.finish.ensures in
    let all : min n 128 ≡ n = omega arith in
    let h = heap_of c.finish.new.names in
    record {
      value = ap (λ (m : ℕ). answer_of m true) (c.count_piles.ensures ∙ ap (λ (m : ℕ). piles m h) all ∙ ended_groups n w a.counts.k a.entries.now a.space.now sound (omega arith) c.requires.room _ _ _ end);
      labels_after = c.write_names.ensures ∙ ap (λ (m : ℕ). fitted a.labels.now 0 (names m h)) all ∙ ap (fitted a.labels.now 0) (ended_labels n w a.counts.k a.entries.now a.space.now sound (omega arith) c.requires.room _ _ _ end);
      continued = ended_continued n w a.counts.k a.entries.now a.space.now sound (omega arith) c.requires.room _ _ _ end;
    }
