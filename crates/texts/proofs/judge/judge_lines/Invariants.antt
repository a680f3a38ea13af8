use Rattle.std.proofs.Common.{◌≡◌, ◌-◌, length, drop}
use Rattle.meaning.specs.Judge.{answered, first}
use Rattle.frames.specs.declared.stage.Stage.TheVariants.{Opening}
use Rattle.texts.specs.Lines.{lines_of, line_rows}
use Rattle.texts.specs.Reader.{found_in}
use Rattle.texts.specs.Judging.{Bounded, read_from}
use Rattle.texts.proofs.judge.judge_lines.Given as goal

abbrev pub invariant-loop-s : goal.invariant-loop-s
invariant-loop-s l =
    Bounded l.text l.s
    × (answered (first (line_rows Opening 0 (lines_of l.text))) (found_in (lines_of l.text)) ≡ read_from l.s (lines_of (drop l.s.at l.text)))

abbrev pub decreases-loop-s : goal.decreases-loop-s
decreases-loop-s l = length l.text - l.s.at
