-- How far judging has come behind one frame more. Sums wrap as the numbers of the program do.
use Rattle.std.specs.Prelude.{◌≡◌, ℕ, ◌+◌, ◌*◌, ◌%◌, ◌^◌, ◌||◌, ◌==◌, if◌then◌else◌}
use Rattle.frames.specs.declared.stage.Stage.{Stage}
use Rattle.frames.specs.declared.stage.Stage.TheVariants.{Linking, Cutting, Closed}
use Rattle.frames.specs.declared.progress.Progress.{Progress}

-- where a frame leads, by its kind alone: head and link, to the links; cut, to the cuts; note, nowhere; close, to the end
unfoldable pub leads : Stage → ℕ → Stage
leads stage kind =
    if kind == 1 || kind == 2 then Linking else (if kind == 3 then Cutting else (if kind == 5 then stage else Closed))

-- behind a frame of that kind and so many bytes: past its line feed, one line further, and one link or one cut more
pub record Stepped (s : Progress) (kind size : ℕ) (s' : Progress) : Type 0 where
  pub place : s'.at ≡ (s.at + 2 * size + 1) % 2 ^ 64
  pub line : s'.line ≡ (s.line + 1) % 2 ^ 32
  pub stage : s'.stage ≡ leads s.stage kind
  pub n : s'.n ≡ s.n
  pub k : s'.k ≡ s.k
  pub links : s'.links ≡ (if kind == 2 then (s.links + 1) % 2 ^ 32 else s.links)
  pub cuts : s'.cuts ≡ (if kind == 3 then (s.cuts + 1) % 2 ^ 32 else s.cuts)
