-- The order of frames in an input text: which may follow, and how far the text has come after it.
use Rattle.std.specs.Prelude.{ℕ, Bool, true, false, ◌||◌, ◌==◌, if◌then◌else◌}
use Rattle.frames.specs.declared.stage.Stage.{Stage}
use Rattle.frames.specs.declared.stage.Stage.TheVariants.{Opening, Linking, Cutting, Closed}

-- whether a frame of that kind may stand there: head; links and notes; cuts and notes; close; nothing after
unfoldable pub follows : Stage → ℕ → Bool
follows Opening kind = kind == 1
follows Linking kind = (kind == 2 || kind == 3) || (kind == 5 || kind == 6)
follows Cutting kind = kind == 3 || (kind == 5 || kind == 6)
follows Closed kind = false

-- and how far the text has come after it
unfoldable pub after : Stage → ℕ → Stage
after Opening kind = Linking
after Linking kind = if kind == 6 then Closed else (if kind == 3 then Cutting else Linking)
after Cutting kind = if kind == 6 then Closed else Cutting
after Closed kind = Closed

unfoldable pub open_at : Stage → Bool
open_at Opening = true
open_at Linking = true
open_at Cutting = true
open_at Closed = false
