-- What the parts of the judging pass promise each other: a line that passed, and what is left to read from there on.
use Rattle.std.specs.Prelude.{ℕ, ◌+◌, ◌*◌, ◌/◌, ◌≤◌, ◌<◌, ◌≡◌, Bool, true, ◌&&◌, List, [], ◌∷◌, T, length, take, drop, Result, Err, MatchResult}
use Rattle.meaning.specs.declared.Refusal.{Refusal}
use Rattle.meaning.specs.Judge.{Judged, answered, first}
use Rattle.cutting.specs.Record.{entry_size}
use Rattle.texts.specs.declared.Reading.{Reading}
use Rattle.texts.specs.declared.frame.Frame.{Frame}
use Rattle.frames.specs.declared.stage.Stage.{Stage}
use Rattle.frames.specs.declared.stage.Stage.TheVariants.{Opening, Linking, Cutting, Closed}
use Rattle.frames.specs.declared.progress.Progress.{Progress}
use Rattle.frames.specs.Frame.{byte_sum, bytes_of, well_formed}
use Rattle.frames.specs.Stages.{follows}
use Rattle.texts.specs.Lines.{Line, lines_of, line_rows}
use Rattle.texts.specs.Reader.{links_in, entries_in, bones_in, threshold_in}
use Rattle.texts.specs.Walk.{byte_at, size_at, Well, FrameAt}

-- rows 16 to 19 pass the frame at the front
pub record Passes (cs : List ℕ) (stage : Stage) (line : ℕ) : Type 0 where
  pub well : Well cs
  pub sum : byte_sum (bytes_of (take (2 * size_at cs) cs)) ≡ 0
  pub order : T (follows stage (byte_at cs 0))
  pub count : byte_at cs 0 ≡ 6 → byte_at cs 1 * 256 + byte_at cs 2 ≡ line

-- the frame of the line at the front, which passed
pub record LinePassed (cs : List ℕ) (stage : Stage) (line : ℕ) (f : Frame) : Type 0 where
  pub frame : FrameAt cs f
  pub passes : Passes cs stage line

-- they do, or the first of them that refuses it is told
abbrev pub LineJudged : List ℕ → Stage → ℕ → Judged → Type 0
LineJudged cs stage line r = MatchResult r (λ done. Passes cs stage line) (λ refusal. first (line_rows stage line (lines_of cs)) ≡ Err refusal)

-- a number of the head: still to be read, or read before
unfoldable pub head_from : Stage → ℕ → ℕ → ℕ
head_from Opening coming had = coming
head_from Linking coming had = had
head_from Cutting coming had = had
head_from Closed coming had = had

-- what is read in all, where so much was read before these lines
unfoldable pub read_from : Progress → List Line → Result Reading Refusal
read_from s ls =
    answered (first (line_rows s.stage s.line ls))
    (record {
      n = head_from s.stage (bones_in ls) s.n;
      k = head_from s.stage (threshold_in ls) s.k;
      links = s.links + length (links_in ls);
      cuts = s.cuts + length (entries_in ls) / entry_size;
    })

-- so far at most as many links and cuts as lines, and at most as many lines as characters
pub record Bounded (text : List ℕ) (s : Progress) : Type 0 where
  pub text_small : length text ≤ 65536
  pub place : s.at ≤ length text
  pub lines : s.line ≤ s.at
  pub links : s.links ≤ s.line
  pub cuts : s.cuts ≤ s.line

pub record Ready (text : List ℕ) (s : Progress) (f : Frame) : Type 0 where
  pub small : Bounded text s
  pub line : LinePassed (drop s.at text) s.stage s.line f

pub record Advanced (text : List ℕ) (s s' : Progress) : Type 0 where
  pub small : Bounded text s'
  pub further : s.at < s'.at
  pub same : read_from s (lines_of (drop s.at text)) ≡ read_from s' (lines_of (drop s'.at text))

-- every line is a well formed frame
unfoldable pub all_well : List Line → Bool
all_well [] = true
all_well (l ∷ ls) = (l.ended && well_formed l.characters) && all_well ls
