-- The kinds of frames by name, and the number that each is written as.
use Rattle.std.specs.Prelude.{◌≡◌, ℕ, ◌<◌, ◌⊎◌, Result, MatchResult}
use Rattle.frames.specs.declared.kind.Kind.{Kind}
use Rattle.frames.specs.declared.kind.Kind.TheVariants.{Head, Link, Cut, Label, Note, Close, Refusal}
use Rattle.frames.specs.declared.kind.NoKind.{NoKind}

abbrev pub number_of : Kind → ℕ
number_of Head = 1
number_of Link = 2
number_of Cut = 3
number_of Label = 4
number_of Note = 5
number_of Close = 6
number_of Refusal = 7

-- the kind with this number, or an error where it is no kind's
abbrev pub Decodes : ℕ → Result Kind NoKind → Type 0
Decodes number r = MatchResult r (λ kind. number_of kind ≡ number) (λ e. (number ≡ 0) ⊎ (7 < number))
