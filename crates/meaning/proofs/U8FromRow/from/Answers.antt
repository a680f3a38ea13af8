use denote.Enum.Declared.{tag_of}
use Rattle.std.proofs.Common.{◌≡◌, ◌+◌, refl}
use Rattle.meaning.specs.declared.Row.{Row}
use Rattle.meaning.specs.declared.Row.TheVariants.{Bones, Threshold, Links, LinkEnd, EqualEnds, Tally, LabelSpace, RecordSpace, Record, Pile, Side, Weight, NotLight, LinkSpace, TextLength, Line, Sum, Order, Close, TextSpace}
use Rattle.meaning.specs.contracts.Row.{the_type}
use Rattle.meaning.specs.Judge.{number_of}
use Rattle.meaning.proofs.U8FromRow.from.Goals as goal

numbered : (row : Row) → tag_of the_type row + 1 ≡ number_of row
unfolding number_of
numbered Bones = refl
numbered Threshold = refl
numbered Links = refl
numbered LinkEnd = refl
numbered EqualEnds = refl
numbered Tally = refl
numbered LabelSpace = refl
numbered RecordSpace = refl
numbered Record = refl
numbered Pile = refl
numbered Side = refl
numbered Weight = refl
numbered NotLight = refl
numbered LinkSpace = refl
numbered TextLength = refl
numbered Line = refl
numbered Sum = refl
numbered Order = refl
numbered Close = refl
numbered TextSpace = refl

pub returns : goal.returns
returns c = numbered c.args.row
