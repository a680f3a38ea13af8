-- The refusal table's order: checks stand in a list, and the first that refuses is the answer.
use Rattle.std.specs.Prelude.{ℕ, Bool, true, false, List, [], ◌∷◌, Result, Ok, Err}
use Rattle.meaning.specs.declared.Row.{Row}
use Rattle.meaning.specs.declared.Row.TheVariants.{Bones, Threshold, Links, LinkEnd, EqualEnds, Tally, LabelSpace, RecordSpace, Record, Pile, Side, Weight, NotLight, LinkSpace, TextLength, Line, Sum, Order, Close, TextSpace}
use Rattle.meaning.specs.declared.Refusal.{Refusal}

-- the number that the table gives a row
unfoldable pub number_of : Row → ℕ
number_of Bones = 1
number_of Threshold = 2
number_of Links = 3
number_of LinkEnd = 4
number_of EqualEnds = 5
number_of Tally = 6
number_of LabelSpace = 7
number_of RecordSpace = 8
number_of Record = 9
number_of Pile = 10
number_of Side = 11
number_of Weight = 12
number_of NotLight = 13
number_of LinkSpace = 14
number_of TextLength = 15
number_of Line = 16
number_of Sum = 17
number_of Order = 18
number_of Close = 19
number_of TextSpace = 20

-- what judging gives: that the input is accepted, or why it is refused
abbrev pub Judged : Type 0
Judged = Result (Unit {0}) Refusal

abbrev pub Accepted : Judged
Accepted = Ok (tt {0})

abbrev pub Refused : Row → ℕ → Judged
Refused row place = Err (record { row = row; place = place })

-- refused under a row of the table, at a place, exactly when the row's words hold
unfoldable pub refuse : Bool → Row → ℕ → Judged
refuse true row place = Refused row place
refuse false row place = Accepted

-- the first refusal in order
unfoldable pub first : List Judged → Judged
first [] = Accepted
first (Ok done ∷ js) = first js
first (Err refusal ∷ js) = Err refusal

-- the refusal, or where there is none what is answered
unfoldable pub answered : {A : Type 0} → Judged → A → Result A Refusal
answered (Ok done) x = Ok x
answered (Err refusal) x = Err refusal
