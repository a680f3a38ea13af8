-- Rows 7, 8 and 14 of the refusal table, which judge the room that is lent, and the rows that each call tries, in document 01's order.
use Rattle.std.specs.Prelude.{ℕ, ◌*◌, ◌-◌, Bool, List, [], ◌∷◌, ◌++◌, ltb, length}
use Rattle.meaning.specs.declared.Link.{Link}
use Rattle.meaning.specs.declared.Row.TheVariants.{LabelSpace, RecordSpace, LinkSpace}
use Rattle.meaning.specs.Judge.{Judged, refuse}
use Rattle.meaning.specs.Tally.{pair_tally}
use Rattle.links.specs.Links.{table_rows}
use Rattle.cutting.specs.Record.{entry_size}
use Rattle.cutting.specs.RecordRows.{record_rows}

-- 7: label space shorter than n. 8: record space shorter than n − 1 entries
unfoldable pub label_row : ℕ → ℕ → Judged
label_row n room = refuse (ltb room n) LabelSpace 0

unfoldable pub space_row : ℕ → ℕ → Judged
space_row n room = refuse (ltb room (entry_size * (n - 1))) RecordSpace 0

-- 14: link space shorter than the links given, both counted in whole links
unfoldable pub link_row : ℕ → ℕ → Judged
link_row links room = refuse (ltb room links) LinkSpace 0

-- what each call tries, in order; `good` says that the run of links is whole
unfoldable pub checking_rows : ℕ → ℕ → Bool → List Link → List ℕ → ℕ → List Judged
checking_rows n k good links bytes label_room =
    table_rows n k good links
    ++ label_row n label_room
    ∷ record_rows n (pair_tally links) k bytes

unfoldable pub grouping_rows : ℕ → ℕ → Bool → List Link → List ℕ → ℕ → ℕ → List Judged
grouping_rows n k good links bytes label_room record_room =
    table_rows n k good links
    ++ label_row n label_room
    ∷ space_row n record_room
    ∷ record_rows n (pair_tally links) k bytes

unfoldable pub thinning_rows : ℕ → ℕ → Bool → List Link → ℕ → List Judged
thinning_rows n k good links link_room = table_rows n k good links ++ link_row (length links) link_room ∷ []
