-- What the reader gives: the head's numbers, the links and the cuts of a text.
use Rattle.std.specs.Prelude.{ℕ, ◌*◌, ◌/◌, ◌≡◌, cond, List, [], ◌∷◌, ◌++◌, eqb, ltb, length, get_or, take, drop, Result}
use Rattle.meaning.specs.declared.Link.{Link}
use Rattle.meaning.specs.declared.Refusal.{Refusal}
use Rattle.meaning.specs.declared.Row.TheVariants.{TextLength, Links, Record, LinkSpace, RecordSpace}
use Rattle.meaning.specs.Judge.{Judged, answered, refuse, first}
use Rattle.meaning.specs.Room.{over, settled}
use Rattle.cutting.specs.Record.{entry_size}
use Rattle.texts.specs.declared.Reading.{Reading}
use Rattle.frames.specs.declared.stage.Stage.TheVariants.{Opening}
use Rattle.texts.specs.Lines.{Line, lines_of, frame, kind, pair, line_rows}

-- the link of a frame 02; the entry of a frame 03
unfoldable pub link_in : Line → Link
link_in l = record { a = get_or (frame l) 1 0; b = get_or (frame l) 2 0; tally = pair l 3 }

unfoldable pub entry_in : Line → List ℕ
entry_in l = take entry_size (drop 1 (frame l))

-- the links of a text, in order; its entries, one behind the other; notes are passed over
unfoldable pub links_in : List Line → List Link
links_in [] = []
links_in (l ∷ ls) = cond (eqb (kind l) 2) (link_in l ∷ links_in ls) (links_in ls)

unfoldable pub entries_in : List Line → List ℕ
entries_in [] = []
entries_in (l ∷ ls) = cond (eqb (kind l) 3) (entry_in l ++ entries_in ls) (entries_in ls)

-- the head's numbers
unfoldable pub bones_in : List Line → ℕ
bones_in [] = 0
bones_in (l ∷ ls) = get_or (frame l) 1 0

unfoldable pub threshold_in : List Line → ℕ
threshold_in [] = 0
threshold_in (l ∷ ls) = pair l 2

-- what the reader tries: 15; 16 to 19 on each line; 3, 9, 14, 8. Link room is counted in links, record room in bytes
unfoldable pub reader_rows : List ℕ → ℕ → ℕ → List Judged
reader_rows text link_room record_room =
    refuse (ltb 65536 (length text)) TextLength 0
    ∷ line_rows Opening 0 (lines_of text)
    ++ refuse (ltb 4096 (length (links_in (lines_of text)))) Links 0
    ∷ refuse (ltb (entry_size * 127) (length (entries_in (lines_of text)))) Record 0
    ∷ refuse (ltb link_room (length (links_in (lines_of text)))) LinkSpace 0
    ∷ refuse (ltb record_room (length (entries_in (lines_of text)))) RecordSpace 0
    ∷ []

-- what it finds: the head's numbers, and how many links and cuts there are
unfoldable pub found_in : List Line → Reading
found_in ls = record { n = bones_in ls; k = threshold_in ls; links = length (links_in ls); cuts = length (entries_in ls) / entry_size }

pub record Reads (text : List ℕ) (links links' : List Link) (space space' : List ℕ) (r : Result Reading Refusal) : Type 0 where
  pub answer : r ≡ answered (first (reader_rows text (length links) (length space))) (found_in (lines_of text))
  pub links_after : links' ≡ settled (first (reader_rows text (length links) (length space))) links (over links 0 (links_in (lines_of text)))
  pub record_left : space' ≡ settled (first (reader_rows text (length links) (length space))) space (over space 0 (entries_in (lines_of text)))
