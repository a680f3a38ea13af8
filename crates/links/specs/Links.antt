-- Links lent as bytes, and the rows of the refusal table that judge bone count, threshold and links.
use Rattle.std.specs.Prelude.{ℕ, suc, ◌+◌, ◌*◌, ◌/◌, ◌%◌, Bool, not, ◌||◌, List, [], ◌∷◌, ◌++◌, length, ◌==◌, nat_le, nat_lt, slice_index}
use Rattle.meaning.specs.declared.Link.{Link}
use Rattle.meaning.specs.declared.Row.TheVariants.{Bones, Threshold, Links, LinkEnd, EqualEnds, Tally}
use Rattle.meaning.specs.Judge.{Judged, refuse}

-- the links that a run of bytes means, four bytes a link: two bones, and the tally with its high byte first
unfoldable pub links_of : List ℕ → List Link
links_of [] = []
links_of (a ∷ []) = []
links_of (a ∷ b ∷ []) = []
links_of (a ∷ b ∷ high ∷ []) = []
links_of (a ∷ b ∷ high ∷ low ∷ rest) = record { a = a; b = b; tally = high * 256 + low } ∷ links_of rest

-- the link in place i of a run of bytes
unfoldable pub link_at : List ℕ → ℕ → Link
link_at bytes i =
    record {
      a = slice_index bytes (i * 4);
      b = slice_index bytes (i * 4 + 1);
      tally = slice_index bytes (i * 4 + 2) * 256 + slice_index bytes (i * 4 + 3);
    }

-- links as bytes, four a link
unfoldable pub link_bytes : List Link → List ℕ
link_bytes [] = []
link_bytes (l ∷ ls) = l.a ∷ l.b ∷ l.tally / 256 ∷ l.tally % 256 ∷ link_bytes ls

-- whether a run of bytes is whole links
unfoldable pub whole : List ℕ → Bool
whole bytes = length bytes % 4 == 0

-- rows 4, 5 and 6 at the link in place i; and at each link in turn, from place i on
unfoldable pub link_rows : ℕ → ℕ → Link → List Judged
link_rows n i l = refuse (nat_le n l.a || nat_le n l.b) LinkEnd i ∷ refuse (l.a == l.b) EqualEnds i ∷ refuse (l.tally == 0) Tally i ∷ []

unfoldable pub links_rows : ℕ → ℕ → List Link → List Judged
links_rows n i [] = []
links_rows n i (l ∷ ls) = link_rows n i l ++ links_rows n (suc i) ls

-- rows 1, 2 and 3; `good` says that the run of links is whole, as a run of link records always is
unfoldable pub count_rows : ℕ → ℕ → Bool → ℕ → List Judged
count_rows n k good count =
    refuse (n == 0 || nat_lt 128 n) Bones 0
    ∷ refuse (k == 0 || nat_lt 65535 k) Threshold 0
    ∷ refuse (not good || nat_lt 4096 count) Links 0
    ∷ []

-- rows 1 to 6
unfoldable pub table_rows : ℕ → ℕ → Bool → List Link → List Judged
table_rows n k good links = count_rows n k good (length links) ++ links_rows n 0 links
