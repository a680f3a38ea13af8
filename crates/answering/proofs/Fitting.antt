-- A refusal of the reader, of grouping or of thinning fits the frame that tells it: its number is a byte, and its place is below 65,536.
--     Fits             what a judgement is, if it refuses
--     reader_fits, grouping_fits, thinning_fits     the first refusal of each
-- Assumes nothing.
use Prim.Native.Nat.{ℕ, suc, ◌+◌, ◌-◌, ◌/◌, ◌%◌, ◌≤◌, ◌<◌}
use mathlib.Core.Path.{◌≡◌, refl, subst}
use mathlib.Core.Bool.{Bool, true, false, not, cond, ◌||◌}
use mathlib.Core.List.{List, [], ◌∷◌, ◌++◌}
use native.Mathlib.Omega.{arith}
use lib.Dec.{eqb, ltb, lit<}
use lib.ListN.{length}
use borrow.Author.Tests.{ltb-false}
use Rattle.meaning.specs.declared.Link.{Link}
use Rattle.meaning.specs.declared.Row.{Row}
use Rattle.std.proofs.Common.{Ok, Err}
use Rattle.std.proofs.Common.{rules}
use Rattle.meaning.specs.Judge.{Judged, Accepted, refuse, first, number_of}
use Rattle.meaning.specs.Tally.{Tally, pair_tally}
use Rattle.meaning.specs.Heap.{Heap, Cut, start, parted}
use Rattle.links.specs.Links.{link_rows, links_rows, count_rows, table_rows}
use Rattle.links.proofs.LinksRows.{table_counted}
use Rattle.cutting.specs.Record.{entry_size, cuts_in, cuts_of}
use Rattle.cutting.specs.RecordRows.{record_row, record_rows, entry_rows, entries_rows}
use Rattle.cutting.specs.Rows.{label_row, space_row, link_row, grouping_rows, thinning_rows}
use Rattle.cutting.proofs.Cuts.{length_cuts}
use Rattle.frames.specs.declared.stage.Stage.{Stage}
use Rattle.frames.specs.declared.stage.Stage.TheVariants.{Opening}
use Rattle.frames.specs.Stages.{after}
use Rattle.frames.specs.Frame.{well_formed, is_hex, is_kind, bytes_of}
use Rattle.texts.specs.Lines.{Line, before, kind, lines_of, line_rows}
use Rattle.texts.specs.Reader.{reader_rows}
use Rattle.answering.specs.Steps.{Framed}

unfoldable pub Fits : Judged → Type 0
Fits (Ok done) = Unit {0}
Fits (Err refusal) = Framed refusal

-- each number of the refusal table is a byte
number_is_byte : (row : Row) → number_of row < 256
unfolding number_of
number_is_byte row = search rules

-- one row in front of others, which are looked at where it accepts
row_fits : (b : Bool) (row : Row) (place : ℕ) (js : List Judged) → place < 65536 → (b ≡ false → Fits (first js)) → Fits (first (refuse b row place ∷ js))
unfolding Fits refuse first
row_fits true row place js small rest = (number_is_byte row, small)
row_fits false row place js small rest = rest refl

pub both_fit : (js ks : List Judged) → Fits (first js) → (first js ≡ Accepted → Fits (first ks)) → Fits (first (js ++ ks))
unfolding Fits first
both_fit [] ks f g = g refl
both_fit (Ok done ∷ js) ks f g = both_fit js ks f g
both_fit (Err refusal ∷ js) ks f g = f

none_fits : Fits (first [])
unfolding Fits first
none_fits = tt

-- ---- grouping

links_fit : (n i : ℕ) (links : List Link) → i + length links ≤ 65536 → Fits (first (links_rows n i links))
unfolding links_rows link_rows
links_fit n i [] h = none_fits
links_fit n i (l ∷ ls) h =
    row_fits _ _ i _ (omega arith) (λ _.
    row_fits _ _ i _ (omega arith) (λ _.
    row_fits _ _ i _ (omega arith) (λ _. links_fit n (suc i) ls (omega arith))))

table_fits : (n k : ℕ) (links : List Link) → Fits (first (table_rows n k true links))
unfolding table_rows count_rows
table_fits n k links =
    row_fits _ _ 0 _ (lit< tt) (λ _.
    row_fits _ _ 0 _ (lit< tt) (λ _.
    row_fits _ _ 0 _ (lit< tt) (λ e. links_fit n 0 links (omega (arith, ltb-false 4096 (length links) e)))))

entries_fit : (n : ℕ) (w : Tally) (k : ℕ) (h : Heap) (i : ℕ) (cs : List Cut) → i + length cs ≤ 65536 → Fits (first (entries_rows n w k h i cs))
unfolding entries_rows entry_rows
entries_fit n w k h i [] l = none_fits
entries_fit n w k h i (c ∷ cs) l =
    row_fits _ _ i _ (omega arith) (λ _.
    row_fits _ _ i _ (omega arith) (λ _.
    row_fits _ _ i _ (omega arith) (λ _.
    row_fits _ _ i _ (omega arith) (λ _. entries_fit n w k (parted n h c) (suc i) cs (omega arith)))))

either : (a b : Bool) → a || b ≡ false → b ≡ false
either true b e = absurd (subst (λ (x : Bool). cond x (Unit {0}) ⊥) e tt)
either false b e = e

record_fits : (n : ℕ) (w : Tally) (k : ℕ) (bytes : List ℕ) → n ≤ 128 → Fits (first (record_rows n w k bytes))
unfolding record_rows record_row cuts_of
record_fits n w k bytes few =
    row_fits _ _ 0 _ (lit< tt) (λ e.
    entries_fit n w k start 0 (cuts_in (length bytes / entry_size) bytes)
    (omega (arith, ltb-false (n - 1) (length bytes / entry_size) (either (not (eqb (length bytes % entry_size) 0)) (ltb (n - 1) (length bytes / entry_size)) e), length_cuts (length bytes / entry_size) bytes)))

pub grouping_fits : (n k : ℕ) (links : List Link) (bytes : List ℕ) (label_room record_room : ℕ) → Fits (first (grouping_rows n k true links bytes label_room record_room))
unfolding grouping_rows label_row space_row
grouping_fits n k links bytes label_room record_room =
    both_fit (table_rows n k true links) _ (table_fits n k links) (λ e.
    row_fits _ _ 0 _ (lit< tt) (λ _.
    row_fits _ _ 0 _ (lit< tt) (λ _. record_fits n (pair_tally links) k bytes (table_counted n k true links e).few_bones)))

-- ---- thinning

pub thinning_fits : (n k : ℕ) (links : List Link) (link_room : ℕ) → Fits (first (thinning_rows n k true links link_room))
unfolding thinning_rows link_row
thinning_fits n k links link_room = both_fit (table_rows n k true links) _ (table_fits n k links) (λ _. row_fits _ _ 0 _ (lit< tt) (λ _. none_fits))

-- ---- the reader

lines_fit : (stage : Stage) (i : ℕ) (ls : List Line) → i + length ls ≤ 65535 → Fits (first (line_rows stage i ls))
unfolding line_rows
lines_fit stage i [] h = row_fits _ _ i _ (omega arith) (λ _. none_fits)
lines_fit stage i (l ∷ ls) h =
    row_fits _ _ i _ (omega arith) (λ _.
    row_fits _ _ i _ (omega arith) (λ _.
    row_fits _ _ i _ (omega arith) (λ _.
    row_fits _ _ i _ (omega arith) (λ _. lines_fit (after stage (kind l)) (suc i) ls (omega arith)))))

-- a text has at most as many lines as characters
before_most : (c : ℕ) (ls : List Line) (m : ℕ) → 0 < m → length ls ≤ m → length (before c ls) ≤ m
unfolding before
before_most c [] m h g = omega arith
before_most c (l ∷ ls) m h g = g

lines_most : (cs : List ℕ) → length (lines_of cs) ≤ length cs
unfolding lines_of
lines_most [] = omega arith
lines_most (c ∷ cs) = go (eqb c 10) (lines_most cs)
  where
    go : (b : Bool) → length (lines_of cs) ≤ length cs → length (cond b (record { characters = []; ended = true } ∷ lines_of cs) (before c (lines_of cs))) ≤ suc (length cs)
    go true h = omega arith
    go false h = before_most c (lines_of cs) (suc (length cs)) (omega arith) (omega arith)

-- an empty first line is refused at once
empty_line : (ls : List Line) → Fits (first (line_rows Opening 0 (record { characters = []; ended = true } ∷ ls)))
unfolding line_rows refuse first well_formed is_hex is_kind bytes_of Fits
empty_line ls = (number_is_byte _, lit< tt)

-- any other first line leaves fewer lines than characters
text_fits : (text : List ℕ) → length text ≤ 65536 → Fits (first (line_rows Opening 0 (lines_of text)))
unfolding lines_of
text_fits [] h = lines_fit Opening 0 [] (omega arith)
text_fits (c ∷ cs) h = go (eqb c 10)
  where
    go : (b : Bool) → Fits (first (line_rows Opening 0 (cond b (record { characters = []; ended = true } ∷ lines_of cs) (before c (lines_of cs)))))
    go true = empty_line (lines_of cs)
    go false = lines_fit Opening 0 (before c (lines_of cs)) (omega (arith, before_most c (lines_of cs) 65535 (omega arith) (omega (arith, lines_most cs))))

pub reader_fits : (text : List ℕ) (link_room record_room : ℕ) → Fits (first (reader_rows text link_room record_room))
unfolding reader_rows
reader_fits text link_room record_room =
    row_fits _ _ 0 _ (lit< tt) (λ e.
    both_fit (line_rows Opening 0 (lines_of text)) _ (text_fits text (ltb-false 65536 (length text) e)) (λ _.
    row_fits _ _ 0 _ (lit< tt) (λ _.
    row_fits _ _ 0 _ (lit< tt) (λ _.
    row_fits _ _ 0 _ (lit< tt) (λ _.
    row_fits _ _ 0 _ (lit< tt) (λ _. none_fits))))))
