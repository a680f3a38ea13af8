-- Blocks contracted in the pair table, and taken back out. The bones of a pile stand in a list; those in its first places lead a block, and
-- each of the others was merged into one that stands before it.
use Rattle.std.specs.Prelude.{◌≡◌, ℕ, ◌+◌, ◌-◌, ◌%◌, ◌^◌, ◌<◌, ◌≤◌, Bool, not, ◌&&◌, T, List, length, ◌==◌, ◌≢◌, slice_index}
use Rattle.meaning.specs.Count.{Bones, count}
use Rattle.links.specs.Table.{spot, held}
use Rattle.weighing.specs.Lists.{listed, Once, marked}
use Rattle.weighing.specs.declared.list.Blocks.{Blocks}

-- R without a
abbrev pub but_for : Bones → ℕ → Bones
but_for R a c = R c && not (c == a)

-- the tallies of a with the bones of R are added to, by what `f` makes of those of b, the carry of 32 bits thrown away; Fits says which of the two fit in 32
-- bits; every other place of the table is as it was
pub record Row (f : ℕ → ℕ) (Fits : ℕ → ℕ → Type 0) (t t' : List ℕ) (a b : ℕ) (R : Bones) : Type 0 where
  pub long : length t ≡ 16384
  pub long' : length t' ≡ 16384
  pub fits : (c : ℕ) → c < 128 → T (R c) → Fits (held t a c) (held t b c)
  pub hit : (c : ℕ) → c < 128 → T (R c) → held t' a c ≡ (held t a c + f (held t b c)) % 2 ^ 32
  pub miss : (y : ℕ) → ((c : ℕ) → c < 128 → T (R c) → y ≢ spot a c) → slice_index t' y ≡ slice_index t y

-- the tallies of b go to those of a, and are taken out of them again
abbrev pub RowAdded : List ℕ → List ℕ → ℕ → ℕ → Bones → Type 0
RowAdded = Row (λ y. y) (λ x y. x < 2 ^ 32)

abbrev pub RowTaken : List ℕ → List ℕ → ℕ → ℕ → Bones → Type 0
RowTaken = Row (λ y. 2 ^ 32 - y) (λ x y. y < 2 ^ 32)

-- the bones in the places from hi − 1 down to lo were merged in this order, each into its head: t was the table before, and the last one is it now.
-- Where a bone was merged, start says before which place the bones stand that are of other blocks.
pub data Merges (list into start : List ℕ) (hi : ℕ) (t : List ℕ) : ℕ → List ℕ → Type 0 where
  none : Merges list into start hi t hi t
  more : {lo : ℕ} {t' t'' : List ℕ} → Merges list into start hi t (lo + 1) t'
      → RowAdded t' t'' (slice_index into lo) (slice_index list lo) (but_for (listed list (slice_index start lo)) (slice_index into lo)) → Merges list into start hi t lo t''

-- the bone in place j has the head v, which stands in the first m places; its group starts at s, from lo on, and the bones of it before j have the same head
pub record Fold (list into : List ℕ) (lo m j s v : ℕ) : Type 0 where
  pub from : lo ≤ s
  pub upto : s ≤ j
  pub stands : T (listed list m v)
  pub alike : (x : ℕ) → s ≤ x → x < j → slice_index into x ≡ v

-- each bone in the places from lo to hi − 1 has a head that stands before its group
abbrev pub Folded : List ℕ → List ℕ → List ℕ → ℕ → ℕ → Type 0
Folded list into start lo hi = (j : ℕ) → lo ≤ j → j < hi → Fold list into lo (slice_index start j) j (slice_index start j) (slice_index into j)

-- the same of blocks
abbrev pub MergesIn : Blocks → ℕ → List ℕ → ℕ → List ℕ → Type 0
MergesIn b hi t lo t' = Merges b.list b.into b.start hi t lo t'

abbrev pub FoldedIn : Blocks → ℕ → ℕ → Type 0
FoldedIn b lo hi = Folded b.list b.into b.start lo hi

-- blocks as they stand between two passes: each bone stands once, and each that was merged has a head that stands before its group
pub record Stacked (b : Blocks) : Type 0 where
  pub few : b.count ≤ b.size
  pub once : Once b.list b.size
  pub folded : FoldedIn b b.count b.size

-- what a row wants of the bone in place j and its head
pub record Grouped (b : Blocks) (j : ℕ) : Type 0 where
  pub low : j < 128
  pub head_low : slice_index b.into j < 128
  pub bone_low : slice_index b.list j < 128
  pub apart : slice_index b.into j ≢ slice_index b.list j
  pub group : Once b.list (slice_index b.start j)

-- and what it does
abbrev pub RowAt : (ℕ → ℕ) → (ℕ → ℕ → Type 0) → Blocks → ℕ → List ℕ → List ℕ → Type 0
RowAt f Fits b j t t' = Row f Fits t t' (slice_index b.into j) (slice_index b.list j) (but_for (listed b.list (slice_index b.start j)) (slice_index b.into j))

-- how many of the first m places bear no mark
unfoldable pub unmarked : List Bool → ℕ → ℕ
unmarked joins m = count m (λ i. not (marked joins i))

-- three runs with a place for each of 128 bones
abbrev pub Long : List ℕ → List ℕ → List ℕ → Type 0
Long list into start = (length list ≡ 128) × (length into ≡ 128) × (length start ≡ 128)

-- the bones of a pass laid out: heads first, then the bones tied to them, group by group. What is the same for each two bones tied in the pass is
-- the same for a bone and its head. Places from `count` on are as they were.
pub record Laid (order : List ℕ) (joins : List Bool) (count heads : ℕ) (list₀ into₀ start₀ list into start : List ℕ) : Type 0 where
  pub once : Once list count
  pub same : (b : ℕ) → listed list count b ≡ listed order count b
  pub folded : Folded list into start heads count
  pub joined : (d : Bones) → ((i : ℕ) → i + 1 < count → T (marked joins i) → d (slice_index order (i + 1)) ≡ d (slice_index order i))
      → (j : ℕ) → heads ≤ j → j < count → d (slice_index into j) ≡ d (slice_index list j)
  pub long : Long list into start
  pub rest : (j : ℕ) → count ≤ j → (slice_index list j ≡ slice_index list₀ j) × (slice_index into j ≡ slice_index into₀ j) × (slice_index start j ≡ slice_index start₀ j)

-- the same of blocks, which are as many as before until they are merged
abbrev pub LaidOut : List ℕ → List Bool → ℕ → Blocks → Blocks → Type 0
LaidOut order joins heads b b' = Laid order joins b.count heads b.list b.into b.start b'.list b'.into b'.start × (b'.count ≡ b.count) × (b'.size ≡ b.size)
