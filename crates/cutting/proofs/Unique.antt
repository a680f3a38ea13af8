-- Two answers that both keep a call's promise are one answer, and leave lent room the same; of grouping but for which cuts it adds.
--     SameSpace            what is settled of grouping's record space
--     checking-unique, grouping-unique, thinning-unique      the theorems
-- Assumes nothing.
use Prim.Native.Nat.{ℕ, ◌*◌, ◌-◌}
use mathlib.Core.Path.{◌≡◌, refl, sym, ◌∙◌, ap₂}
use mathlib.Core.Bool.{Bool}
use mathlib.Core.List.{List, ◌++◌}
use lib.ListN.{length, take, drop, take-append-drop}
use Rattle.meaning.specs.declared.Link.{Link}
use Rattle.meaning.specs.declared.Refusal.{Refusal}
use Rattle.std.proofs.Common.{Result, Ok, Err}
use Rattle.meaning.specs.Bytes.{Bytes}
use Rattle.meaning.specs.Judge.{Judged, Accepted, first}
use Rattle.meaning.specs.Tally.{Tally, pair_tally}
use Rattle.meaning.specs.Firm.{groups}
use Rattle.meaning.proofs.Bytes.{bytes_take}
use Rattle.links.specs.Links.{table_rows}
use Rattle.links.proofs.LinksRows.{accepted_left}
use Rattle.cutting.specs.Record.{entry_size, cuts_of}
use Rattle.cutting.proofs.Same.{same_bytes}
use Rattle.cutting.specs.declared.Answer.{Answer}
use Rattle.cutting.specs.Rows.{grouping_rows}
use Rattle.cutting.specs.Runs.{Recorded, Checked}
use Rattle.cutting.specs.Calls.{Checking, Grouping, Thins}
use Rattle.cutting.proofs.Demands.{own, own_sound}

-- checking, of any rows and any tally, and so of any links
pub checked_unique : (rows : List Judged) (n : ℕ) (w : Tally) (k : ℕ) (bytes labels a b : List ℕ) (r s : Result Answer Refusal)
    → Checked rows n w k bytes labels a r → Checked rows n w k bytes labels b s → (r ≡ s) × (a ≡ b)
checked_unique rows n w k bytes labels a b r s g h = (g.answer ∙ sym h.answer, g.names_after ∙ sym h.names_after)

pub checking_unique : (n k : ℕ) (good : Bool) (links : List Link) (bytes labels a b : List ℕ) (r s : Result Answer Refusal)
    → Checking n k good links bytes labels a r → Checking n k good links bytes labels b s → (r ≡ s) × (a ≡ b)
checking_unique n k good links bytes labels = checked_unique _ n (pair_tally links) k bytes labels

-- thinning, in whatever form the links are lent
pub thinning_unique : {A : Type 0} (form : List Link → List A) (rows : List Judged) (n : ℕ) (w : Tally) (k : ℕ) (links : List Link) (space a b : List A) (r s : Result ℕ Refusal)
    → Thins form rows n w k links space a r → Thins form rows n w k links space b s → (r ≡ s) × (a ≡ b)
thinning_unique form rows n w k links space a b r s g h = (g.answer ∙ sym h.answer, g.links_after ∙ sym h.links_after)

-- grouping's record space: as it was where a row refuses; else the given entries and what stands past the last one are settled, and where the cuts are
-- the same so is the whole
unfoldable pub SameSpace : Judged → ℕ → List ℕ → List ℕ → List ℕ → Type 0
SameSpace (Ok done) size bytes c d =
    (take (length bytes) c ≡ take (length bytes) d) × (drop size c ≡ drop size d) × (Bytes c → Bytes d → cuts_of (take size c) ≡ cuts_of (take size d) → c ≡ d)
SameSpace (Err refusal) size bytes c d = c ≡ d

module _ (n k : ℕ) (good : Bool) (links : List Link) (bytes labels space : List ℕ) where
  abbrev rows : List Judged
  rows = grouping_rows n k good links bytes (length labels) (length space)

  -- the bytes of one cut fewer than groups
  abbrev size : ℕ
  size = entry_size * (groups n (pair_tally links) k - 1)

  space_same : (j : Judged) → first rows ≡ j → (c d : List ℕ) → Recorded j n (pair_tally links) k bytes space c → Recorded j n (pair_tally links) k bytes space d → SameSpace j size bytes c d
  unfolding SameSpace Recorded grouping_rows own
  space_same (Ok done) e c d x y = (x.given ∙ sym y.given, past, whole)
    where
      past : drop size c ≡ drop size d
      past = x.rest ∙ sym y.rest

      judged : first (table_rows n k good links) ≡ Accepted
      judged = accepted_left (table_rows n k good links) _ e

      whole : Bytes c → Bytes d → cuts_of (take size c) ≡ cuts_of (take size d) → c ≡ d
      whole are are' q =
          sym (take-append-drop size c)
          ∙ ap₂ ◌++◌
          (same_bytes (take size c) (take size d) (own_sound n k good links judged bytes space c x).whole (own_sound n k good links judged bytes space d y).whole (bytes_take size c are) (bytes_take size d are') q)
          past
          ∙ take-append-drop size d
  space_same (Err refusal) e c d x y = x ∙ sym y

  pub grouping_unique : (a b c d : List ℕ) (r s : Result Answer Refusal) → Grouping n k good links bytes labels a space c r → Grouping n k good links bytes labels b space d s
      → (r ≡ s) × (a ≡ b) × SameSpace (first rows) size bytes c d
  grouping_unique a b c d r s g h =
      (g.answer ∙ sym h.answer, g.labels_left ∙ sym h.labels_left, space_same (first rows) refl c d g.record_left h.record_left)
