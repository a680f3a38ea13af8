-- Two answers of a call from C that both keep its promise are one, and leave lent room the same; of grouping but for which cuts it adds.
-- Assumes nothing.
use Rattle.std.proofs.Common.{ℕ, ◌*◌, ◌-◌, ◌≡◌, sym, ◌∙◌, ap, Bool, List, length}
use Rattle.meaning.specs.declared.Link.{Link}
use Rattle.meaning.specs.Judge.{Judged, first}
use Rattle.meaning.specs.Tally.{Tally, pair_tally}
use Rattle.meaning.specs.Firm.{groups}
use Rattle.cutting.specs.Record.{entry_size}
use Rattle.cutting.specs.Rows.{grouping_rows}
use Rattle.cutting.specs.Calls.{Checking, Grouping, Thins}
use Rattle.cutting.proofs.Unique.{SameSpace, checking_unique, grouping_unique, thinning_unique}
use Rattle.texts.specs.Reader.{Reads}
use Rattle.texts.specs.Writing.{Writes}
use Rattle.texts.proofs.Texts.{one_reading, one_writing}
use Rattle.calls.specs.declared.told.Told.{Told}
use Rattle.calls.specs.declared.told.ToldCount.{ToldCount}
use Rattle.calls.specs.declared.told.Input.{Input}
use Rattle.calls.specs.Told.{told, told_count, told_reading, Telling}

-- one answer is told in one way
telling_same : {A B : Type 0} {tells : A → B} {P Q : A → Type 0} (r s : B) (x : Telling tells P r) (y : Telling tells Q s) → x.answer ≡ y.answer → r ≡ s
telling_same {tells = tells} r s x y e = x.told_as ∙ ap tells e ∙ sym y.told_as

module _ (n k : ℕ) (good : Bool) (links : List Link) (bytes labels : List ℕ) where
  pub told_checking_unique : (a b : List ℕ) (r s : Told) → Telling told (Checking n k good links bytes labels a) r → Telling told (Checking n k good links bytes labels b) s → (r ≡ s) × (a ≡ b)
  told_checking_unique a b r s x y =
      let one = checking_unique n k good links bytes labels a b x.answer y.answer x.kept_by y.kept_by in
      (telling_same r s x y one.0, one.1)

  pub told_grouping_unique : (space a b c d : List ℕ) (r s : Told) → Telling told (Grouping n k good links bytes labels a space c) r → Telling told (Grouping n k good links bytes labels b space d) s
      → (r ≡ s) × (a ≡ b) × SameSpace (first (grouping_rows n k good links bytes (length labels) (length space))) (entry_size * (groups n (pair_tally links) k - 1)) bytes c d
  told_grouping_unique space a b c d r s x y =
      let one = grouping_unique n k good links bytes labels space a b c d x.answer y.answer x.kept_by y.kept_by in
      (telling_same r s x y one.0, one.1, one.2)

-- thinning, of bytes and of records: in whatever form the links are lent
pub told_thinning_unique : {A : Type 0} (form : List Link → List A) (rows : List Judged) (n : ℕ) (w : Tally) (k : ℕ) (links : List Link) (space a b : List A) (r s : ToldCount)
    → Telling told_count (Thins form rows n w k links space a) r → Telling told_count (Thins form rows n w k links space b) s → (r ≡ s) × (a ≡ b)
told_thinning_unique form rows n w k links space a b r s x y =
    let one = thinning_unique form rows n w k links space a b x.answer y.answer x.kept_by y.kept_by in
    (telling_same r s x y one.0, one.1)

pub told_reading_unique : (text : List ℕ) (links a b : List Link) (space c d : List ℕ) (r s : Input) → Telling told_reading (Reads text links a space c) r → Telling told_reading (Reads text links b space d) s
    → (r ≡ s) × (a ≡ b) × (c ≡ d)
told_reading_unique text links a b space c d r s x y =
    let one = one_reading text links a b space c d x.answer y.answer x.kept_by y.kept_by in
    (telling_same r s x y one.0, one.1, one.2)

-- both writers, each at its first refusal and its text
pub told_writing_unique : (j : Judged) (text room a b : List ℕ) (r s : ToldCount) → Telling told_count (Writes j text room a) r → Telling told_count (Writes j text room b) s → (r ≡ s) × (a ≡ b)
told_writing_unique j text room a b r s x y =
    let one = one_writing j text room a b x.answer y.answer x.kept_by y.kept_by in
    (telling_same r s x y one.0, one.1)
