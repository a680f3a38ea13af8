-- What a table holds after a pair's tally was raised or lowered, and when two tables are the same.
-- Assumes nothing.
use Rattle.std.proofs.Common.{◌≡◌, ℕ, ◌+◌, ◌/◌, ◌%◌, ◌^◌, ◌<◌, leb, List, length, get_or, sym, ◌∙◌, subst, ⊎_elim, arith, leb→le, length-set, get_or-set_other, get_or-set_same, ext_get_or}
use lib.Dec.{nleb→lt}
use Rattle.meaning.proofs.Tests.{decide}
use Rattle.links.specs.Table.{spot, held, raised}
use Rattle.links.proofs.TableSpots.{spot_below, one_pair}

module _ (t : List ℕ) (a b x : ℕ) where
  pub length-raised : length (raised t a b x) ≡ length t
  unfolding raised
  length-raised = simp length-set

  -- at the pair
  pub held-raised : length t ≡ 16384 → a < 128 → b < 128 → held (raised t a b x) a b ≡ (held t a b + x) % 2 ^ 32
  unfolding held raised
  held-raised long ha hb = get_or-set_same t (spot a b) _ 0 (omega (arith, spot_below a b ha hb))

  -- at any other place
  pub raised_elsewhere : (y : ℕ) → (y ≡ spot a b → ⊥) → get_or (raised t a b x) y 0 ≡ get_or t y 0
  unfolding raised
  raised_elsewhere y n = get_or-set_other t (spot a b) y _ 0 n

  -- so every other pair's tally is as it was
  module _ {i j : ℕ} (ha : a < 128) (hb : b < 128) (hi : i < 128) (hj : j < 128) (straight : (i ≡ a) × (j ≡ b) → ⊥) (turned : (i ≡ b) × (j ≡ a) → ⊥) where
    apart : spot i j ≡ spot a b → ⊥
    apart e = ⊎_elim straight turned (one_pair i j a b hi hj ha hb e)

    pub held-raised_apart : held (raised t a b x) i j ≡ held t i j
    unfolding held
    held-raised_apart = raised_elsewhere (spot i j) apart

-- two tables that hold the same, and have the same where no pair's tally stands, are one
pub same_table : (t t' : List ℕ) → length t ≡ 16384 → length t' ≡ 16384 → ((i j : ℕ) → i < 128 → j < 128 → held t i j ≡ held t' i j) → ((y : ℕ) → ((i j : ℕ) → i < 128 → j < 128 → spot i j ≡ y → ⊥) → get_or t y 0 ≡ get_or t' y 0) → t ≡ t'
unfolding held spot
same_table t t' long long' alike rest =
    ext_get_or 0 t t' (long ∙ sym long') (λ y h.
    ⊎_elim
    (λ l. let le = leb→le (y % 128) (y / 128) l in
    let here : spot (y / 128) (y % 128) ≡ y = omega arith in
    subst (λ (z : ℕ). get_or t z 0 ≡ get_or t' z 0) here (alike (y / 128) (y % 128) (omega arith) (omega arith)))
    (λ g. let gt = nleb→lt (y % 128) (y / 128) g in
    rest y (λ i j hi hj e. omega arith))
    (decide (leb (y % 128) (y / 128))))
