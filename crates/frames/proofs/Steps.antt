-- Laws of the step behind a frame: what it leaves, from where it stands and what its kind is.
-- Assumes nothing.
use Rattle.std.proofs.Common.{◌≡◌, ℕ, ◌+◌, ◌%◌, ◌^◌, ◌<◌, cond, eqb, arith, eq-eqb, ne_eqb}

-- what the count is, where it does not wrap
pub one_more : (kind k x r : ℕ) → kind ≡ k → x + 1 < 2 ^ 32 → r ≡ cond (eqb kind k) ((x + 1) % 2 ^ 32) x → r ≡ x + 1
one_more kind k x r e h q = omega (arith, rw (eq-eqb kind k e) at q)

pub as_many : (kind k x r : ℕ) → (kind ≡ k → ⊥) → r ≡ cond (eqb kind k) ((x + 1) % 2 ^ 32) x → r ≡ x
as_many kind k x r f q = rw (ne_eqb kind k f) at q
