-- What a table holds: a symmetric tally; and after accepted links were added to a table of noughts, their pair tally.
-- Assumes nothing.
use Rattle.std.proofs.Common.{◌≡◌, ℕ, suc, ◌+◌, ◌*◌, ◌^◌, ◌<◌, ◌≤◌, Bool, true, false, cond, eqb, List, [], ◌∷◌, length, get_or, replicate, sym, refl, ap, ◌∙◌, ap₂, zero-le, lt_of_lt_of_le, add-zero, mod-eq_of_lt, arith, length-set, get_or-set_other, get_or-set_same, eqb-true}
use lib.ListN.{length-replicate, get_or-replicate}
use borrow.Author.Tests.{eqb-false}
use Rattle.meaning.specs.declared.Link.{Link}
use Rattle.meaning.specs.Judge.{Accepted, first}
use Rattle.meaning.specs.Tally.{joins, pair_tally}
use Rattle.meaning.proofs.Totals.{Symmetric}
use Rattle.links.specs.Links.{table_rows}
use Rattle.links.specs.Table.{spot, held, raised, added, tallied}
use Rattle.links.proofs.LinksRows.{Propers, propers_more, table_counted, table_proper}
use Rattle.links.proofs.LinksBytes.{Short}
use Rattle.links.proofs.TableSpots.{spot_symmetric, spot_below, joins_symmetric, joins-spot}

-- every table holds a symmetric tally, and links make one
pub held_symmetric : (t : List ℕ) → Symmetric (held t)
unfolding held
held_symmetric t i j = ap (λ (s : ℕ). get_or t s 0) (spot_symmetric i j)

pub pair_tally_symmetric : (links : List Link) → Symmetric (pair_tally links)
unfolding pair_tally
pair_tally_symmetric [] i j = refl
pair_tally_symmetric (l ∷ ls) i j =
    ap₂ ◌+◌ (ap (λ (b : Bool). cond b l.tally 0) (joins_symmetric l i j)) (pair_tally_symmetric ls i j)

-- what a table of 16,384 tallies holds after one link: more by its tally where the link joins, if that does not wrap
module _ (t : List ℕ) (l : Link) (i j : ℕ) (long : length t ≡ 16384) (ha : l.a < 128) (hb : l.b < 128) (hi : i < 128) (hj : j < 128) where
  put : (b : Bool) → eqb (spot i j) (spot l.a l.b) ≡ b → held t i j + cond b l.tally 0 < 2 ^ 32 → held (added t l) i j ≡ held t i j + cond b l.tally 0
  unfolding held added raised
  put true e h =
      let here : spot i j ≡ spot l.a l.b = eqb-true (spot i j) (spot l.a l.b) e in
      let room : spot l.a l.b < length t = omega (arith, spot_below l.a l.b ha hb) in
      rw here
      (get_or-set_same t (spot l.a l.b) _ 0 room
      ∙ mod-eq_of_lt (rw here at h))
  put false e h =
      get_or-set_other t (spot l.a l.b) (spot i j) _ 0 (eqb-false (spot i j) (spot l.a l.b) e) ∙ sym (add-zero _)

  pub held-added : held t i j + cond (joins l i j) l.tally 0 < 2 ^ 32 → held (added t l) i j ≡ held t i j + cond (joins l i j) l.tally 0
  held-added h = put (joins l i j) (sym (joins-spot l i j ha hb hi hj)) h

pub length-added : (t : List ℕ) (l : Link) → length (added t l) ≡ length t
unfolding added raised
length-added t l = simp length-set

-- and after many
pub held-tallied : (links : List Link) (t : List ℕ) (i j : ℕ) → length t ≡ 16384 → Propers 128 links → i < 128 → j < 128 → held t i j + pair_tally links i j < 2 ^ 32 → held (tallied t links) i j ≡ held t i j + pair_tally links i j
unfolding tallied pair_tally Propers
held-tallied [] t i j long p hi hj h = sym (add-zero _)
held-tallied (l ∷ ls) t i j long p hi hj h =
    let one = held-added t l i j long p.0.first_end p.0.second_end hi hj (omega arith) in
    held-tallied ls (added t l) i j (length-added t l ∙ long) p.1 hi hj (omega (arith, one)) ∙ omega (arith, one)

-- a pair tally is at most 65,535 a link
pair_most : (b : Bool) (x y m : ℕ) → x < 65536 → y ≤ m * 65535 → cond b x 0 + y ≤ suc m * 65535
pair_most true x y m h e = omega arith
pair_most false x y m h e = omega arith

pub pair_tally_most : (links : List Link) (i j : ℕ) → Short links → pair_tally links i j ≤ length links * 65535
unfolding pair_tally Short
pair_tally_most [] i j s = zero-le
pair_tally_most (l ∷ ls) i j s = pair_most (joins l i j) l.tally _ (length ls) s.0 (pair_tally_most ls i j s.1)

-- accepted links added to a table of noughts: it holds their pair tally, and no sum wraps
noughts : (s : ℕ) (i j : ℕ) → s ≡ 16384 → i < 128 → j < 128 → held (replicate s 0) i j ≡ 0
unfolding held
noughts s i j e hi hj = get_or-replicate s (spot i j) 0 0 (omega (arith, spot_below i j hi hj))

holds : (s : ℕ) → s ≡ 16384 → (n k : ℕ) (good : Bool) (links : List Link) → first (table_rows n k good links) ≡ Accepted → Short links → (i j : ℕ) → i < n → j < n → held (tallied (replicate s 0) links) i j ≡ pair_tally links i j
holds s e n k good links accepted short i j hi hj =
    let few = table_counted n k good links accepted in
    let nought = noughts s i j e (lt_of_lt_of_le hi few.few_bones) (lt_of_lt_of_le hj few.few_bones) in
    held-tallied links (replicate s 0) i j (length-replicate s 0 ∙ e)
    (propers_more n 128 links few.few_bones (table_proper n k good links accepted))
    (lt_of_lt_of_le hi few.few_bones)
    (lt_of_lt_of_le hj few.few_bones)
    (omega (arith, nought, pair_tally_most links i j short))
    ∙ omega (arith, nought)

pub table_holds : (n k : ℕ) (good : Bool) (links : List Link) → first (table_rows n k good links) ≡ Accepted → Short links → (i j : ℕ) → i < n → j < n → held (tallied (replicate 16384 0) links) i j ≡ pair_tally links i j
table_holds = holds 16384 refl
