-- Laws of the rows that judge links: which refusal comes first in two lists put together, and how judging goes on from one link to the next.
-- Assumes nothing.
use Rattle.std.proofs.Common.{Ok, Err, ◌≡◌, ℕ, suc, ◌+◌, ◌<◌, ◌≤◌, Bool, true, false, not, ◌||◌, T, eqb, ltb, leb, List, [], ◌∷◌, ◌++◌, length, get_or, drop, sym, refl, ◌∙◌, subst, lt_of_lt_of_le, add-one, arith, drop_of_length-le, drop-cons, ltb-false, ne_eqb, leb-false}
use Rattle.meaning.specs.declared.Link.{Link}
use Rattle.meaning.specs.Judge.{Judged, Accepted, Refused, refuse, first}
use Rattle.meaning.specs.declared.Row.{Row}
use Rattle.meaning.specs.declared.Row.TheVariants.{Bones, Threshold, Links, LinkEnd, EqualEnds, Tally}
use Rattle.meaning.specs.declared.Refusal.{Refusal}
use borrow.Author.Tests.{eqb-false, not-false, lt-leb}
use Rattle.links.specs.Links.{count_rows, link_rows, links_rows, table_rows}

-- no answer accepts and refuses
pub never_both : (r : Judged) (refusal : Refusal) → r ≡ Accepted → r ≡ Err refusal → ⊥
never_both r refusal p q = let z : ◌≡◌ {A = ℕ} 0 1 = cc in omega arith

-- where the first list accepts, the second decides; where it refuses, that is the answer
pub first_accepted : (js ks : List Judged) → first js ≡ Accepted → first (js ++ ks) ≡ first ks
unfolding first
first_accepted [] ks e = refl
first_accepted (Ok done ∷ js) ks e = first_accepted js ks e
first_accepted (Err refusal ∷ js) ks e = absurd (never_both (Err refusal) refusal e refl)

pub first-refused : (js ks : List Judged) (refusal : Refusal) → first js ≡ Err refusal → first (js ++ ks) ≡ Err refusal
unfolding first
first-refused [] ks refusal e = absurd (never_both Accepted refusal refl e)
first-refused (Ok done ∷ js) ks refusal e = first-refused js ks refusal e
first-refused (Err q ∷ js) ks refusal e = e

-- the first part of what accepts accepts, and so does the second
pub accepted_left : (js ks : List Judged) → first (js ++ ks) ≡ Accepted → first js ≡ Accepted
unfolding first
accepted_left [] ks e = refl
accepted_left (Ok done ∷ js) ks e = accepted_left js ks e
accepted_left (Err refusal ∷ js) ks e = e

pub accepted_right : (js ks : List Judged) → first (js ++ ks) ≡ Accepted → first ks ≡ Accepted
unfolding first
accepted_right [] ks e = e
accepted_right (Ok done ∷ js) ks e = accepted_right js ks e
accepted_right (Err refusal ∷ js) ks e = absurd (never_both (Err refusal) refusal e refl)

-- what accepts a row, and the rows behind it
refuse_accepted : (b : Bool) (row : Row) (place : ℕ) (js : List Judged) → first (refuse b row place ∷ js) ≡ Accepted → (b ≡ false) × (first js ≡ Accepted)
unfolding refuse first
refuse_accepted true row place js e = absurd (never_both (Refused row place) (record { row = row; place = place }) e refl)
refuse_accepted false row place js e = (refl, e)

neither : (a b : Bool) → a || b ≡ false → (a ≡ false) × (b ≡ false)
neither true b e = (e, absurd (subst T e tt))
neither false b e = (refl, e)

-- what rows 1, 2 and 3 accept
pub record Counted (n k : ℕ) (good : Bool) (count : ℕ) : Type 0 where
  pub some_bones : 0 < n
  pub few_bones : n ≤ 128
  pub some_threshold : 0 < k
  pub low_threshold : k ≤ 65535
  pub whole : good ≡ true
  pub few_links : count ≤ 4096

pub counts_accepted : (n k : ℕ) (good : Bool) (count : ℕ) → first (count_rows n k good count) ≡ Accepted → Counted n k good count
unfolding count_rows
counts_accepted n k good count e =
    let one = refuse_accepted (eqb n 0 || ltb 128 n) Bones 0 _ e in
    let two = refuse_accepted (eqb k 0 || ltb 65535 k) Threshold 0 _ one.1 in
    let three = refuse_accepted (not good || ltb 4096 count) Links 0 _ two.1 in
    let bones = neither (eqb n 0) (ltb 128 n) one.0 in
    let threshold = neither (eqb k 0) (ltb 65535 k) two.0 in
    let links = neither (not good) (ltb 4096 count) three.0 in
    record {
      some_bones = omega (arith, eqb-false n 0 bones.0);
      few_bones = ltb-false 128 n bones.1;
      some_threshold = omega (arith, eqb-false k 0 threshold.0);
      low_threshold = ltb-false 65535 k threshold.1;
      whole = not-false good links.0;
      few_links = ltb-false 4096 count links.1;
    }

-- what rows 4, 5 and 6 accept, at a link and at each of a list
pub record Proper (n : ℕ) (l : Link) : Type 0 where
  pub first_end : l.a < n
  pub second_end : l.b < n
  pub two_ends : l.a ≡ l.b → ⊥
  pub some_tally : 0 < l.tally

unfoldable pub Propers : ℕ → List Link → Type 0
Propers n [] = Unit {0}
Propers n (l ∷ ls) = Proper n l × Propers n ls

pub link_accepted : (n i : ℕ) (l : Link) → first (link_rows n i l) ≡ Accepted → Proper n l
unfolding link_rows
link_accepted n i l e =
    let four = refuse_accepted (leb n l.a || leb n l.b) LinkEnd i _ e in
    let five = refuse_accepted (eqb l.a l.b) EqualEnds i _ four.1 in
    let six = refuse_accepted (eqb l.tally 0) Tally i _ five.1 in
    let ends = neither (leb n l.a) (leb n l.b) four.0 in
    record {
      first_end = leb-false n l.a ends.0;
      second_end = leb-false n l.b ends.1;
      two_ends = eqb-false l.a l.b five.0;
      some_tally = omega (arith, eqb-false l.tally 0 six.0);
    }

pub links_accepted : (n i : ℕ) (ls : List Link) → first (links_rows n i ls) ≡ Accepted → Propers n ls
unfolding links_rows Propers
links_accepted n i [] e = tt
links_accepted n i (l ∷ ls) e = (
  link_accepted n i l (accepted_left (link_rows n i l) (links_rows n (suc i) ls) e),
  links_accepted n (suc i) ls (accepted_right (link_rows n i l) (links_rows n (suc i) ls) e),
)

-- and what is proper is accepted; among more bones too
link_proper : (n i : ℕ) (l : Link) → Proper n l → first (link_rows n i l) ≡ Accepted
unfolding link_rows refuse first
link_proper n i l p =
    simp
    (lt-leb n l.a p.first_end, lt-leb n l.b p.second_end, ne_eqb l.a l.b p.two_ends, ne_eqb l.tally 0 (omega arith))

pub links_proper : (n i : ℕ) (ls : List Link) → Propers n ls → first (links_rows n i ls) ≡ Accepted
unfolding links_rows Propers first
links_proper n i [] p = refl
links_proper n i (l ∷ ls) p =
    first_accepted (link_rows n i l) (links_rows n (suc i) ls) (link_proper n i l p.0) ∙ links_proper n (suc i) ls p.1

pub propers_more : (n m : ℕ) (links : List Link) → n ≤ m → Propers n links → Propers m links
unfolding Propers
propers_more n m [] h p = tt
propers_more n m (l ∷ ls) h p = (
  record {
    first_end = lt_of_lt_of_le p.0.first_end h;
    second_end = lt_of_lt_of_le p.0.second_end h;
    two_ends = p.0.two_ends;
    some_tally = p.0.some_tally;
  },
  propers_more n m ls h p.1,
)

-- judging links in turn, from the one in place i on: past one that is accepted, at one that is refused, and behind the last
module _ (n : ℕ) (links : List Link) (i : ℕ) (d : Link) (h : i < length links) where
  pub links_next : first (link_rows n i (get_or links i d)) ≡ Accepted → first (links_rows n i (drop i links)) ≡ first (links_rows n (i + 1) (drop (i + 1) links))
  unfolding links_rows
  links_next e = rw (drop-cons links i d h, add-one i) (first_accepted (link_rows n i (get_or links i d)) (links_rows n (suc i) (drop (suc i) links)) e)

  pub links_stop : (refusal : Refusal) → first (link_rows n i (get_or links i d)) ≡ Err refusal → first (links_rows n i (drop i links)) ≡ Err refusal
  unfolding links_rows
  links_stop refusal e =
      rw (drop-cons links i d h) (first-refused (link_rows n i (get_or links i d)) (links_rows n (suc i) (drop (suc i) links)) refusal e)

pub links_none : (n i : ℕ) (links : List Link) → length links ≤ i → first (links_rows n i (drop i links)) ≡ Accepted
unfolding links_rows first
links_none n i links h = rw (drop_of_length-le links {i = i} h) refl

-- the places of refusals: the link's own, and nought for rows 1, 2 and 3
three_places : (a b c : Bool) (r s t : Row) (i : ℕ) (refusal : Refusal) → first (refuse a r i ∷ refuse b s i ∷ refuse c t i ∷ []) ≡ Err refusal → refusal.place ≡ i
unfolding refuse first
three_places true b c r s t i refusal e = cc
three_places false true c r s t i refusal e = cc
three_places false false true r s t i refusal e = cc
three_places false false false r s t i refusal e = absurd (never_both Accepted refusal refl e)

pub link-place : (n i : ℕ) (l : Link) (refusal : Refusal) → first (link_rows n i l) ≡ Err refusal → refusal.place ≡ i
unfolding link_rows
link-place n i l refusal e = three_places (leb n l.a || leb n l.b) (eqb l.a l.b) (eqb l.tally 0) LinkEnd EqualEnds Tally i refusal e

pub counts_place : (n k : ℕ) (good : Bool) (count : ℕ) (refusal : Refusal) → first (count_rows n k good count) ≡ Err refusal → refusal.place ≡ 0
unfolding count_rows
counts_place n k good count refusal e =
    three_places (eqb n 0 || ltb 128 n) (eqb k 0 || ltb 65535 k) (not good || ltb 4096 count) Bones Threshold Links 0 refusal e

-- rows 1 to 6, once rows 1, 2 and 3 were judged: at one of them, and past them
module _ (n k : ℕ) (good : Bool) (links : List Link) {whole : Bool} {count : ℕ} {r : Judged} (judged : r ≡ first (count_rows n k whole count)) (w : whole ≡ good) (m : count ≡ length links) where
  counts : r ≡ first (count_rows n k good (length links))
  counts = rw (← w, ← m) judged

  pub counts_stop : (refusal : Refusal) → r ≡ Err refusal → Err refusal ≡ first (table_rows n k good links)
  unfolding table_rows
  counts_stop refusal e =
      sym (first-refused (count_rows n k good (length links)) (links_rows n 0 links) refusal (sym counts ∙ e))

  pub counts_next : r ≡ Accepted → first (table_rows n k good links) ≡ first (links_rows n 0 links)
  unfolding table_rows
  counts_next e = first_accepted (count_rows n k good (length links)) (links_rows n 0 links) (sym counts ∙ e)

  pub counts_few : r ≡ Accepted → Counted n k good (length links)
  counts_few e = counts_accepted n k good (length links) (sym counts ∙ e)

-- what rows 1 to 6 accept
pub table_counted : (n k : ℕ) (good : Bool) (links : List Link) → first (table_rows n k good links) ≡ Accepted → Counted n k good (length links)
unfolding table_rows
table_counted n k good links e =
    counts_accepted n k good (length links) (accepted_left (count_rows n k good (length links)) (links_rows n 0 links) e)

pub table_proper : (n k : ℕ) (good : Bool) (links : List Link) → first (table_rows n k good links) ≡ Accepted → Propers n links
unfolding table_rows
table_proper n k good links e =
    links_accepted n 0 links (accepted_right (count_rows n k good (length links)) (links_rows n 0 links) e)
