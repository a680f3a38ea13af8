-- Laws of taking links in, one after the other: the first i of them were accepted and are added, and the next is judged.
-- Assumes nothing.
use Rattle.std.proofs.Common.{Err, ◌≡◌, ℕ, ◌+◌, ◌%◌, ◌<◌, ◌≤◌, Bool, List, [], ◌∷◌, ◌++◌, length, get_or, take, drop, sym, refl, ap, ◌∙◌, ap₂, arith, add-one, mod-eq_of_lt, take_all, take-suc}
use Rattle.meaning.specs.declared.Link.{Link}
use Rattle.meaning.specs.declared.Refusal.{Refusal}
use Rattle.meaning.specs.Judge.{Judged, Accepted, first}
use Rattle.links.specs.Links.{count_rows, link_rows, links_rows, table_rows}
use Rattle.links.proofs.LinksRows.{links_next, links_stop, links_none, link-place, link_accepted, counts_place, counts_stop, counts_next, counts_few}
use Rattle.links.specs.Table.{added, tallied, filled}

-- links added in two parts
tallied_append : (t : List ℕ) (xs ys : List Link) → tallied t (xs ++ ys) ≡ tallied (tallied t xs) ys
unfolding tallied
tallied_append t [] ys = refl
tallied_append t (l ∷ ls) ys = tallied_append (added t l) ls ys

-- a refusal of rows 1, 2 or 3 stands before all links
pub filled_none : (refusal : Refusal) (t : List ℕ) (links : List Link) → refusal.place ≡ 0 → t ≡ filled (Err refusal) t links
unfolding filled tallied
filled_none refusal t links e = rw e

-- a link whose ends are below 128 is added as it is
pub added_within : (t : List ℕ) (l : Link) → l.a < 128 → l.b < 128 → added t (record { a = l.a % 128; b = l.b % 128; tally = l.tally }) ≡ added t l
added_within t l ha hb = rw (mod-eq_of_lt ha, mod-eq_of_lt hb) refl

module _ (n : ℕ) (links : List Link) (t : List ℕ) where
  -- of the links, i are in the table u, which was t; the first refusal of all is the first of those that are left
  pub record Taken (i : ℕ) (u : List ℕ) : Type 0 where
    pub left : first (links_rows n 0 links) ≡ first (links_rows n i (drop i links))
    pub table : u ≡ tallied t (take i links)

  pub taken_none : Taken 0 t
  unfolding tallied
  taken_none = record { left = refl; table = refl }

  -- the link in place i is read and judged
  module _ (i : ℕ) {u : List ℕ} {l : Link} (d : Link) (h : i < length links) (s : Taken i u) (e : l ≡ get_or links i d) where
    pub taken_next : first (link_rows n i l) ≡ Accepted → Taken (i + 1) (added u l)
    unfolding tallied
    taken_next a =
        record {
          left = s.left ∙ links_next n links i d h (ap (λ (m : Link). first (link_rows n i m)) (sym e) ∙ a);
          table =
              ap₂ added s.table e
              ∙ sym (tallied_append t (take i links) (get_or links i d ∷ []))
              ∙ ap (tallied t) (sym (take-suc links i d h) ∙ ap (λ (j : ℕ). take j links) (sym (add-one i)));
        }

    pub taken-stop : (refusal : Refusal) → first (link_rows n i l) ≡ Err refusal → (first (links_rows n 0 links) ≡ Err refusal) × (u ≡ filled (Err refusal) t links)
    unfolding filled
    taken-stop refusal r = (
      s.left ∙ links_stop n links i d h refusal (ap (λ (m : Link). first (link_rows n i m)) (sym e) ∙ r),
      s.table ∙ ap (λ (j : ℕ). tallied t (take j links)) (sym (link-place n i l refusal r)),
    )

  pub taken_all : (i : ℕ) {u : List ℕ} → length links ≤ i → Taken i u → (first (links_rows n 0 links) ≡ Accepted) × (u ≡ filled Accepted t links)
  unfolding filled
  taken_all i h s = (s.left ∙ links_none n i links h, s.table ∙ ap (tallied t) (take_all i links h))

-- a run whose counts were judged, whatever reads its links: what is answered and left where they, or a link, are refused, and past all links
module _ (n k : ℕ) (good : Bool) (links : List Link) (t : List ℕ) {whole : Bool} {count : ℕ} {r : Judged} (judged : r ≡ first (count_rows n k whole count)) (w : whole ≡ good) (m : count ≡ length links) where
  pub refused_counts : (refusal : Refusal) → r ≡ Err refusal → (Err refusal ≡ first (table_rows n k good links)) × (t ≡ filled (Err refusal) t links)
  refused_counts refusal e = (counts_stop n k good links judged w m refusal e, filled_none refusal t links (counts_place n k whole count refusal (sym judged ∙ e)))

  module _ (accepted : r ≡ Accepted) (i : ℕ) {u : List ℕ} (s : Taken n links t i u) where
    -- the link in place i is read and judged
    module _ {l : Link} {q : Judged} (d : Link) (h : i < count) (e : l ≡ get_or links i d) (tried : q ≡ first (link_rows n i l)) where
      pub refused_link : (refusal : Refusal) → q ≡ Err refusal → (Err refusal ≡ first (table_rows n k good links)) × (u ≡ filled (Err refusal) t links)
      refused_link refusal x =
          let stop = taken-stop n links t i d (omega (arith, m, h)) s e refusal (sym tried ∙ x) in
          (sym (counts_next n k good links judged w m accepted ∙ stop.0), stop.1)

      pub accepted_link : q ≡ Accepted → Taken n links t (i + 1) (added u (record { a = l.a % 128; b = l.b % 128; tally = l.tally }))
      accepted_link x =
          let few = counts_few n k good links judged w m accepted in
          let proper = link_accepted n i l (sym tried ∙ x) in
          rw
          (added_within u l (omega (arith, few.few_bones, proper.first_end)) (omega (arith, few.few_bones, proper.second_end)))
          (taken_next n links t i d (omega (arith, m, h)) s e (sym tried ∙ x))

    pub accepted_all : count ≤ i → (Accepted ≡ first (table_rows n k good links)) × (u ≡ filled Accepted t links)
    accepted_all h =
        let all = taken_all n links t i (omega (arith, m, h)) s in
        (sym (counts_next n k good links judged w m accepted ∙ all.0), all.1)
