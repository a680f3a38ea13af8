-- Laws of keeping the links whose ends carry the same label: what keeping the first i links of a run comes to, and that no more are kept than there are.
-- Assumes nothing.
use Rattle.std.proofs.Common.{◌≡◌, ℕ, ◌+◌, ◌<◌, ◌≤◌, Bool, true, false, cond, List, [], ◌∷◌, ◌++◌, length, get_or, take, sym, ap, ◌∙◌, append-nil, arith}
use Rattle.std.proofs.lemmas.List.Elements.{filter_more}
use Rattle.std.proofs.lemmas.List.Sums.{length-filter, count_by-le-length}
use Rattle.meaning.specs.declared.Link.{Link}
use Rattle.links.specs.Records.{same_label, kept_links}
use Rattle.links.specs.Forms.{no_link}

module _ (labels : List ℕ) (links : List Link) (i : ℕ) (h : i < length links) where
  -- the next link, which is kept or not
  next : (s : Bool) → same_label labels (get_or links i no_link) ≡ s
      → kept_links labels (take (i + 1) links) ≡ kept_links labels (take i links) ++ cond s (get_or links i no_link ∷ []) []
  unfolding kept_links
  next s e = filter_more (same_label labels) links i no_link h ∙ ap (λ (t : Bool). kept_links labels (take i links) ++ cond t (get_or links i no_link ∷ []) []) e

  pub kept_no : same_label labels (get_or links i no_link) ≡ false → kept_links labels (take i links) ≡ kept_links labels (take (i + 1) links)
  kept_no e = sym (next false e ∙ append-nil (kept_links labels (take i links)))

  pub kept_one : same_label labels (get_or links i no_link) ≡ true → kept_links labels (take i links) ++ get_or links i no_link ∷ [] ≡ kept_links labels (take (i + 1) links)
  kept_one e = sym (next true e)

pub kept_few : (labels : List ℕ) (links : List Link) → length (kept_links labels links) ≤ length links
unfolding kept_links
kept_few labels links = omega (arith, length-filter (same_label labels) links, count_by-le-length (same_label labels) links)
