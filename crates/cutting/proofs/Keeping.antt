-- Laws of thinning: the links that labels keep, and the promise, whatever the form of the links.
-- Assumes nothing.
use Rattle.std.proofs.Common.{◌≡◌, ℕ, ◌<◌, ◌≤◌, Bool, true, ◌&&◌, cond, eqb, ltb, List, [], ◌∷◌, Result, Ok, Err, length, get_or, take_all, sym, refl, ◌∙◌, ap, ap₂, append-nil, arith, lt-ltb, le-ltb}
use Rattle.meaning.specs.declared.Link.{Link}
use Rattle.meaning.specs.declared.Row.TheVariants.{LinkSpace}
use Rattle.meaning.specs.declared.Refusal.{Refusal}
use Rattle.meaning.specs.Judge.{Judged, Accepted, Refused, answered, refuse, first}
use Rattle.meaning.specs.Room.{over, settled}
use Rattle.meaning.proofs.Room.{settled_new, settled_was}
use Rattle.meaning.specs.Tally.{Tally, pair_tally}
use Rattle.meaning.specs.Firm.{label}
use Rattle.meaning.specs.Heap.{Heap}
use Rattle.weighing.specs.Side.{heap_of}
use Rattle.links.specs.Links.{links_of, link_bytes, whole, table_rows}
use Rattle.links.specs.Records.{same_label, kept_links}
use Rattle.links.specs.Forms.{front, KeepsLinks}
use Rattle.links.proofs.LinksBytes.{length-links_of}
use Rattle.links.proofs.LinksRows.{Propers, first_accepted, first-refused, table_counted, table_proper}
use Rattle.links.proofs.RecordsKept.{kept_few}
use Rattle.cutting.specs.Rows.{link_row, thinning_rows}
use Rattle.cutting.specs.Names.{names}
use Rattle.cutting.proofs.Names.{names_at}
use Rattle.cutting.specs.Above.{LabelsOf}
use Rattle.cutting.specs.Calls.{kept, Thins, ThinningIn, ThinningBytes, ThinningRecords}
use Rattle.cutting.proofs.Alike.{label_alike, Alike}
use Rattle.cutting.proofs.Judged.{Filled}

-- ---- the links kept

-- labels that agree on the links' ends keep the same links
same_kept : (n : ℕ) (xs ys : List ℕ) (ls : List Link) → ((b : ℕ) → b < n → get_or xs b 0 ≡ get_or ys b 0) → Propers n ls → kept_links xs ls ≡ kept_links ys ls
unfolding kept_links same_label Propers
same_kept n xs ys [] e p = refl
same_kept n xs ys (l ∷ ls) e p =
    ap₂ (λ (t : Bool) (ks : List Link). cond t (l ∷ ks) ks)
    (ap₂ (λ (x y : ℕ). (ltb l.a 128 && ltb l.b 128) && eqb x y) (e l.a p.0.first_end) (e l.b p.0.second_end))
    (same_kept n xs ys ls e p.1)

-- names that are the labels of the bones below n keep what thinning keeps
pub kept_same : (n : ℕ) (w : Tally) (k : ℕ) (xs : List ℕ) (ls : List Link) → n ≤ 128 → ((b : ℕ) → b < n → heap_of xs b ≡ label n w k b) → Propers n ls → kept_links xs ls ≡ kept n w k ls
unfolding heap_of
kept_same n w k xs ls few e p = same_kept n xs (names 128 (label n w k)) ls (λ b l. e b l ∙ sym (label_at b (omega arith))) p
  where
    label_at : (b : ℕ) → b < 128 → get_or (names 128 (label n w k)) b 0 ≡ label n w k b
    label_at b l = ap (λ (x : List ℕ). get_or x b 0) (sym (append-nil (names 128 (label n w k)))) ∙ names_at 128 (label n w k) [] b l

-- ---- thinning's promise

module _ (links room : ℕ) where
  pub links_short : room < links → first (link_row links room ∷ []) ≡ Refused LinkSpace 0
  unfolding link_row refuse first
  links_short l = rw (lt-ltb room links l)

  pub links_fit : links ≤ room → first (link_row links room ∷ []) ≡ Accepted
  unfolding link_row refuse first
  links_fit l = rw (le-ltb room links l)

module _ {A : Type 0} (form : List Link → List A) (rows : List Judged) (n : ℕ) (w : Tally) (k : ℕ) (links : List Link) (space : List A) where
  pub thins_refused : {r : Result ℕ Refusal} {refusal : Refusal} → r ≡ Err refusal → first rows ≡ Err refusal → Thins form rows n w k links space space r
  unfolding answered
  thins_refused q e =
      record {
        answer = q ∙ ap (λ (j : Judged). answered j (length (kept n w k links))) (sym e);
        links_after = sym (settled_was space _ e);
      }

  pub thins_accepted : (labels : List ℕ) (space' : List A) (count : ℕ) → first rows ≡ Accepted → kept_links labels links ≡ kept n w k links → count ≡ length (kept_links labels links) → space' ≡ over space 0 (form (kept_links labels links))
      → Thins form rows n w k links space space' (Ok count)
  unfolding answered
  thins_accepted labels space' count e same q p =
      record {
        answer = ap (λ (m : ℕ). answered Accepted m) (q ∙ ap length same) ∙ ap (λ (j : Judged). answered j (length (kept n w k links))) (sym e);
        links_after = p
            ∙ ap (λ (ls : List Link). over space 0 (form ls)) same
            ∙ sym (settled_new space _ e);
      }

pub thins_alike : {A : Type 0} (form : List Link → List A) (n : ℕ) (v w : Tally) → Alike n v w → (k : ℕ) (rows rows' : List Judged) (links : List Link) (space space' : List A) (r : Result ℕ Refusal)
    → first rows ≡ first rows' → Thins form rows n v k links space space' r → Thins form rows' n w k links space space' r
thins_alike form n v w alike k rows rows' links space space' r e t =
    let same : kept n v k links ≡ kept n w k links = ap (λ (h : Heap). kept_links (names 128 h) links) (label_alike n v w alike k) in
    record {
      answer = t.answer ∙ ap₂ (λ (j : Judged) (ls : List Link). answered j (length ls)) e same;
      links_after = t.links_after ∙ ap₂ (λ (j : Judged) (ls : List Link). settled j space (over space 0 (form ls))) e same;
    }

module _ (n k : ℕ) (good : Bool) (links : List Link) (room : ℕ) where
  pub thinning_core : first (table_rows n k good links) ≡ Accepted → first (link_row (length links) room ∷ []) ≡ first (thinning_rows n k good links room)
  unfolding thinning_rows
  thinning_core accepted = sym (first_accepted (table_rows n k good links) (link_row (length links) room ∷ []) accepted)

  pub thinning_stop : (refusal : Refusal) → first (table_rows n k good links) ≡ Err refusal → first (thinning_rows n k good links room) ≡ Err refusal
  unfolding thinning_rows
  thinning_stop refusal e = first-refused (table_rows n k good links) (link_row (length links) room ∷ []) refusal e

-- ---- the promise in any form

-- links written to the front of room that takes them all
front_all : {A : Type 0} (links_in : List A → List Link) (written : List Link → List A) (room : List A) (ls : List Link) → length ls ≤ length (links_in room)
    → front links_in written room ls ≡ over room 0 (written ls)
front_all links_in written room ls h = ap (λ (ms : List Link). over room 0 (written ms)) (take_all (length (links_in room)) ls h)

-- the table that the links filled gives the labels, and those that the labels keep are written to room that takes all links
pub thinning_filled : {A : Type 0} (links_in : List A → List Link) (are_whole : List A → Bool) (written : List Link → List A) {n k : ℕ} {links space space' : List A} {t : List ℕ} {count : ℕ} (labels : List ℕ)
    → Filled n k (are_whole links) (links_in links) t → LabelsOf n t k labels → length (links_in links) ≤ length (links_in space) → KeepsLinks links_in written labels links space space' count
    → ThinningIn links_in are_whole written n k links space space' (Ok count)
thinning_filled links_in are_whole written {n} {k} {links} {space} labels f are room keeps =
    let ls = links_in links in
    let w = pair_tally ls in
    thins_accepted written _ n w k ls space labels _ _
    (sym (thinning_core n k (are_whole links) ls (length (links_in space)) f.accepted) ∙ links_fit (length ls) (length (links_in space)) room)
    (kept_same n w k labels ls (table_counted n k (are_whole links) ls f.accepted).few_bones (λ b l. are b l ∙ ap (λ (h : Heap). h b) (label_alike n _ w f.alike k)) (table_proper n k (are_whole links) ls f.accepted))
    keeps.0
    (keeps.1 ∙ front_all links_in written space (kept_links labels ls) (omega (arith, kept_few labels ls, room)))

-- what it comes to where links are lent as bytes; of link records it is `ThinningRecords` as it stands
pub thinning_bytes : (n k : ℕ) (links space space' : List ℕ) (r : Result ℕ Refusal) → ThinningIn links_of whole link_bytes n k links space space' r → ThinningBytes n k links space space' r
thinning_bytes n k links space space' r t = rw (← length-links_of space) t

pub thinning_records : (n k : ℕ) (links space space' : List Link) (r : Result ℕ Refusal) → ThinningIn (λ ls. ls) (λ ls. true) (λ ls. ls) n k links space space' r → ThinningRecords n k links space space' r
thinning_records n k links space space' r t = t
