-- The theorems about the program's answer: what of it the promise settles. All but the cuts that grouping adds, which document 01 leaves free.
-- Assumes nothing.
use Rattle.std.proofs.Common.{ℕ, zero, suc, ◌+◌, ◌*◌, ◌-◌, ◌/◌, ◌≤◌, ◌<◌, ◌≡◌, refl, sym, ◌∙◌, ap, ap₂, subst, arith, le_refl, true, List, ◌++◌, length, eqb, ltb, le-ltb, Result, Ok, Err}
use Rattle.meaning.specs.declared.Link.{Link}
use Rattle.meaning.specs.declared.Refusal.{Refusal}
use Rattle.meaning.specs.declared.Row.TheVariants.{TextSpace}
use Rattle.meaning.specs.Judge.{Judged, Accepted, answered, refuse, first, number_of}
use Rattle.meaning.specs.Room.{over, settled}
use Rattle.meaning.specs.Tally.{pair_tally}
use Rattle.meaning.specs.Firm.{label, groups}
use Rattle.meaning.specs.Heap.{Heap, start, left}
use Rattle.meaning.proofs.Sums.{count_most}
use Rattle.meaning.proofs.Theorems.{names_are_labels, cuts_and_groups}
use Rattle.links.specs.Links.{table_rows}
use Rattle.links.proofs.LinksRows.{table_counted, accepted_left, accepted_right}
use Rattle.cutting.specs.Record.{entry_size, cuts_of}
use Rattle.cutting.specs.Rows.{grouping_rows}
use Rattle.cutting.proofs.Cuts.{length_cuts}
use Rattle.cutting.proofs.Same.{same_bytes}
use Rattle.texts.specs.Lines.{lines_of}
use Rattle.texts.specs.Reader.{links_in, entries_in, bones_in, threshold_in, reader_rows}
use Rattle.texts.specs.Kinds.{head_line, cut_lines, label_line, label_lines, close_line, refusal_line}
use Rattle.texts.specs.Writing.{text_row}
use Rattle.texts.specs.Writers.{result_text}
use Rattle.texts.specs.Steps.{result_size}
use Rattle.texts.proofs.Texts.{result_length}
use Rattle.texts.proofs.WritesLines.{length_refusal}
use Rattle.answering.specs.Prints.{grouped_rows, program_rows, Finishes, ResultText, Printed, shown_cuts, Answering}

-- ---- a result text

labels_same : (n : ℕ) (g h : Heap) → ((b : ℕ) → b < n → g b ≡ h b) → label_lines n g ≡ label_lines n h
unfolding label_lines
labels_same zero g h e = refl
labels_same (suc n) g h e =
    ap₂ (λ (x : List ℕ) (l : ℕ). x ++ label_line n l) (labels_same n g h (λ b l. e b (omega arith))) (e n (le_refl (suc n)))

module _ (n k : ℕ) (links : List Link) (given : List ℕ) (some_bones : 0 < n) where
  abbrev many : ℕ
  many = groups n (pair_tally links) k

  -- one cut fewer than groups
  cuts_are : (bytes : List ℕ) → Finishes n k links given bytes → length bytes / entry_size + 1 ≡ many
  unfolding cuts_of
  cuts_are bytes f =
      omega (arith, length_cuts (length bytes / entry_size) bytes, cuts_and_groups n (pair_tally links) k some_bones (cuts_of bytes) f.lawful f.done)

  -- a result text is settled but for its cuts: their number is one less than the groups, and the labels are those of the groups
  pub settled_but_cuts : (text : List ℕ) (r : ResultText n k links given text)
      → text ≡ head_line n k ++ cut_lines (many - 1) r.bytes ++ label_lines n (label n (pair_tally links) k) ++ close_line (many + n)
  unfolding result_text
  settled_but_cuts text r =
      let cuts = cuts_are r.bytes r.finishes in
      let fewer : length r.bytes / entry_size ≡ many - 1 = omega (arith, cuts) in
      let frames : 1 + length r.bytes / entry_size + n ≡ many + n = omega (arith, cuts) in
      let labelled = (names_are_labels n (pair_tally links) k (cuts_of r.bytes) r.finishes.lawful).1 r.finishes.done in
      r.result
      ∙ ap₂ (λ (m : ℕ) (x : List ℕ). head_line n k ++ cut_lines m r.bytes ++ x ++ close_line (1 + length r.bytes / entry_size + n)) fewer
      (labels_same n (left n start (cuts_of r.bytes)) (label n (pair_tally links) k) labelled)
      ∙ ap (λ (m : ℕ). head_line n k ++ cut_lines (many - 1) r.bytes ++ label_lines n (label n (pair_tally links) k) ++ close_line m) frames

  result_size_lem : (text : List ℕ) → ResultText n k links given text → length text ≡ result_size (many - 1) n
  result_size_lem text r = ap length r.result ∙ result_length n k r.bytes ∙ omega (arith, cuts_are r.bytes r.finishes)

-- ---- the answer to an input

pub accepted_counts : (input : List ℕ) → first (program_rows input) ≡ Accepted → (0 < bones_in (lines_of input)) × (bones_in (lines_of input) ≤ 128) × (threshold_in (lines_of input) ≤ 65535)
unfolding program_rows grouped_rows grouping_rows
accepted_counts input e =
    let ls = lines_of input in
    let rows = table_rows (bones_in ls) (threshold_in ls) true (links_in ls) in
    let counted = table_counted (bones_in ls) (threshold_in ls) true (links_in ls) (accepted_left rows _ (accepted_right (reader_rows input 4096 (entry_size * 127)) _ e)) in
    (counted.some_bones, counted.few_bones, counted.low_threshold)

-- two texts that may be printed are of one length, and one text where the input is refused
module _ (n k : ℕ) (links : List Link) (given : List ℕ) where
  one_size : (j : Judged) → (j ≡ Accepted → 0 < n) → (t u : List ℕ) → Printed j n k links given t → Printed j n k links given u → length t ≡ length u
  unfolding Printed
  one_size (Ok done) some t u p q = result_size_lem n k links given (some refl) t p ∙ sym (result_size_lem n k links given (some refl) u q)
  one_size (Err refusal) some t u p q = ap length (p ∙ sym q)

  few_bytes : (j : Judged) → (j ≡ Accepted → (0 < n) × (n ≤ 128)) → (t : List ℕ) → Printed j n k links given t → length t ≤ result_size 127 128
  unfolding Printed groups
  few_bytes (Ok done) fits t p =
      omega (arith, result_size_lem n k links given (fits refl).0 t p, count_most n (λ b. eqb (label n (pair_tally links) k b) b), (fits refl).1)
  few_bytes (Err refusal) fits t p = omega (arith, ap length p, length_refusal (number_of refusal.row) refusal.place)

  -- and one text, but for which cuts are shown
  one_shown : (j : Judged) (t u : List ℕ) (p : Printed j n k links given t) (q : Printed j n k links given u) → shown_cuts j n k links given t p ≡ shown_cuts j n k links given u q → t ≡ u
  unfolding Printed shown_cuts
  one_shown (Ok done) t u p q e =
      p.result
      ∙ ap (result_text n k) (same_bytes p.bytes q.bytes p.finishes.whole q.finishes.whole (λ i. omega (arith, p.finishes.are_bytes i)) (λ i. omega (arith, q.finishes.are_bytes i)) e)
      ∙ sym q.result
  one_shown (Err refusal) t u p q e = p ∙ sym q

  one_refusal : (j : Judged) (refusal : Refusal) → j ≡ Err refusal → (t : List ℕ) → Printed j n k links given t → t ≡ refusal_line (number_of refusal.row) refusal.place
  unfolding Printed
  one_refusal j refusal e t p = subst (λ (i : Judged). Printed i n k links given t) e p

module _ (input out out₁ out₂ : List ℕ) (r s : Result ℕ Refusal) (a : Answering input out out₁ r) (b : Answering input out out₂ s) where
  abbrev n : ℕ
  n = bones_in (lines_of input)

  abbrev k : ℕ
  k = threshold_in (lines_of input)

  abbrev links : List Link
  links = links_in (lines_of input)

  abbrev given : List ℕ
  given = entries_in (lines_of input)

  -- one answer
  pub one_answer : r ≡ s
  one_answer =
      let same = one_size n k links given (first (program_rows input)) (λ e. (accepted_counts input e).0) a.text b.text a.printed b.printed in
      a.writes.answer ∙ ap (λ (m : ℕ). answered (refuse (ltb (length out) m) TextSpace 0) m) same ∙ sym b.writes.answer

  same_text : a.text ≡ b.text → out₁ ≡ out₂
  same_text e =
      a.writes.text_left ∙ ap (λ (t : List ℕ). settled (text_row t (length out)) out (over out 0 t)) e ∙ sym b.writes.text_left

  -- and one text, but for which cuts are shown
  pub one_text : shown_cuts (first (program_rows input)) n k links given a.text a.printed ≡ shown_cuts (first (program_rows input)) n k links given b.text b.printed → out₁ ≡ out₂
  one_text e = same_text (one_shown n k links given (first (program_rows input)) a.text b.text a.printed b.printed e)

  -- so one, where the input is refused
  pub one_refused : (refusal : Refusal) → first (program_rows input) ≡ Err refusal → out₁ ≡ out₂
  one_refused refusal e =
      let line = one_refusal n k links given (first (program_rows input)) refusal e in
      same_text (line a.text a.printed ∙ sym (line b.text b.printed))

-- a head, 127 cuts, 128 labels and a close are the longest answer: with room for them, every one is printed
module _ (input out out' : List ℕ) (r : Result ℕ Refusal) (a : Answering input out out' r) (wide : result_size 127 128 ≤ length out) where
  text_fits : length a.text ≤ length out
  text_fits =
      omega (arith, few_bytes (bones_in (lines_of input)) (threshold_in (lines_of input)) (links_in (lines_of input)) (entries_in (lines_of input)) (first (program_rows input)) (λ e. let c = accepted_counts input e in (c.0, c.1)) a.text a.printed)

  pub room_enough : r ≡ Ok (length a.text)
  unfolding refuse answered
  room_enough = a.writes.answer ∙ rw (le-ltb (length out) (length a.text) text_fits) refl

  pub text_left : out' ≡ over out 0 a.text
  unfolding refuse settled
  text_left = a.writes.text_left ∙ rw (le-ltb (length out) (length a.text) text_fits) refl

  -- so many bytes of the space are to be printed
  pub count_fits : (count : ℕ) → r ≡ Ok count → count ≤ length out
  count_fits count e =
      let both : Ok (length a.text) ≡ Ok count = sym room_enough ∙ e in
      let same : length a.text ≡ count = cc in
      omega (arith, text_fits)
