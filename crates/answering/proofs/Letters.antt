-- No text that a program may print has a character other than the digits 0 to 9 and a to f and the line feed: `only_letters` of bones, `thin_letters` of thin.
-- Assumes nothing.
use Rattle.std.proofs.Common.{ℕ, zero, suc, ◌+◌, ◌*◌, ◌-◌, ◌≤◌, ◌<◌, ◌≡◌, refl, sym, subst, arith, le_refl, true, List, [], ◌∷◌, ◌++◌, length, take, drop, T, eqb, Result, Ok, Err}
use Rattle.meaning.specs.declared.Link.{Link}
use Rattle.meaning.specs.declared.Refusal.{Refusal}
use Rattle.meaning.specs.Bytes.{Bytes}
use Rattle.meaning.specs.Judge.{Judged, Accepted, first, number_of}
use Rattle.meaning.specs.Tally.{pair_tally}
use Rattle.meaning.specs.Firm.{label, groups}
use Rattle.meaning.specs.Heap.{Heap}
use Rattle.meaning.proofs.Bytes.{bytes_cons, bytes_take, bytes_drop}
use Rattle.meaning.proofs.Groups.{label_bone}
use Rattle.meaning.proofs.Sums.{count_most}
use Rattle.links.specs.Links.{table_rows}
use Rattle.links.proofs.LinksRows.{accepted_left, table_counted}
use Rattle.cutting.specs.Record.{entry_size}
use Rattle.cutting.specs.Rows.{thinning_rows}
use Rattle.cutting.specs.Calls.{kept}
use Rattle.frames.specs.Frame.{line, lettered}
use Rattle.frames.proofs.Letters.{letters_append, line_letters}
use Rattle.texts.specs.Lines.{lines_of}
use Rattle.texts.specs.Reader.{links_in, entries_in, bones_in, threshold_in, reader_rows}
use Rattle.texts.specs.Kinds.{two, head_line, link_line, link_lines, cut_lines, label_line, label_lines, close_line, refusal_line}
use Rattle.texts.specs.Inputs.{AllInFrames, input_text}
use Rattle.answering.specs.Prints.{grouped_rows, program_rows, ResultText, Printed, Answering}
use Rattle.answering.specs.Steps.{Framed}
use Rattle.answering.specs.ThinPrints.{thinned_rows, thin_rows, thinned_text, thin_printed}
use Rattle.answering.proofs.Fitting.{Fits, both_fit, reader_fits, grouping_fits, thinning_fits}
use Rattle.answering.proofs.Theorems.{settled_but_cuts, accepted_counts}
use Rattle.answering.proofs.AfterThin.{few_kept}
use Rattle.answering.proofs.ThinTheorems.{thinned, small}

two_bytes : (m : ℕ) → m < 65536 → Bytes (two m)
unfolding two
two_bytes m h zero = omega arith
two_bytes m h (suc zero) = omega arith
two_bytes m h (suc (suc i)) = omega arith

cuts_letters : (m : ℕ) (bytes : List ℕ) → Bytes bytes → T (lettered (cut_lines m bytes))
unfolding cut_lines lettered
cuts_letters zero bytes f = tt
cuts_letters (suc m) bytes f =
    letters_append (line 3 (take entry_size bytes)) (cut_lines m (drop entry_size bytes))
    (line_letters 3 (take entry_size bytes) (bytes_cons 3 (take entry_size bytes) (omega arith) (bytes_take entry_size bytes f)))
    (cuts_letters m (drop entry_size bytes) (bytes_drop entry_size bytes f))

labels_letters : (n : ℕ) (h : Heap) → n ≤ 256 → ((b : ℕ) → b < n → h b < 256) → T (lettered (label_lines n h))
unfolding label_lines label_line lettered
labels_letters zero h few low = tt
labels_letters (suc n) h few low =
    letters_append (label_lines n h) (label_line n (h n)) (labels_letters n h (omega arith) (λ b l. low b (omega arith)))
    (line_letters 4 (n ∷ h n ∷ []) (bytes_cons 4 (n ∷ h n ∷ []) (omega arith) (bytes_cons n (h n ∷ []) (omega arith) (bytes_cons (h n) [] (low n (le_refl (suc n))) (λ i. omega arith)))))

refusal_letters : (refusal : Refusal) → Framed refusal → T (lettered (refusal_line (number_of refusal.row) refusal.place))
unfolding refusal_line
refusal_letters refusal fits =
    let number = number_of refusal.row in
    let place = two refusal.place in
    line_letters 7 (number ∷ place) (bytes_cons 7 (number ∷ place) (omega arith) (bytes_cons number place fits.0 (two_bytes refusal.place fits.1)))

module _ (n k : ℕ) (links : List Link) (given : List ℕ) where
  -- a result text
  result_letters : 0 < n → n ≤ 128 → k ≤ 65535 → (text : List ℕ) → ResultText n k links given text → T (lettered text)
  unfolding head_line close_line groups
  result_letters some few low text r =
      let w = pair_tally links in
      let many = groups n w k in
      let most = count_most n (λ b. eqb (label n w k b) b) in
      let labels = label_lines n (label n w k) in
      let close = close_line (many + n) in
      let cuts = cut_lines (many - 1) r.bytes in
      subst (λ (t : List ℕ). T (lettered t)) (sym (settled_but_cuts n k links given some text r))
      (letters_append (head_line n k ++ cuts ++ labels) close
      (letters_append (head_line n k ++ cuts) labels
      (letters_append (head_line n k) cuts
      (line_letters 1 (n ∷ two k) (bytes_cons 1 (n ∷ two k) (omega arith) (bytes_cons n (two k) (omega arith) (two_bytes k (omega arith)))))
      (cuts_letters (many - 1) r.bytes (λ i. omega (arith, r.finishes.are_bytes i))))
      (labels_letters n (label n w k) (omega arith) (λ b l. omega (arith, label_bone n w k b l))))
      (line_letters 6 (two (many + n)) (bytes_cons 6 (two (many + n)) (omega arith) (two_bytes (many + n) (omega (arith, most))))))

  printed_letters : (j : Judged) → Fits j → (j ≡ Accepted → (0 < n) × (n ≤ 128) × (k ≤ 65535)) → (text : List ℕ) → Printed j n k links given text → T (lettered text)
  unfolding Printed Fits
  printed_letters (Ok done) fits counts text p = let c = counts refl in result_letters c.0 c.1 c.2 text p
  printed_letters (Err refusal) fits counts text p = subst (λ (t : List ℕ). T (lettered t)) (sym p) (refusal_letters refusal fits)

pub only_letters : (input out out' : List ℕ) (r : Result ℕ Refusal) (a : Answering input out out' r) → T (lettered a.text)
unfolding program_rows grouped_rows
only_letters input out out' r a =
    let ls = lines_of input in
    printed_letters (bones_in ls) (threshold_in ls) (links_in ls) (entries_in ls) (first (program_rows input))
    (both_fit (reader_rows input 4096 (entry_size * 127)) _ (reader_fits input 4096 (entry_size * 127)) (λ _. grouping_fits (bones_in ls) (threshold_in ls) (links_in ls) (entries_in ls) 128 (entry_size * 127)))
    (accepted_counts input) a.text a.printed

-- ---- the program `thin`

links_letters : (ls : List Link) → AllInFrames ls → T (lettered (link_lines ls))
unfolding link_lines link_line lettered
links_letters [] s = tt
links_letters (l ∷ ls) s =
    letters_append (link_line l) (link_lines ls)
    (line_letters 2 (l.a ∷ l.b ∷ two l.tally) (bytes_cons 2 (l.a ∷ l.b ∷ two l.tally) (omega arith)
    (bytes_cons l.a (l.b ∷ two l.tally) s.0.first_end (bytes_cons l.b (two l.tally) s.0.second_end (two_bytes l.tally s.0.traits)))))
    (links_letters ls s.1)

thinned_letters : (n k : ℕ) (ls : List Link) → n ≤ 128 → k ≤ 65535 → length ls ≤ 4096 → AllInFrames ls → T (lettered (input_text n k ls []))
unfolding input_text head_line cut_lines close_line
thinned_letters n k ls few low short s =
    letters_append (head_line n k ++ link_lines ls ++ []) (close_line (1 + length ls + 0))
    (letters_append (head_line n k ++ link_lines ls) []
    (letters_append (head_line n k) (link_lines ls)
    (line_letters 1 (n ∷ two k) (bytes_cons 1 (n ∷ two k) (omega arith) (bytes_cons n (two k) (omega arith) (two_bytes k (omega arith)))))
    (links_letters ls s)) (cuts_letters 0 [] (λ i. omega arith)))
    (line_letters 6 (two (1 + length ls + 0)) (bytes_cons 6 (two (1 + length ls + 0)) (omega arith) (two_bytes (1 + length ls + 0) (omega arith))))

thin_printed_lem : (j : Judged) (n k : ℕ) (links : List Link) → Fits j → (j ≡ Accepted → T (lettered (thinned_text n k links))) → T (lettered (thin_printed j n k links))
unfolding thin_printed Fits
thin_printed_lem (Ok done) n k links fits text = text refl
thin_printed_lem (Err refusal) n k links fits text = refusal_letters refusal fits

thin_accepted : (input : List ℕ) → first (thin_rows input) ≡ Accepted → T (lettered (thinned_text (bones_in (lines_of input)) (threshold_in (lines_of input)) (links_in (lines_of input))))
unfolding thinned_text thinning_rows
thin_accepted input e =
    let ls = lines_of input in
    let links = links_in ls in
    let n = bones_in ls in
    let k = threshold_in ls in
    let counted = table_counted n k true links (accepted_left (table_rows n k true links) _ (thinned input e)) in
    thinned_letters n k (kept n (pair_tally links) k links) counted.few_bones counted.low_threshold (few_kept n k links (thinned input e)) (small input e)

pub thin_letters : (input : List ℕ) → T (lettered (thin_printed (first (thin_rows input)) (bones_in (lines_of input)) (threshold_in (lines_of input)) (links_in (lines_of input))))
unfolding thin_rows thinned_rows
thin_letters input =
    let ls = lines_of input in
    thin_printed_lem (first (thin_rows input)) (bones_in ls) (threshold_in ls) (links_in ls)
    (both_fit (reader_rows input 4096 (entry_size * 127)) _ (reader_fits input 4096 (entry_size * 127)) (λ _. thinning_fits (bones_in ls) (threshold_in ls) (links_in ls) 4096))
    (thin_accepted input)
