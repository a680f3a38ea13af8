-- Laws of going on behind a line that passed: what is read in all stays the same.
-- Assumes nothing.
use Prim.Native.Nat.{ℕ, suc, ◌+◌, ◌*◌, ◌/◌, ◌≤◌, ◌<◌}
use mathlib.Core.Path.{◌≡◌, refl, sym, ◌∙◌, ap}
use mathlib.Core.Bool.{true, false, true≢false}
use mathlib.Core.Logic.{⊎_elim}
use mathlib.Core.List.{List, []}
use native.Mathlib.Numerals.{add-one}
use native.Mathlib.Omega.{arith}
use lib.Dec.{eqb, eqb→eq}
use lib.ListN.{length, drop, length-append, drop_of_length-le}
use Rattle.std.proofs.Common.{Ok, Err}
use Rattle.meaning.specs.declared.Refusal.{Refusal}
use Rattle.meaning.specs.declared.Row.TheVariants.{Order}
use Rattle.meaning.specs.Judge.{Accepted, answered, first}
use Rattle.meaning.proofs.Tests.{holds, fails, decide, neqb→ne}
use Rattle.cutting.specs.Record.{entry_size}
use Rattle.texts.specs.declared.Reading.{Reading}
use Rattle.texts.specs.declared.frame.Frame.{Frame}
use Rattle.frames.specs.declared.stage.Stage.{Stage}
use Rattle.frames.specs.declared.stage.Stage.TheVariants.{Opening, Linking, Cutting, Closed}
use Rattle.frames.specs.declared.progress.Progress.{Progress}
use Rattle.frames.specs.Kinds.{number_of}
use Rattle.frames.specs.Step.{leads, Stepped}
use Rattle.frames.proofs.Stages.{leads_on}
use Rattle.frames.proofs.Steps.{one_more, as_many}
use Rattle.frames.specs.Stages.{after, open_at}
use Rattle.texts.specs.Lines.{Line, lines_of, line_rows}
use Rattle.texts.specs.Reader.{entry_in, found_in, links_in, entries_in, bones_in, threshold_in}
use Rattle.texts.specs.Walk.{byte_at, size_at}
use Rattle.texts.specs.Judging.{Passes, Bounded, Ready, Advanced, head_from, read_from}
use Rattle.texts.proofs.Lines.{front}
use Rattle.texts.proofs.Rows.{row_applies, row_passes, answered_accepted, answered_refused}
use Rattle.texts.proofs.Judging.{rest, rest_at, rows_pass, head_read, head_kept}
use Rattle.texts.proofs.ReadsText.{bones_front, threshold_front, links_front, links_skip, entries_front, entries_skip, entry_length}
use Rattle.texts.proofs.Walks.{size_of, well_room}

-- a reading of these numbers
abbrev pub numbers : ℕ → ℕ → ℕ → ℕ → Reading
numbers n k links cuts = record { n = n; k = k; links = links; cuts = cuts }

-- behind the frame at a place, one line further
pub record Moved (text : List ℕ) (s s' : Progress) : Type 0 where
  pub place : s'.at ≡ s.at + 2 * size_at (drop s.at text) + 1
  pub line : s'.line ≡ s.line + 1
  pub stage : s'.stage ≡ after s.stage (byte_at (drop s.at text) 0)

module _ (text : List ℕ) (s s' : Progress) (small : Bounded text s) (p : Passes (drop s.at text) s.stage s.line) (m : Moved text s s') where
  rest_here : rest (drop s.at text) ≡ lines_of (drop s'.at text)
  rest_here = rest_at text s.at s'.at m.place

  -- the answer is the same where its parts are, behind the frame
  same_answer : head_from s.stage (bones_in (lines_of (drop s.at text))) s.n ≡ head_from (after s.stage (byte_at (drop s.at text) 0)) (bones_in (rest (drop s.at text))) s'.n
      → head_from s.stage (threshold_in (lines_of (drop s.at text))) s.k ≡ head_from (after s.stage (byte_at (drop s.at text) 0)) (threshold_in (rest (drop s.at text))) s'.k
      → s.links + length (links_in (lines_of (drop s.at text))) ≡ s'.links + length (links_in (rest (drop s.at text)))
      → s.cuts + length (entries_in (lines_of (drop s.at text))) / entry_size ≡ s'.cuts + length (entries_in (rest (drop s.at text))) / entry_size
      → read_from s (lines_of (drop s.at text)) ≡ read_from s' (lines_of (drop s'.at text))
  unfolding read_from
  same_answer en ek el ec =
      let stage = sym m.stage in
      let rows = rows_pass (drop s.at text) s.stage s.line p in
      let line : suc s.line ≡ s'.line = sym (add-one s.line) ∙ sym m.line in
      (λ i. answered (rows i) (numbers (en i) (ek i) (el i) (ec i)))
      ∙ (λ i.
      answered (first (line_rows (stage i) (line i) (rest_here i)))
      (numbers (head_from (stage i) (bones_in (rest_here i)) s'.n) (head_from (stage i) (threshold_in (rest_here i)) s'.k)
      (s'.links + length (links_in (rest_here i))) (s'.cuts + length (entries_in (rest_here i)) / entry_size)))

  small_here : s'.links ≤ s.links + 1 → s'.cuts ≤ s.cuts + 1 → Bounded text s'
  small_here a b =
      let r = well_room text s.at p.well in
      record {
        text_small = small.text_small;
        place = omega (arith, m.place);
        lines = omega (arith, m.place, m.line, small.lines);
        links = omega (arith, m.line, small.links);
        cuts = omega (arith, m.line, small.cuts);
      }

  further_here : s.at < s'.at
  further_here = omega (arith, m.place)

  -- behind a head
  pub advance_head : byte_at (drop s.at text) 0 ≡ 1 → s'.n ≡ byte_at (drop s.at text) 1
      → s'.k ≡ byte_at (drop s.at text) 2 * 256 + byte_at (drop s.at text) 3 → s'.links ≡ s.links → s'.cuts ≡ s.cuts → Advanced text s s'
  advance_head e en ek el ec =
      let cs = drop s.at text in
      let r = head_read s.stage (byte_at cs 0) p.order e in
      record {
        small = small_here (omega arith) (omega arith);
        further = further_here;
        same =
            same_answer
            (r (bones_in (lines_of cs)) (bones_in (rest cs)) s.n ∙ ap (head_from (after s.stage (byte_at cs 0)) (bones_in (rest cs))) (bones_front cs p.well e ∙ sym en))
            (r (threshold_in (lines_of cs)) (threshold_in (rest cs)) s.k ∙ ap (head_from (after s.stage (byte_at cs 0)) (threshold_in (rest cs))) (threshold_front cs p.well e ∙ sym ek))
            (omega (arith, ap length (links_skip cs p.well (λ q. omega arith))))
            (omega (arith, ap length (entries_skip cs p.well (λ q. omega arith))));
      }

  -- behind any other frame: the head's numbers stay
  other_answer : (byte_at (drop s.at text) 0 ≡ 1 → ⊥) → s'.n ≡ s.n → s'.k ≡ s.k
      → s.links + length (links_in (lines_of (drop s.at text))) ≡ s'.links + length (links_in (rest (drop s.at text)))
      → s.cuts + length (entries_in (lines_of (drop s.at text))) / entry_size ≡ s'.cuts + length (entries_in (rest (drop s.at text))) / entry_size
      → read_from s (lines_of (drop s.at text)) ≡ read_from s' (lines_of (drop s'.at text))
  other_answer f en ek el ec =
      let cs = drop s.at text in
      let r = head_kept s.stage (byte_at cs 0) p.order f in
      same_answer
      (r (bones_in (lines_of cs)) (bones_in (rest cs)) s.n ∙ ap (head_from (after s.stage (byte_at cs 0)) (bones_in (rest cs))) (sym en))
      (r (threshold_in (lines_of cs)) (threshold_in (rest cs)) s.k ∙ ap (head_from (after s.stage (byte_at cs 0)) (threshold_in (rest cs))) (sym ek))
      el ec

  pub advance_link : byte_at (drop s.at text) 0 ≡ 2 → s'.n ≡ s.n → s'.k ≡ s.k → s'.links ≡ s.links + 1 → s'.cuts ≡ s.cuts → Advanced text s s'
  advance_link e en ek el ec =
      let cs = drop s.at text in
      record {
        small = small_here (omega arith) (omega arith);
        further = further_here;
        same =
            other_answer (λ q. omega arith) en ek
            (omega (arith, ap length (links_front cs p.well e)))
            (omega (arith, ap length (entries_skip cs p.well (λ q. omega arith))));
      }

  pub advance_cut : byte_at (drop s.at text) 0 ≡ 3 → s'.n ≡ s.n → s'.k ≡ s.k → s'.links ≡ s.links → s'.cuts ≡ s.cuts + 1 → Advanced text s s'
  advance_cut e en ek el ec =
      let cs = drop s.at text in
      record {
        small = small_here (omega arith) (omega arith);
        further = further_here;
        same =
            other_answer (λ q. omega arith) en ek
            (omega (arith, ap length (links_skip cs p.well (λ q. omega arith))))
            (omega (arith, ap length (entries_front cs p.well e), length-append (entry_in (front cs)) (entries_in (rest cs)), entry_length cs p.well e));
      }

  pub advance_other : (byte_at (drop s.at text) 0 ≡ 1 → ⊥) → (byte_at (drop s.at text) 0 ≡ 2 → ⊥) → (byte_at (drop s.at text) 0 ≡ 3 → ⊥)
      → s'.n ≡ s.n → s'.k ≡ s.k → s'.links ≡ s.links → s'.cuts ≡ s.cuts → Advanced text s s'
  advance_other f g h en ek el ec =
      let cs = drop s.at text in
      record {
        small = small_here (omega arith) (omega arith);
        further = further_here;
        same = other_answer f en ek (omega (arith, ap length (links_skip cs p.well g))) (omega (arith, ap length (entries_skip cs p.well h)));
      }

-- the frame stands within the text
ready_room : (text : List ℕ) (s : Progress) (f : Frame) → Ready text s f → s.at + 2 * f.size < length text
ready_room text s f r = omega (arith, well_room text s.at r.line.passes.well, r.line.frame.size)

-- the same, from the frame that was found and the step behind it
module _ (text : List ℕ) (s t : Progress) (f : Frame) (r : Ready text s f) (p : Stepped s (number_of f.kind) f.size t) where
  abbrev kind_here : ℕ
  kind_here = byte_at (drop s.at text) 0

  found_kind : number_of f.kind ≡ kind_here
  found_kind = r.line.frame.kind

  moved : Moved text s t
  moved =
      let small = r.small in
      let place : t.at ≡ s.at + 2 * f.size + 1 = omega (arith, p.place, ready_room text s f r) in
      record {
        place = place ∙ ap (λ (n : ℕ). s.at + 2 * n + 1) r.line.frame.size;
        line = omega (arith, p.line);
        stage = p.stage ∙ ap (leads s.stage) found_kind ∙ leads_on s.stage kind_here r.line.passes.order;
      }

  more_links : number_of f.kind ≡ 2 → t.links ≡ s.links + 1
  more_links e = let small = r.small in one_more (number_of f.kind) 2 s.links t.links e (omega arith) p.links

  more_cuts : number_of f.kind ≡ 3 → t.cuts ≡ s.cuts + 1
  more_cuts e = let small = r.small in one_more (number_of f.kind) 3 s.cuts t.cuts e (omega arith) p.cuts

  same_links : (number_of f.kind ≡ 2 → ⊥) → t.links ≡ s.links
  same_links g = as_many (number_of f.kind) 2 s.links t.links g p.links

  same_cuts : (number_of f.kind ≡ 3 → ⊥) → t.cuts ≡ s.cuts
  same_cuts g = as_many (number_of f.kind) 3 s.cuts t.cuts g p.cuts

  -- behind a head, with its numbers
  pub go_head : (n k : ℕ) → number_of f.kind ≡ 1 → n ≡ byte_at (drop s.at text) 1 → k ≡ byte_at (drop s.at text) 2 * 256 + byte_at (drop s.at text) 3
      → Advanced text s (record { at = t.at; line = t.line; stage = t.stage; n = n; k = k; links = t.links; cuts = t.cuts })
  go_head n k e en ek =
      advance_head text s (record { at = t.at; line = t.line; stage = t.stage; n = n; k = k; links = t.links; cuts = t.cuts }) r.small r.line.passes
      (record { place = moved.place; line = moved.line; stage = moved.stage }) (sym found_kind ∙ e) en ek
      (same_links (λ q. omega arith)) (same_cuts (λ q. omega arith))

  -- behind any other frame
  pub go_on : (number_of f.kind ≡ 1 → ⊥) → Advanced text s t
  go_on no-head =
      ⊎_elim
      (λ u.
      let e = eqb→eq (number_of f.kind) 2 u in
      advance_link text s t r.small r.line.passes moved (sym found_kind ∙ e) p.n p.k (more_links e) (same_cuts (λ q. omega arith)))
      (λ u. without_link (neqb→ne (number_of f.kind) 2 u))
      (decide (eqb (number_of f.kind) 2))
    where
      no_cut : (number_of f.kind ≡ 2 → ⊥) → (number_of f.kind ≡ 3 → ⊥) → Advanced text s t
      no_cut b c =
          advance_other text s t r.small r.line.passes moved (λ e. no-head (found_kind ∙ e)) (λ e. b (found_kind ∙ e)) (λ e. c (found_kind ∙ e)) p.n p.k
          (same_links b) (same_cuts c)

      without_link : (number_of f.kind ≡ 2 → ⊥) → Advanced text s t
      without_link b =
          ⊎_elim
          (λ u.
          let e = eqb→eq (number_of f.kind) 3 u in
          advance_cut text s t r.small r.line.passes moved (sym found_kind ∙ e) p.n p.k (same_links b) (more_cuts e))
          (λ u. no_cut b (neqb→ne (number_of f.kind) 3 u))
          (decide (eqb (number_of f.kind) 3))

-- a head stands within the text
pub head_room : (text : List ℕ) (s : Progress) (f : Frame) → Ready text s f → number_of f.kind ≡ 1 → s.at + 10 < length text
head_room text s f r e = omega (arith, ready_room text s f r, r.line.frame.size, size_of (drop s.at text) 1 (sym r.line.frame.kind ∙ e))

-- reading from the start, to a refusal, and to the end
abbrev pub beginning : Progress
beginning = record { at = 0; line = 0; stage = Opening; n = 0; k = 0; links = 0; cuts = 0 }

pub whole_text : (ls : List Line) → answered (first (line_rows Opening 0 ls)) (found_in ls) ≡ read_from beginning ls
unfolding read_from head_from found_in
whole_text ls =
    let a : length (links_in ls) ≡ 0 + length (links_in ls) = omega arith in
    let b : length (entries_in ls) / entry_size ≡ 0 + length (entries_in ls) / entry_size = omega arith in
    λ i. answered (first (line_rows Opening 0 ls)) (numbers (bones_in ls) (threshold_in ls) (a i) (b i))

pub read_start : (text : List ℕ) (s : Progress) → length text ≤ 65536
    → (s.at ≡ 0) × ((s.line ≡ 0) × ((s.stage ≡ Opening) × ((s.n ≡ 0) × ((s.k ≡ 0) × ((s.links ≡ 0) × (s.cuts ≡ 0))))))
    → Bounded text s × (answered (first (line_rows Opening 0 (lines_of text))) (found_in (lines_of text)) ≡ read_from s (lines_of (drop s.at text)))
read_start text s h e =
    let same : s ≡ beginning
    = λ i. record { at = e.0 i; line = e.1.0 i; stage = e.1.1.0 i; n = e.1.1.1.0 i; k = e.1.1.1.1.0 i; links = e.1.1.1.1.1.0 i; cuts = e.1.1.1.1.1.1 i } in
    (omega arith, whole_text (lines_of text) ∙ sym (ap (λ (t : Progress). read_from t (lines_of (drop t.at text))) same))

pub read_refused : (s : Progress) (ls : List Line) (refusal : Refusal) → first (line_rows s.stage s.line ls) ≡ Err refusal → read_from s ls ≡ Err refusal
unfolding read_from
read_refused s ls refusal e = answered_refused _ e

at_end : (text : List ℕ) (s : Progress) → length text ≤ s.at → lines_of (drop s.at text) ≡ []
unfolding lines_of
at_end text s h = ap lines_of (drop_of_length-le text {i = s.at} h)

pub read_open : (text : List ℕ) (s : Progress) → length text ≤ s.at → open_at s.stage ≡ true
    → read_from s (lines_of (drop s.at text)) ≡ Err (record { row = Order; place = s.line })
unfolding line_rows
read_open text s h e =
    read_refused s (lines_of (drop s.at text)) _
    (ap (λ (ls : List Line). first (line_rows s.stage s.line ls)) (at_end text s h) ∙ row_applies (open_at s.stage) Order s.line [] (holds e))

closed_only : (stage : Stage) → open_at stage ≡ false → stage ≡ Closed
unfolding open_at
closed_only Opening e = absurd (true≢false e)
closed_only Linking e = absurd (true≢false e)
closed_only Cutting e = absurd (true≢false e)
closed_only Closed e = refl

pub read_end : (text : List ℕ) (s : Progress) → length text ≤ s.at → open_at s.stage ≡ false
    → read_from s (lines_of (drop s.at text)) ≡ Ok (numbers s.n s.k s.links s.cuts)
unfolding read_from head_from line_rows first links_in entries_in
read_end text s h e =
    let none = at_end text s h in
    let shut = closed_only s.stage e in
    let rows : first (line_rows s.stage s.line []) ≡ Accepted = row_passes (open_at s.stage) Order s.line [] (fails e) in
    let a : s.links + 0 ≡ s.links = omega arith in
    let b : s.cuts + 0 / entry_size ≡ s.cuts = omega arith in
    ap (read_from s) none
    ∙ answered_accepted _ rows
    ∙ (λ i. Ok (numbers (head_from (shut i) (bones_in []) s.n) (head_from (shut i) (threshold_in []) s.k) (a i) (b i)))
