-- The theorems about what the program `thin` prints. Its promise settles all of it.
--     one_thinned        two answers that meet the promise are equal
--     writer_accepts     of the input writer's rows only 20 can refuse what thinning kept
--     thinned_then_read  what is printed where nothing refuses is read back as n, k, the links kept, and no cuts
--     thin_room, thin_count_fits    with room for a head, 4,096 links and a close, every answer is printed
--     thin_left          and so it stands at the front of the space
-- Assumes nothing.
use Rattle.std.proofs.Common.{ℕ, ◌*◌, ◌≤◌, ◌≡◌, refl, sym, ◌∙◌, subst, arith, Bool, true, false, cond, ◌&&◌, List, [], ◌∷◌, length, take, T, eqb, le-ltb, Result, Ok, Err}
use Rattle.meaning.specs.declared.Link.{Link}
use Rattle.meaning.specs.declared.Refusal.{Refusal}
use Rattle.meaning.specs.Bytes.{Bytes}
use Rattle.meaning.specs.Judge.{Judged, Accepted, answered, refuse, first, number_of}
use Rattle.meaning.specs.Room.{over, settled}
use Rattle.meaning.specs.Tally.{pair_tally}
use Rattle.meaning.specs.Firm.{label}
use Rattle.meaning.proofs.Room.{over_nil}
use Rattle.meaning.proofs.Tests.{left_of, right_of}
use Rattle.links.specs.Records.{kept_links}
use Rattle.links.proofs.LinksRows.{accepted_left, accepted_right}
use Rattle.cutting.specs.Names.{names}
use Rattle.cutting.specs.Record.{entry_size}
use Rattle.cutting.specs.Rows.{thinning_rows}
use Rattle.cutting.specs.Calls.{kept}
use Rattle.frames.specs.Frame.{well_formed}
use Rattle.frames.specs.declared.stage.Stage.TheVariants.{Opening}
use Rattle.frames.proofs.Frames.{well_parts, bytes_bytes_of}
use Rattle.texts.specs.declared.Reading.{Reading}
use Rattle.texts.specs.Lines.{Line, lines_of, kind, frame, pair}
use Rattle.texts.specs.Reader.{link_in, links_in, bones_in, threshold_in, reader_rows, Reads}
use Rattle.texts.specs.Judging.{all_well}
use Rattle.texts.specs.Writing.{text_row, Writes}
use Rattle.texts.specs.Inputs.{InFrame, AllInFrames, input_text, input_rows}
use Rattle.texts.specs.Steps.{input_size}
use Rattle.texts.proofs.ReadsRows.{accepted_well, lines_accepted}
use Rattle.texts.proofs.RoundTripWritten.{bytes_none}
use Rattle.texts.proofs.Texts.{written_then_read, one_writing, input_length}
use Rattle.texts.proofs.WritesLines.{length_refusal}
use Rattle.answering.specs.ThinPrints.{thinned_rows, thin_rows, thinned_text, thin_printed, ThinsText}
use Rattle.answering.proofs.AfterThin.{kept_holds, few_kept, only-room}

-- ---- links that a text holds

-- the link of a well formed line fits its frame
line_small : (l : Line) → T (well_formed l.characters) → InFrame (link_in l)
unfolding link_in pair frame
line_small l t =
    let are : Bytes (frame l) = bytes_bytes_of l.characters (well_parts l.characters t).0 in
    record { first_end = are 1; second_end = are 2; traits = omega (arith, are 3, are 4) }

links_small : (ls : List Line) → T (all_well ls) → AllInFrames (links_in ls)
unfolding links_in all_well
links_small [] t = tt
links_small (l ∷ ls) t =
    go (eqb (kind l) 2)
    (line_small l (right_of l.ended (well_formed l.characters) (left_of (l.ended && well_formed l.characters) (all_well ls) t)))
    (links_small ls (right_of (l.ended && well_formed l.characters) (all_well ls) t))
  where
    go : (b : Bool) → InFrame (link_in l) → AllInFrames (links_in ls) → AllInFrames (cond b (link_in l ∷ links_in ls) (links_in ls))
    go true here rest = (here, rest)
    go false here rest = rest

kept_small : (labels : List ℕ) (ls : List Link) → AllInFrames ls → AllInFrames (kept_links labels ls)
kept_small = kept_holds AllInFrames (λ l ls s. (s.1, λ ks q. (s.0, q)))

-- ---- what may be printed

few_bytes : (j : Judged) (n k : ℕ) (links : List Link) → (j ≡ Accepted → first (thinning_rows n k true links 4096) ≡ Accepted) → length (thin_printed j n k links) ≤ input_size 4096 0
unfolding thin_printed thinned_text
few_bytes (Ok done) n k links ok = omega (arith, input_length n k (kept n (pair_tally links) k links) [], few_kept n k links (ok refl))
few_bytes (Err refusal) n k links ok = omega (arith, length_refusal (number_of refusal.row) refusal.place)

-- ---- the answer to an input

pub one_thinned : (input out out₁ out₂ : List ℕ) (r s : Result ℕ Refusal) → ThinsText input out out₁ r → ThinsText input out out₂ s → (r ≡ s) × (out₁ ≡ out₂)
one_thinned input out out₁ out₂ r s a b = one_writing _ _ out out₁ out₂ r s a b

module _ (input : List ℕ) where
  abbrev n : ℕ
  n = bones_in (lines_of input)

  abbrev k : ℕ
  k = threshold_in (lines_of input)

  abbrev links : List Link
  links = links_in (lines_of input)

  -- the links that stay
  abbrev stay : List Link
  stay = kept n (pair_tally links) k links

  module _ (accepted : first (thin_rows input) ≡ Accepted) where
    pub thinned : first (thinning_rows n k true links 4096) ≡ Accepted
    unfolding thin_rows thinned_rows
    thinned = accepted_right (reader_rows input 4096 (entry_size * 127)) _ accepted

    pub small : AllInFrames stay
    unfolding thin_rows
    small =
        let lines = lines_accepted input 4096 (entry_size * 127) (accepted_left (reader_rows input 4096 (entry_size * 127)) _ accepted) in
        kept_small (names 128 (label n (pair_tally links) k)) links (links_small (lines_of input) (accepted_well (lines_of input) Opening 0 lines))

    pub writer_accepts : (room : ℕ) → first (input_rows n k stay [] room) ≡ text_row (input_text n k stay []) room
    writer_accepts = only-room n k links thinned

    module _ (out out' : List ℕ) (count : ℕ) (answer : ThinsText input out out' (Ok count)) where
      by_writer : Writes (first (input_rows n k stay [] (length out))) (input_text n k stay []) out out' (Ok count)
      unfolding thin_printed thinned_text
      by_writer =
          subst (λ (j : Judged). Writes j (input_text n k stay []) out out' (Ok count)) (sym (writer_accepts (length out)))
          (subst (λ (j : Judged). Writes (text_row (thin_printed j n k links) (length out)) (thin_printed j n k links) out out' (Ok count)) accepted answer)

      pub thinned_then_read : (link_space link_space' : List Link) (space space' : List ℕ) (r : Result Reading Refusal) → length stay ≤ length link_space → Reads (take count out') link_space link_space' space space' r
          → (r ≡ Ok (record { n = n; k = k; links = length stay; cuts = 0 })) × (link_space' ≡ over link_space 0 stay) × (space' ≡ space)
      thinned_then_read link_space link_space' space space' r fits reads =
          let back = written_then_read n k stay [] out out' count small bytes_none by_writer link_space link_space' space space' r fits (omega arith) reads in
          (back.0, back.1, back.2 ∙ over_nil space 0)

-- ---- room

module _ (input out out' : List ℕ) (r : Result ℕ Refusal) (a : ThinsText input out out' r) (wide : input_size 4096 0 ≤ length out) where
  abbrev text : List ℕ
  text = thin_printed (first (thin_rows input)) (bones_in (lines_of input)) (threshold_in (lines_of input)) (links_in (lines_of input))

  text_fits : length text ≤ length out
  text_fits = omega (arith, few_bytes (first (thin_rows input)) (bones_in (lines_of input)) (threshold_in (lines_of input)) (links_in (lines_of input)) (thinned input))

  pub thin_room : r ≡ Ok (length text)
  unfolding refuse answered
  thin_room = a.answer ∙ rw (le-ltb (length out) (length text) text_fits) refl

  pub thin_left : out' ≡ over out 0 text
  unfolding refuse settled
  thin_left = a.text_left ∙ rw (le-ltb (length out) (length text) text_fits) refl

  -- so many bytes of the space are to be printed
  pub thin_count_fits : (count : ℕ) → r ≡ Ok count → count ≤ length out
  thin_count_fits count e =
      let both : Ok (length text) ≡ Ok count = sym thin_room ∙ e in
      let same : length text ≡ count = cc in
      omega (arith, text_fits)
