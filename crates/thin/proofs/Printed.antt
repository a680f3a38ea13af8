-- The space that the program lends is room enough, and so all of the text is printed. Assumes nothing.
use Rattle.std.proofs.Common.{ℕ, ◌≤◌, ◌≡◌, ◌∙◌, ap, List, length, Result}
use Rattle.meaning.specs.declared.Refusal.{Refusal}
use Rattle.meaning.specs.Judge.{first}
use Rattle.texts.specs.Lines.{lines_of}
use Rattle.texts.specs.Reader.{links_in, bones_in, threshold_in}
use Rattle.texts.specs.Steps.{input_size}
use Rattle.shell.specs.Shown.{shown}
use Rattle.shell.proofs.Printing.{shown_all}
use Rattle.answering.specs.ThinPrints.{thin_rows, thin_printed, ThinsText}
use Rattle.answering.proofs.ThinTheorems.{thin_room, thin_count_fits}

pub all_printed : (input out out' : List ℕ) (r : Result ℕ Refusal) → ThinsText input out out' r → input_size 4096 0 ≤ length out
    → shown r (length out) ≡ length (thin_printed (first (thin_rows input)) (bones_in (lines_of input)) (threshold_in (lines_of input)) (links_in (lines_of input)))
all_printed input out out' r a wide =
    let answered = thin_room input out out' r a wide in
    ap (λ (s : Result ℕ Refusal). shown s (length out)) answered ∙ shown_all Refusal _ (length out) (thin_count_fits input out out' r a wide _ answered)
