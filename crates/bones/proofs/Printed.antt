-- The space that the program lends is room enough, and so all of the text is printed. Assumes nothing.
use Rattle.std.proofs.Common.{ℕ, ◌≤◌, ◌≡◌, ◌∙◌, ap, List, length, Result}
use Rattle.meaning.specs.declared.Refusal.{Refusal}
use Rattle.texts.specs.Steps.{result_size}
use Rattle.shell.specs.Shown.{shown}
use Rattle.shell.proofs.Printing.{shown_all}
use Rattle.answering.specs.Prints.{Answering}
use Rattle.answering.proofs.Theorems.{room_enough, count_fits}

pub all_printed : (input out out' : List ℕ) (r : Result ℕ Refusal) (a : Answering input out out' r) → result_size 127 128 ≤ length out → shown r (length out) ≡ length a.text
all_printed input out out' r a wide =
    let answered = room_enough input out out' r a wide in
    ap (λ (s : Result ℕ Refusal). shown s (length out)) answered ∙ shown_all Refusal (length a.text) (length out) (count_fits input out out' r a wide (length a.text) answered)
