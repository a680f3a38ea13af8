-- `put` of link records meets its contract. Assumes nothing.
use Rattle.std.proofs.Common.{ℕ, List, set, sym, ◌∙◌, ap₂}
use Rattle.meaning.specs.declared.Link.{Link}
use Rattle.links.proofs.FormFront.{record_next}
use Rattle.links.proofs.form.LinkFilledForm.put.Goals as goal

pub returns : goal.returns
returns c = λ was ls e f. c.store_link.ensures ∙ ap₂ (λ (r : List Link) (j : ℕ). set r j c.args.l) f (sym e) ∙ record_next was ls c.args.l
