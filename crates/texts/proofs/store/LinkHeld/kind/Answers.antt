-- `kind` of links meets its contract. Assumes nothing.
use Rattle.texts.proofs.Held.{links_held}
use Rattle.texts.proofs.store.LinkHeld.kind.Goals as goal

pub returns-clause-holds : goal.returns-clause-holds
returns-clause-holds c = links_held
