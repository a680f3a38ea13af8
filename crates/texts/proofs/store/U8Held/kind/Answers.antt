-- `kind` of an entry's bytes meets its contract. Assumes nothing.
use Rattle.texts.proofs.Held.{entries_held}
use Rattle.texts.proofs.store.U8Held.kind.Goals as goal

pub returns-clause-holds : goal.returns-clause-holds
returns-clause-holds c = entries_held
