-- `calls::bytes::bones_thinning` meets its contract: so many bytes of room are so many whole links. Assumes nothing.
use Rattle.std.proofs.Common.{rules}
use Rattle.cutting.proofs.Keeping.{thinning_bytes}
use Rattle.calls.proofs.bytes.bones_thinning.Goals as goal

pub returns : goal.returns
returns c = search (rules, thinning_bytes)
