-- `is_whole` of links as bytes meets its contract: bytes are whole links where none is left over. Assumes nothing.
use Rattle.std.proofs.Common.{arith}
use Rattle.std.proofs.lemmas.Bool.Decides.{nat_tests}
use Rattle.links.specs.Links.{whole}
use Rattle.links.proofs.form.U8LinkRun.is_whole.Goals as goal

pub returns : goal.returns
unfolding whole
returns c = grind (arith, nat_tests)
