-- `count` of links as bytes meets its contract: the number of links that bytes mean, four a link. Assumes nothing.
use Rattle.std.proofs.Common.{sym}
use Rattle.links.proofs.LinksBytes.{length-links_of}
use Rattle.links.proofs.form.U8LinkRun.count.Goals as goal

pub returns : goal.returns
returns c = sym (length-links_of c.args.links.now)
