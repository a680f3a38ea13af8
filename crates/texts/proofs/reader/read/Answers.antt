-- `reader::read` meets its contract: what was judged can be stored, and storing it leaves what the reader promises. Assumes nothing.
use Rattle.std.proofs.Common.{sym, ◌∙◌}
use Rattle.std.proofs.lemmas.Result.{err_from_is_err_and}
use Rattle.texts.proofs.ReadsAll.{read_refused, links_storable, entries_storable, links_counted, entries_counted, reads_so}
use Rattle.texts.proofs.reader.read.Goals as goal

pub returns-in_err-found : goal.returns-in_err-found
returns-in_err-found c =
    let p = err_from_is_err_and c.from_residual.result c.from_residual.ensures.1 in
    rw (p.1, p.2) (read_refused c.args.text.now c.args.links.now c.args.space.now _ (sym c.in_err-found.was ∙ c.judge.ensures))

pub store-requires : goal.store-requires
store-requires c =
    let e = sym c.in_ok-found.was ∙ c.judge.ensures in
    record {
      storable = links_storable c.args.text.now c.args.links.now c.args.space.now _ e;
      all = links_counted c.args.text.now c.args.links.now c.args.space.now _ e;
    }

pub store-requires-2 : goal.store-requires-2
store-requires-2 c =
    let e = sym c.in_ok-found.was ∙ c.judge.ensures in
    record {
      storable = entries_storable c.args.text.now c.args.links.now c.args.space.now _ e;
      all = c.size_of.ensures ∙ entries_counted c.args.text.now c.args.links.now c.args.space.now _ e;
    }

pub returns : goal.returns
returns c =
    rw (c.store.ensures, c.store-2.ensures)
    (reads_so c.args.text.now c.args.links.now c.args.space.now _ (sym c.in_ok-found.was ∙ c.judge.ensures))
