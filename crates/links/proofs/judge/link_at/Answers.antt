-- `links::judge::link_at` meets its contract. Assumes nothing.
use Rattle.std.proofs.Common.{ℕ, List, get_or, sym, ◌∙◌, ap, arith, ltb-true, ltb-false}
use Rattle.links.proofs.LinksBytes.{links_of_chunk, links_of_past}
use Rattle.links.proofs.judge.link_at.Goals as goal

pub returns-in-None : goal.returns-in-None
returns-in-None c = links_of_past _ _ _ (omega (arith, c.as_chunks.ensures.front_len, ltb-false _ _ (sym c.in-None.ensures.lookup.0)))

pub returns-in-Some : goal.returns-in-Some
returns-in-Some c =
    links_of_chunk c.args.links.now c.args.i _ _ c.in-Some.field-0.now c.in-Some.field-0.now
    (omega (arith, c.as_chunks.ensures.front_len, ltb-true _ _ (sym c.in-Some.ensures.lookup.0)))
    (c.in-Some.ensures.lookup.1 ∙ ap (λ (fours : List (List ℕ)). get_or fours c.args.i c.in-Some.field-0.now) c.as_chunks.ensures.front)
    c.from_be_bytes.ensures
