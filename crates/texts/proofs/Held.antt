-- What the frames of links and of cuts hold.
-- Assumes nothing.
use Rattle.std.proofs.Common.{List, [], ◌∷◌, ◌++◌, ℕ, refl, ap, ◌∙◌}
use Rattle.meaning.specs.declared.Link.{Link}
use Rattle.cutting.specs.Record.{entry_size}
use Rattle.texts.specs.Reader.{links_in, entries_in}
use Rattle.texts.specs.Storing.{payload_at, link_here, Holds}
use Rattle.texts.proofs.Judging.{rest}
use Rattle.texts.proofs.ReadsText.{links_front, link_front, entries_front}
use Rattle.texts.proofs.ReadsStore.{skip_links, skip_entries, entry_payload}

pub links_held : Holds 2 links_in (λ cs. link_here cs ∷ [])
unfolding links_in link_here
links_held =
    record {
      none = refl;
      skipped = skip_links;
      front = λ cs w e. links_front cs w e ∙ ap (λ (l : Link). l ∷ links_in (rest cs)) (link_front cs w e);
    }

pub entries_held : Holds 3 entries_in (λ cs. payload_at cs entry_size)
unfolding entries_in
entries_held =
    record {
      none = refl;
      skipped = skip_entries;
      front = λ cs w e. entries_front cs w e ∙ ap (λ (l : List ℕ). l ++ entries_in (rest cs)) (entry_payload cs w e);
    }
