-- Links in either form: the link where there is none, and lent room after links were written to its front. No call's own promise speaks of these.
use Rattle.std.specs.Prelude.{◌≡◌, ℕ, refl, List, [], length, take}
use Rattle.meaning.specs.declared.Link.{Link}
use Rattle.meaning.specs.Room.{over}
use Rattle.links.specs.Links.{link_bytes}
use Rattle.links.specs.Records.{kept_links}

-- the link of noughts, which stands where there is none
abbrev pub no_link : Link
no_link = record { a = 0; b = 0; tally = 0 }

-- no links as bytes are no bytes
pub no_bytes : link_bytes [] ≡ []
unfolding link_bytes
no_bytes = refl

-- lent room after links were written to its front, as many as it takes, in the form of its elements: `links_in` reads links out of a run, `written` writes them
abbrev pub front : {A : Type 0} → (List A → List Link) → (List Link → List A) → List A → List Link → List A
front links_in written room links = over room 0 (written (take (length (links_in room)) links))

-- they are kept at the front of lent room, and their number is given
abbrev pub KeepsLinks : {A : Type 0} → (List A → List Link) → (List Link → List A) → List ℕ → List A → List A → List A → ℕ → Type 0
KeepsLinks links_in written labels links room room' r =
    (r ≡ length (kept_links labels (links_in links))) × (room' ≡ front links_in written room (kept_links labels (links_in links)))
