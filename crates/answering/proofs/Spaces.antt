-- The spaces that the programs' functions make in locals and lend, at nought, and how long they are.
-- Assumes nothing.
use Prim.Native.Nat.{ℕ, ◌*◌}
use mathlib.Core.Path.{◌≡◌}
use mathlib.Core.List.{List}
use lib.ListN.{length, replicate, length-replicate}
use Rattle.meaning.specs.declared.Link.{Link}
use Rattle.links.specs.Forms.{no_link}
use Rattle.cutting.specs.Record.{entry_size}

-- links, as many as a text may have
abbrev pub links₀ : List Link
links₀ = replicate 4096 no_link

pub many_links : length links₀ ≡ 4096
many_links = length-replicate 4096 no_link

-- the bytes of a record, of as many cuts as there may be
abbrev pub space_size : ℕ
space_size = 127 * entry_size

abbrev pub space₀ : List ℕ
space₀ = replicate space_size 0

pub wide_space : length space₀ ≡ space_size
wide_space = length-replicate {A = ℕ} space_size 0

-- labels, one for each bone
abbrev pub labels₀ : List ℕ
labels₀ = replicate 128 0

pub many_labels : length labels₀ ≡ 128
many_labels = length-replicate {A = ℕ} 128 0
