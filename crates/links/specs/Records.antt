-- Links held against labels: whether one is kept, and those that are.
use Rattle.std.specs.Prelude.{ℕ, Bool, ◌&&◌, List, filter, ◌==◌, nat_lt, slice_index}
use Rattle.meaning.specs.declared.Link.{Link}

-- whether both ends of a link carry the same label; a run of labels has 128
unfoldable pub same_label : List ℕ → Link → Bool
same_label labels l = (nat_lt l.a 128 && nat_lt l.b 128) && slice_index labels l.a == slice_index labels l.b

-- the links whose ends do, in order
unfoldable pub kept_links : List ℕ → List Link → List Link
kept_links labels = filter (same_label labels)
