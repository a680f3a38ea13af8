use Rattle.std.proofs.Common.{ℕ, ◌<◌, ◌^◌, slice_index_or}
use Rattle.links.specs.Forms.{no_link}
use Rattle.links.proofs.TableAdds.{Taken}
use Rattle.links.proofs.form.LinkForm.fill.Given as goal

-- the first i links are in the table, and their tallies have 16 bits
abbrev pub invariant-loop-i : goal.invariant-loop-i
invariant-loop-i g l = record {
  taken : Taken l.fn.n (g.Self.LinkForm.links_in l.links) l.fn.table l.i l.table;
  short : (j : ℕ) → j < l.i → (slice_index_or (g.Self.LinkForm.links_in l.links) j no_link).tally < 2 ^ 16;
}
