use Rattle.std.proofs.Common.{◌≡◌, ◌≤◌, length, take}
use Rattle.links.specs.Records.{kept_links}
use Rattle.links.specs.Forms.{front}
use Rattle.links.proofs.records.keep_links.Given as goal

-- the links kept of the first i stand at the front of the room, and `kept` is their number
abbrev pub invariant-loop-i : goal.invariant-loop-i
invariant-loop-i g l =
    let kept = kept_links l.labels (take l.i (g.L.LinkForm.links_in l.links)) in
    (l.kept ≤ l.i) × (l.kept ≡ length kept) × (l.out ≡ front g.L.LinkForm.links_in g.L.LinkForm.written l.initial.out kept)
