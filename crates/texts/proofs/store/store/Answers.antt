-- `store::store` meets its contract: what each frame that is found holds is put behind what those before it hold. Assumes nothing.
use Rattle.std.proofs.Common.{◌∙◌, arith}
use Rattle.texts.proofs.Walks.{left_is}
use Rattle.texts.proofs.ReadsPut.{storing_none, storing_full, storing_all, storing_more, part_fits}
use Rattle.texts.proofs.store.store.Goals as goal

pub loop-to-init : goal.loop-to-init
loop-to-init g c = storing_none g.T.Held.held c.args.text.now c.args.room.now c.requires.storable

pub find-requires : goal.find-requires
find-requires g c = (c.loop-to.invariant.within, c.loop-to.invariant.well)

pub returns-in_default : goal.returns-in_default
returns-in_default g c =
    let l = c.loop-to in
    storing_all c.kind.ensures.holds c.args.text.now c.args.room.now l.room l.from l.to l.invariant c.in_default.ensures

pub put-to-requires : goal.put-to-requires
put-to-requires g c =
    let l = c.loop-to in
    rw (left_is c.args.text.now c.in-Some.found.at)
    (record {
      well = c.in-Some.ensures.frame;
      kind = c.in-Some.ensures.kind ∙ c.kind.ensures.value;
      room = part_fits c.kind.ensures.holds c.args.text.now c.args.room.now l.room l.from l.to l.invariant c.in-Some.found c.in-Some.ensures;
    })

pub loop-to-preserved : goal.loop-to-preserved
loop-to-preserved g c =
    let l = c.loop-to in
    storing_more c.kind.ensures.holds c.args.text.now c.args.room.now l.room l.from l.to l.invariant c.in-Some.found c.in-Some.ensures
    _ _ (rw left_is at c.put-to.ensures.value) (rw left_is at c.put-to.ensures.room_after)

pub loop-to-smaller : goal.loop-to-smaller
loop-to-smaller g c = omega (arith, c.in-Some.ensures.further, c.in-Some.ensures.within)

pub returns : goal.returns
returns g c =
    let l = c.loop-to in
    storing_full g.T.Held.held c.args.text.now c.args.room.now l.room l.from l.to l.invariant (omega (arith, c.requires.all, c.loop-to-test.false))
