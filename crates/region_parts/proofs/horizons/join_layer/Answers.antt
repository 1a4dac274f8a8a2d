-- A layer in turn, by its needs and areas.
use Rattle.std.proofs.Common.{subst}
use Rattle.page_model.specs.Time.{HasFrames}
use Rattle.region_split.specs.Marks.{frames_in}
use Rattle.region_parts.specs.Joining.{IsTooLongSomewhere, MeetSomeCell}
use Rattle.region_parts.proofs.HorizonLemmas.{horizons-more, long-refuted, met-refuted, turn-of}
use Rattle.region_parts.proofs.RefuteLemmas.{frames-bounded, need-at}
use Rattle.region_parts.proofs.horizons.join_layer.Goals as goal

pub is_little_work-requires : goal.is_little_work-requires
is_little_work-requires c =
    rw c.frames_of-frames.ensures
    (frames-bounded c.args.scene.now c.args.setup.now c.args.needs.now.horizons.items c.args.needs.now.frames.items c.args.number
    c.requires.cut.needs c.requires.there)

pub returns-then-meet_some_cell : goal.returns-then-meet_some_cell
returns-then-meet_some_cell c =
    let scene = c.args.scene.now in
    let setup = c.args.setup.now in
    let cuts = c.args.cuts.now in
    let horizons = c.args.needs.now.horizons.items in
    let frames = c.args.needs.now.frames.items in
    let areas = c.in_ok-areas.areas.items in
    let turn = turn-of scene setup horizons frames cuts c.args.number c.frames_of-frames.result c.horizon_of-own.result areas
    c.requires.cut c.requires.there c.horizon_of-own.ensures c.frames_of-frames.ensures c.in_ok-areas.ensures in
    let meets : MeetSomeCell cuts areas =
    subst (MeetSomeCell cuts) c.as_slice.ensures.value (c.meet_some_cell.ensures.0 c.if-meet_some_cell.true) in
    met-refuted scene setup horizons frames cuts c.args.number c.horizon_of-own.result areas c.requires.cut turn meets
    (λ little. let is = c.is_little_work.ensures.1 (rw (c.cells.ensures, c.frames_of-frames.ensures) little) in cc)

pub join_met-requires-clause-own : goal.join_met-requires-clause-own
join_met-requires-clause-own c =
    rw c.horizon_of-own.ensures
    (need-at c.args.scene.now c.args.setup.now c.args.needs.now.horizons.items c.args.needs.now.frames.items c.args.number c.requires.cut.needs
    c.requires.there).1.short

pub returns-then-not-join_met : goal.returns-then-not-join_met
returns-then-not-join_met c =
    let scene = c.args.scene.now in
    let setup = c.args.setup.now in
    let cuts = c.args.cuts.now in
    let horizons = c.args.needs.now.horizons.items in
    let frames = c.args.needs.now.frames.items in
    let areas = c.in_ok-areas.areas.items in
    let own = c.horizon_of-own.result in
    let turn = turn-of scene setup horizons frames cuts c.args.number c.frames_of-frames.result own areas
    c.requires.cut c.requires.there c.horizon_of-own.ensures c.frames_of-frames.ensures c.in_ok-areas.ensures in
    let long : IsTooLongSomewhere cuts areas own c.args.horizons.now =
    subst (λ some. IsTooLongSomewhere cuts some own c.args.horizons.now) c.as_slice-2.ensures.value (c.join_met.ensures.long c.if-not-join_met.true) in
    let rate : HasFrames setup = record { some_num = c.num-num.ensures.some; some_den = c.den-den.ensures.some } in
    long-refuted scene setup horizons frames cuts c.args.number own areas c.args.horizons.now rate c.requires.cut turn long c.requires.before

pub returns : goal.returns
returns c =
    let scene = c.args.scene.now in
    let setup = c.args.setup.now in
    let cuts = c.args.cuts.now in
    let horizons = c.args.needs.now.horizons.items in
    let frames = c.args.needs.now.frames.items in
    let areas = c.in_ok-areas.areas.items in
    let own = c.horizon_of-own.result in
    let turn = turn-of scene setup horizons frames cuts c.args.number c.frames_of-frames.result own areas
    c.requires.cut c.requires.there c.horizon_of-own.ensures c.frames_of-frames.ensures c.in_ok-areas.ensures in
    horizons-more scene setup (frames_in frames) cuts c.args.number own areas c.args.horizons.now c.join_met.new.horizons c.requires.cut.cut turn
    (rw c.as_slice-2.ensures.value at (c.join_met.ensures.joined c.if-not-join_met.false)) c.requires.before
