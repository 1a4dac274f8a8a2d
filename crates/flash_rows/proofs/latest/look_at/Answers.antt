-- Each change that is made is among those of luminance or of red.
use Rattle.std.proofs.Common.{get_or, ◌*◌}
use Rattle.flash_rows.specs.declared.latest.Latest.{Latest}
use Rattle.flash_rows.specs.Rows.{tint_in}
use Rattle.flash_rows.proofs.LowerLemmas.{lowered-by}
use Rattle.flash_rows.proofs.latest.look_at.Goals as goal

pub returns-clause-lowered : goal.returns-clause-lowered
returns-clause-lowered c change =
    let least : Latest = record { light = c.lower_by_light.new.best; red = c.lower_by_red.new.best } in
    let light = c.lower_by_light.ensures.lowered in
    let red = c.lower_by_red.ensures.lowered in
    lowered-by c.args.row.now c.args.place c.args.age (tint_in (get_or c.args.row.now (9 * c.args.place) 0)) c.args.next.now.tint light.0 red.0
    c.args.best.now least light.1 red.1 light.2 red.2 change
