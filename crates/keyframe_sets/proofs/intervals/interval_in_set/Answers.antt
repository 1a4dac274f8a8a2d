-- A set that names the property has the interval between the two stops next to the progress.
use Rattle.std.proofs.Common.{◌∙◌, sym, ap, ◌≡◌, true, Some, option_map}
use Rattle.page_model.specs.Keyframes as definition
use Rattle.keyframe_sets.specs.Views.{stop_as, share_as, with_frac}
use Rattle.keyframe_sets.proofs.IntervalLemmas.{interval_of-named}
use Rattle.keyframe_sets.proofs.intervals.interval_in_set.Goals as goal

pub returns-clause-value : goal.returns-clause-value
returns-clause-value c =
    let around = c.stops_around-around.ensures.around in
    let named : definition.names c.args.prop c.args.frames.now ≡ true =
    sym (c.has_stops.ensures (share_as c.args.at) (definition.stops_of c.args.prop c.args.frames.now) around) ∙ c.if-not-has_stops.false in
    ap Some c.between.ensures.value
    ∙ sym (ap (option_map with_frac) (interval_of-named c.args.frames.now c.args.prop c.args.own c.args.easing (share_as c.args.at)
    c.stops_around-around.result (stop_as c.first_stop-first.result) (stop_as c.second_stop-second.result)
    named around c.first_stop-first.ensures.value c.second_stop-second.ensures.value))
