-- Some keyframe has a stop exactly where there are stops.
use Rattle.std.proofs.Common.{◌∙◌, ap, is_some}
use Rattle.std.specs.List.{list_any}
use Rattle.page_model.specs.Keyframes.{stop_of}
use Rattle.keyframe_sets.proofs.StopLemmas.{filter_map-some}
use Rattle.keyframe_sets.proofs.stops.names.Goals as goal

pub returns : goal.returns
returns c =
    c.some_names.ensures
    ∙ ap (list_any (λ frame. is_some (stop_of c.args.prop frame))) c.as_slice.ensures
    ∙ filter_map-some (stop_of c.args.prop) c.args.set.now.frames
