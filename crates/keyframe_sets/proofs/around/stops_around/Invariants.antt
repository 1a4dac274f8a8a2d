-- The stops seen are those of the keyframes passed.
use Rattle.std.proofs.Common.{take}
use Rattle.page_model.specs.Keyframes.{stops_of}
use Rattle.keyframe_sets.specs.Around.{IsAround, AreApart}
use Rattle.keyframe_sets.specs.Views.{share_as}
use Rattle.keyframe_sets.proofs.around.stops_around.Given as goal

abbrev pub invariant-loop-frame : goal.invariant-loop-frame
invariant-loop-frame l = record {
  around : IsAround (share_as l.at) (stops_of l.prop (take l.frame-index l.frames)) l.around;
  apart : AreApart (share_as l.at) l.around;
}
