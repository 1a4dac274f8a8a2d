-- The interval of a property is computed by two filters, and is the one that stands between the last stop that is reached and the next.
use Rattle.std.specs.Prelude.{◌≡◌, ◌↔◌, List, Some, IsSome, IsTrue}
use Rattle.page_model.specs.declared.easing.Easing.{Easing}
use Rattle.page_model.specs.declared.keyframe.Keyframe.{Keyframe}
use Rattle.page_model.specs.declared.keyframe.KeyframeSet.{KeyframeSet}
use Rattle.page_model.specs.declared.property.Prop.{Prop}
use Rattle.page_model.specs.declared.property.Value.{Value}
use Rattle.page_model.specs.Fraction.{Fraction}
use Rattle.page_model.specs.Keyframes.{Interval, IsInterval, interval_of, names, stops_of, whole}
use Rattle.page_model.specs.ValidScene.{IsSet}
use Rattle.fraction_laws.specs.FractionLaws.{IsPart}

-- a set that names a property has an interval of it, at each progress
abbrev pub IntervalExists : Type 0
IntervalExists =
    (frames : List Keyframe) (prop : Prop) (own : Value) (easing : Easing) (at : Fraction) → IsPart at → IsTrue (names prop frames)
    → IsSome (interval_of frames prop own easing at)

-- in a keyframe set of a scene it is the interval of the stops, and there is no other
abbrev pub IntervalIsComputed : Type 0
IntervalIsComputed =
    (set : KeyframeSet) (prop : Prop) (own : Value) (easing : Easing) (at : Fraction) (interval : Interval) → IsSet set
    → IsTrue (names prop set.frames)
    → (interval_of set.frames prop own easing at ≡ Some interval ↔ IsInterval easing at (whole own (stops_of prop set.frames)) interval)
