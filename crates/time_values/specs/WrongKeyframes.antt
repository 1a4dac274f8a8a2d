-- A wrong definition, which nothing but a law cites: the easing of an interval is that of the later of its two keyframes.
use Rattle.std.specs.Prelude.{Option, None, List, filter, option_map, option_and_then, unwrap_or, not, if◌then◌else◌}
use Rattle.page_model.specs.declared.easing.Easing.{Easing}
use Rattle.page_model.specs.declared.keyframe.Keyframe.{Keyframe}
use Rattle.page_model.specs.declared.property.Prop.{Prop}
use Rattle.page_model.specs.declared.property.Value.{Value}
use Rattle.page_model.specs.Fraction.{Fraction}
use Rattle.page_model.specs.Keyframes.{Interval, Stop, distance, first_of, last_of, is_reached, names, stops_of, whole}

abbrev between_by_later : Easing → Fraction → Stop → Stop → Interval
between_by_later easing at first second = record {
  from = first.value;
  to = second.value;
  easing = unwrap_or second.easing easing;
  distance = distance first.offset second.offset at;
}

abbrev in_by_later : Easing → Fraction → List Stop → Option Interval
in_by_later easing at stops =
    option_and_then
    (λ first. option_map (between_by_later easing at first) (first_of (filter (λ stop. not (is_reached at stop)) stops)))
    (last_of (filter (is_reached at) stops))

abbrev pub interval_by_later : List Keyframe → Prop → Value → Easing → Fraction → Option Interval
interval_by_later frames prop own easing at =
    if names prop frames then in_by_later easing at (whole own (stops_of prop frames)) else None
