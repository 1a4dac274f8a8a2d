-- The code's own types as the definitions have them, and the definition's interval as callers have it.
use Rattle.page_model.specs.Fraction.{Fraction}
use Rattle.page_model.specs.Keyframes as definition
use Rattle.fix_span.specs.Frac.{frac_of}
use Rattle.keyframe_sets.specs.declared.share.Share.{Share}
use Rattle.keyframe_sets.specs.declared.stops.Stop.{Stop}
use Rattle.keyframe_sets.specs.declared.types.Interval.{Interval}

abbrev pub share_as : Share → Fraction
share_as x = record { num = x.num; den = x.den }

abbrev pub stop_as : Stop → definition.Stop
stop_as stop = record { offset = stop.offset; value = stop.value; easing = stop.easing }

abbrev pub with_frac : definition.Interval → Interval
with_frac interval = record {
  from = interval.from;
  to = interval.to;
  easing = interval.easing;
  distance = frac_of interval.distance;
}
