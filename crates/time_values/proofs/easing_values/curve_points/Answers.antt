-- The points compute.
use Rattle.std.proofs.Common.{refl}
use Rattle.std.proofs.Common.{rules}
use Rattle.page_model.specs.Curve.{point_of}
use Rattle.page_model.specs.Least.{greatest_up_to}
use Rattle.time_values.proofs.easing_values.curve_points.Goals as goal

pub returns : goal.returns
unfolding point_of greatest_up_to
returns c = record {
  ease_column = refl;
  ease_height = refl;
  ease_quarter_column = refl;
  ease_quarter_height = refl;
  symmetric_column = refl;
  half_at_two = refl;
  half_at_four = refl;
  half_at_sixteen = refl;
  reaches_a_half = search rules;
}
