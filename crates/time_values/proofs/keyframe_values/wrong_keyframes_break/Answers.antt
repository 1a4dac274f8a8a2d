-- The two easings differ in their number of steps.
use Rattle.std.proofs.Common.{◌≡◌, ℕ, refl, ap, arith}
use Rattle.std.specs.Prelude.{Option, option_map, unwrap_or}
use Rattle.page_model.specs.declared.easing.Easing.{Easing}
use Rattle.page_model.specs.declared.easing.Easing.TheVariants.{Linear, Steps, Cubic}
use Rattle.page_model.specs.Keyframes.{Interval}
use Rattle.time_values.proofs.keyframe_values.wrong_keyframes_break.Goals as goal

abbrev steps_of : Easing → ℕ
steps_of Linear = 0
steps_of (Steps count jump) = count
steps_of (Cubic x1 y1 x2 y2) = 0

abbrev steps_in : Option Interval → ℕ
steps_in interval = unwrap_or (option_map (λ (i : Interval). steps_of i.easing) interval) 0

pub returns : goal.returns
returns c = record {
  by_later = refl;
  breaks = λ edges. let same : 3 ≡ 2 = ap steps_in edges.between in omega arith;
}
