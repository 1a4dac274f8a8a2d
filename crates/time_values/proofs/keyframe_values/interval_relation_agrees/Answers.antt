-- The stops before the interval, its two ends and those behind it.
use Rattle.std.proofs.Common.{refl, ℕ, [], ◌∷◌, rules}
use Rattle.std.specs.Prelude.{ℤ, pos, Option, Some, None}
use Rattle.page_model.specs.declared.easing.Easing.{Easing}
use Rattle.page_model.specs.declared.easing.Easing.TheVariants.{Steps}
use Rattle.page_model.specs.declared.easing.Jump.TheVariants.{Start, End}
use Rattle.page_model.specs.declared.property.Value.TheVariants as value
use Rattle.page_model.specs.Keyframes.{Stop}
use Rattle.time_values.proofs.keyframe_values.interval_relation_agrees.Goals as goal

abbrev stop : ℕ → ℤ → Option Easing → Stop
stop offset left easing = record { offset = offset; value = value.Length left; easing = easing }

pub returns : goal.returns
returns c = record {
  missing_end = record {
    earlier = [];
    first = stop 0 (pos 400) None;
    second = stop 5000 (pos 700) (Some (Steps 4 Start));
    later = stop 10000 (pos 400) None ∷ [];
    stops_are = refl;
    reached = refl;
    ahead = search rules;
    interval_is = refl;
  };
  last_reached = record {
    earlier = stop 0 (pos 0) None ∷ (stop 2500 (pos 100) (Some (Steps 2 End)) ∷ []);
    first = stop 5000 (pos 200) (Some (Steps 3 End));
    second = stop 10000 (pos 300) None;
    later = [];
    stops_are = refl;
    reached = refl;
    ahead = search rules;
    interval_is = refl;
  };
  at_the_end = record {
    earlier = stop 0 (pos 0) None ∷ (stop 2500 (pos 100) (Some (Steps 2 End)) ∷ []);
    first = stop 5000 (pos 200) (Some (Steps 3 End));
    second = stop 10000 (pos 300) None;
    later = [];
    stops_are = refl;
    reached = refl;
    ahead = search rules;
    interval_is = refl;
  };
}
