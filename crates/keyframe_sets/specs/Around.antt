-- The stops next to a progress: the last that is reached and the first that isn't.
use Rattle.std.specs.Prelude.{List, Bool, true, false, not, ◌≡◌, ◌≤◌, filter, option_map, IfSome}
use Rattle.page_model.specs.Fraction.{Fraction}
use Rattle.page_model.specs.Keyframes as definition
use Rattle.keyframe_sets.specs.declared.around.Around.{Around}
use Rattle.keyframe_sets.specs.declared.stops.Stop.{Stop}
use Rattle.keyframe_sets.specs.Views.{stop_as}

-- a stop isn't reached
abbrev pub is_ahead : Fraction → definition.Stop → Bool
is_ahead at stop = not (definition.is_reached at stop)

pub record IsAround (at : Fraction) (stops : List definition.Stop) (around : Around) : Type 0 where
  pub reached : option_map stop_as around.reached ≡ definition.last_of (filter (definition.is_reached at) stops)
  pub ahead : option_map stop_as around.ahead ≡ definition.first_of (filter (is_ahead at) stops)

-- a stop lies at most at 100%
abbrev pub IsInside : Stop → Type 0
IsInside stop = stop.offset ≤ 10000

-- each lies on its side of the progress, and none past 100%
pub record AreApart (at : Fraction) (around : Around) : Type 0 where
  pub reached : IfSome around.reached (λ stop. definition.is_reached at (stop_as stop) ≡ true)
  pub ahead : IfSome around.ahead (λ stop. definition.is_reached at (stop_as stop) ≡ false)
  pub inside : IfSome around.ahead IsInside
