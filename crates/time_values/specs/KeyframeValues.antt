-- Intervals of two short lists of keyframes, as CSS Animations Level 1 has them. The one has only a keyframe at 50%; the other has
-- four, of which those at 25% and at 50% have easings of their own.
use Rattle.std.specs.Prelude.{ℕ, ℤ, pos, Option, Some, None, ◌≡◌, List, [], ◌∷◌}
use Rattle.page_model.specs.declared.easing.Easing.{Easing}
use Rattle.page_model.specs.declared.easing.Easing.TheVariants.{Linear, Steps}
use Rattle.page_model.specs.declared.easing.Jump.TheVariants.{Start, End}
use Rattle.page_model.specs.declared.keyframe.Keyframe.{Keyframe}
use Rattle.page_model.specs.declared.property.Prop.{Prop}
use Rattle.page_model.specs.declared.property.Prop.TheVariants.{Opacity, Left}
use Rattle.page_model.specs.declared.property.Value.{Value}
use Rattle.page_model.specs.declared.property.Value.TheVariants as value
use Rattle.page_model.specs.Fraction.{Fraction}
use Rattle.page_model.specs.Keyframes.{Interval, interval_of, stops_of, whole, IsInterval}
use Rattle.time_values.specs.Examples.{fraction}
use Rattle.time_values.specs.WrongKeyframes.{interval_by_later}

-- a keyframe with a left edge, in hundredths of a pixel
abbrev pub edge_at : ℕ → Option Easing → ℤ → Keyframe
edge_at offset easing left = record {
  offset = offset;
  easing = easing;
  values = record { prop = Left; value = value.Length left } ∷ [];
}

-- only a keyframe at 50%
abbrev pub middle_alone : List Keyframe
middle_alone = edge_at 5000 (Some (Steps 4 Start)) (pos 700) ∷ []

-- four keyframes
abbrev pub four_edges : List Keyframe
four_edges =
    edge_at 0 None (pos 0)
    ∷ (edge_at 2500 (Some (Steps 2 End)) (pos 100)
    ∷ (edge_at 5000 (Some (Steps 3 End)) (pos 200)
    ∷ (edge_at 10000 None (pos 300) ∷ [])))

-- a definition of the interval of a property
abbrev pub IntervalOf : Type 0
IntervalOf = List Keyframe → Prop → Value → Easing → Fraction → Option Interval

-- the interval of the left edge in a list, of an element at 4px with a linear animation, by a definition
abbrev pub edges_by : IntervalOf → List Keyframe → Fraction → Option Interval
edges_by intervals frames at = intervals frames Left (value.Length (pos 400)) Linear at

abbrev pub edges_at : List Keyframe → Fraction → Option Interval
edges_at frames at = edges_by interval_of frames at

abbrev pub edges : ℤ → ℤ → Easing → Fraction → Interval
edges from to easing distance =
    record { from = value.Length from; to = value.Length to; easing = easing; distance = distance }

-- a missing end is the element's own value, with the animation's easing
pub record MissingEnds : Type 0 where
  pub from_the_own_value : edges_at middle_alone (fraction 1 4) ≡ Some (edges (pos 400) (pos 700) Linear (fraction 10000 20000))
  pub to_the_own_value : edges_at middle_alone (fraction 3 4) ≡ Some (edges (pos 700) (pos 400) (Steps 4 Start) (fraction 10000 20000))
  pub not_named : interval_of middle_alone Opacity (value.Opacity 1000) Linear (fraction 1 4) ≡ None

-- from the last keyframe that is reached to the next, by the easing of the first of the two
pub record HasEdges (intervals : IntervalOf) : Type 0 where
  pub between : edges_by intervals four_edges (fraction 3 8) ≡ Some (edges (pos 100) (pos 200) (Steps 2 End) (fraction 10000 20000))
  pub right_at_one : edges_by intervals four_edges (fraction 1 2) ≡ Some (edges (pos 200) (pos 300) (Steps 3 End) (fraction 0 10000))
  pub at_the_start : edges_by intervals four_edges (fraction 0 1) ≡ Some (edges (pos 0) (pos 100) Linear (fraction 0 2500))
  pub at_the_end : edges_by intervals four_edges (fraction 1 1) ≡ Some (edges (pos 200) (pos 300) (Steps 3 End) (fraction 5000 5000))

abbrev pub LastReached : Type 0
LastReached = HasEdges interval_of

-- by the easing of the later keyframe, the edge would move on in three steps from 25% to 50%, and not in two
pub record WrongKeyframesBreak : Type 0 where
  pub by_later : edges_by interval_by_later four_edges (fraction 3 8) ≡ Some (edges (pos 100) (pos 200) (Steps 3 End) (fraction 10000 20000))
  pub breaks : HasEdges interval_by_later → ⊥

-- the relation holds of the same intervals
abbrev pub IsEdges : List Keyframe → Fraction → Interval → Type 0
IsEdges frames at interval = IsInterval Linear at (whole (value.Length (pos 400)) (stops_of Left frames)) interval

pub record RelationAgrees : Type 0 where
  pub missing_end : IsEdges middle_alone (fraction 1 4) (edges (pos 400) (pos 700) Linear (fraction 10000 20000))
  pub last_reached : IsEdges four_edges (fraction 1 2) (edges (pos 200) (pos 300) (Steps 3 End) (fraction 0 10000))
  pub at_the_end : IsEdges four_edges (fraction 1 1) (edges (pos 200) (pos 300) (Steps 3 End) (fraction 5000 5000))
