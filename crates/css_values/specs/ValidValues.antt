-- What holds of each value that is given, as a valid scene needs it: numbers in their limits, no empty list.
use Rattle.std.specs.Prelude.{◌≤◌}
use Rattle.page_model.specs.declared.rule.Longhand.{Longhand}
use Rattle.page_model.specs.declared.rule.Longhand.TheVariants.{Position, Left, Top, Width, Height, Colour, Opacity, Visibility, ZIndex, Margin, Padding, Names, Durations, Easings, Delays, Counts, Directions, Fills, Paused}
use Rattle.page_model.specs.ValidScene.{IsColour, IsPosition, IsExtent, IsEasing, IsCount}
use Rattle.css_quantities.specs.ValidQuantities.{IsTime, IsLevel}
use Rattle.css_items.specs.ValidItems.{AreItems, IsAny}

-- a longhand's value is in its limits
abbrev pub IsLonghand : Longhand → Type 0
IsLonghand Position = Unit {0}
IsLonghand (Left v) = IsPosition v
IsLonghand (Top v) = IsPosition v
IsLonghand (Width v) = IsExtent v
IsLonghand (Height v) = IsExtent v
IsLonghand (Colour c) = IsColour c
IsLonghand (Opacity thousandths) = thousandths ≤ 1000
IsLonghand (Visibility visible) = Unit {0}
IsLonghand (ZIndex v) = IsLevel v
IsLonghand Margin = Unit {0}
IsLonghand Padding = Unit {0}
IsLonghand (Names names) = AreItems IsAny names
IsLonghand (Durations durations) = AreItems (λ d. d ≤ 100000) durations
IsLonghand (Easings easings) = AreItems IsEasing easings
IsLonghand (Delays delays) = AreItems IsTime delays
IsLonghand (Counts counts) = AreItems IsCount counts
IsLonghand (Directions directions) = AreItems IsAny directions
IsLonghand (Fills fills) = AreItems IsAny fills
IsLonghand (Paused paused) = AreItems IsAny paused
