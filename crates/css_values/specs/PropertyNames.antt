-- The names of the properties.
use Rattle.std.specs.Prelude.{ℕ, List, [], ◌∷◌, codes}
use Rattle.css_values.specs.declared.types.Property.{Property}
use Rattle.css_values.specs.declared.types.Property.TheVariants as properties

unfoldable pub property_names : List (List ℕ × Property)
property_names =
    (codes "position", properties.Position) ∷ (codes "left", properties.Left) ∷ (codes "top", properties.Top) ∷ (codes "width", properties.Width)
    ∷ (codes "height", properties.Height) ∷ (codes "background-color", properties.BackgroundColor) ∷ (codes "background", properties.Background)
    ∷ (codes "opacity", properties.Opacity) ∷ (codes "visibility", properties.Visibility) ∷ (codes "z-index", properties.ZIndex)
    ∷ (codes "margin", properties.Margin) ∷ (codes "padding", properties.Padding) ∷ (codes "animation-name", properties.AnimationName)
    ∷ (codes "animation-duration", properties.AnimationDuration) ∷ (codes "animation-delay", properties.AnimationDelay)
    ∷ (codes "animation-timing-function", properties.AnimationTimingFunction)
    ∷ (codes "animation-iteration-count", properties.AnimationIterationCount) ∷ (codes "animation-direction", properties.AnimationDirection)
    ∷ (codes "animation-fill-mode", properties.AnimationFillMode) ∷ (codes "animation-play-state", properties.AnimationPlayState)
    ∷ (codes "animation", properties.Animation) ∷ []
