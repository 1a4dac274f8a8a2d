-- The words for directions, fill modes, play states and visibilities, and those that name no keyframe set.
use Rattle.std.specs.Prelude.{ℕ, Bool, true, false, List, [], ◌∷◌, codes}
use Rattle.page_model.specs.declared.animation.Direction.{Direction}
use Rattle.page_model.specs.declared.animation.Direction.TheVariants as directions
use Rattle.page_model.specs.declared.animation.Fill.{Fill}
use Rattle.page_model.specs.declared.animation.Fill.TheVariants as fills

unfoldable pub direction_words : List (List ℕ × Direction)
direction_words =
    (codes "normal", directions.Normal) ∷ (codes "reverse", directions.Reverse) ∷ (codes "alternate", directions.Alternate)
    ∷ (codes "alternate-reverse", directions.AlternateReverse) ∷ []

unfoldable pub fill_words : List (List ℕ × Fill)
fill_words =
    (codes "none", fills.Absent) ∷ (codes "forwards", fills.Forwards) ∷ (codes "backwards", fills.Backwards) ∷ (codes "both", fills.Both) ∷ []

-- whether an animation is paused
unfoldable pub play_words : List (List ℕ × Bool)
play_words = (codes "running", false) ∷ (codes "paused", true) ∷ []

-- whether a box is visible
unfoldable pub visibility_words : List (List ℕ × Bool)
visibility_words = (codes "visible", true) ∷ (codes "hidden", false) ∷ []

-- words that name no keyframe set: CSS-wide keywords
unfoldable pub reserved_words : List (List ℕ × Bool)
reserved_words = (codes "initial", true) ∷ (codes "inherit", true) ∷ (codes "unset", true) ∷ (codes "revert", true) ∷ []
