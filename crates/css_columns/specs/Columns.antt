-- The eight longhands of the shorthand, in the order of the variants of Longhand.
use Rattle.std.specs.Prelude.{List, [], ◌∷◌, map}
use Rattle.page_model.specs.declared.rule.Longhand.{Longhand}
use Rattle.page_model.specs.declared.rule.Longhand.TheVariants as longhands
use Rattle.css_columns.specs.declared.item.Shorthand.{Shorthand}

-- the eight longhands of the shorthand, each with its part of each item
abbrev pub columns : List Shorthand → List Longhand
columns items =
    longhands.Names (map (λ (i : Shorthand). i.name) items) ∷ longhands.Durations (map (λ (i : Shorthand). i.duration) items)
    ∷ longhands.Easings (map (λ (i : Shorthand). i.easing) items) ∷ longhands.Delays (map (λ (i : Shorthand). i.delay) items)
    ∷ longhands.Counts (map (λ (i : Shorthand). i.count) items) ∷ longhands.Directions (map (λ (i : Shorthand). i.direction) items)
    ∷ longhands.Fills (map (λ (i : Shorthand). i.fill) items) ∷ longhands.Paused (map (λ (i : Shorthand). i.paused) items) ∷ []
