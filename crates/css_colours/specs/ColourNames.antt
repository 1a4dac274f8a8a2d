-- The names of colours.
use Rattle.std.specs.Prelude.{ℕ, List, [], ◌∷◌, codes}
use Rattle.page_model.specs.declared.colour.Rgba.{Rgba}

-- an opaque colour
abbrev pub colour : ℕ → ℕ → ℕ → Rgba
colour red green blue = record { r = red; g = green; b = blue; a = 255000 }

-- black that isn't seen
abbrev pub unseen : Rgba
unseen = record { r = 0; g = 0; b = 0; a = 0 }

-- the sixteen names of colours that HTML 4 has, orange, and `transparent`
unfoldable pub colour_names : List (List ℕ × Rgba)
colour_names =
    (codes "aqua", colour 0 255 255) ∷ (codes "black", colour 0 0 0) ∷ (codes "blue", colour 0 0 255) ∷ (codes "fuchsia", colour 255 0 255)
    ∷ (codes "gray", colour 128 128 128) ∷ (codes "green", colour 0 128 0) ∷ (codes "lime", colour 0 255 0) ∷ (codes "maroon", colour 128 0 0)
    ∷ (codes "navy", colour 0 0 128) ∷ (codes "olive", colour 128 128 0) ∷ (codes "orange", colour 255 165 0) ∷ (codes "purple", colour 128 0 128)
    ∷ (codes "red", colour 255 0 0) ∷ (codes "silver", colour 192 192 192) ∷ (codes "teal", colour 0 128 128) ∷ (codes "transparent", unseen)
    ∷ (codes "white", colour 255 255 255) ∷ (codes "yellow", colour 255 255 0) ∷ []
