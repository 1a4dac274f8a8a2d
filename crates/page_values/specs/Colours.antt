-- Colours by which layers are painted, with their alpha in parts of 255,000.
use Rattle.std.specs.Prelude.{ℕ}
use Rattle.page_model.specs.declared.colour.Rgba.{Rgba}

abbrev pub rgba : ℕ → ℕ → ℕ → ℕ → Rgba
rgba r g b a = record { r = r; g = g; b = b; a = a }

abbrev pub opaque_grey : ℕ → Rgba
opaque_grey level = rgba level level level 255000
