-- Values whose colours have an alpha in its limits.
use Rattle.std.specs.Prelude.{◌≤◌}
use Rattle.page_model.specs.declared.property.Value.{Value}
use Rattle.page_model.specs.LayerAt.{colour_in}

-- the alpha of a value's colour is at most 255,000 parts
abbrev pub HasAlpha : Value → Type 0
HasAlpha x = (colour_in x).a ≤ 255000
