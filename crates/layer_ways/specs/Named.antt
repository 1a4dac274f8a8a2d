-- Which properties the code takes for named, and which a keyframe sets.
use Rattle.std.specs.Prelude.{Bool, false, not, is_some, ◌&&◌, Option, slice_index_or}
use Rattle.std.specs.List.{list_any}
use Rattle.page_model.specs.declared.keyframe.Keyframe.{Keyframe}
use Rattle.page_model.specs.declared.property.Prop.{Prop}
use Rattle.page_model.specs.declared.property.Setting.{Setting}
use Rattle.page_model.specs.Keyframes.{is_same, number_of}
use Rattle.layer_ways.specs.declared.named.Named.{Named}

abbrev pub is_named : Named → Prop → Bool
is_named named prop = slice_index_or named.each (number_of prop) false

-- a keyframe has a setting of the property
abbrev pub is_set_by : Prop → Keyframe → Bool
is_set_by prop frame = list_any (λ (setting : Setting). is_same setting.prop prop) frame.values

-- a property is named and nothing was found for it
abbrev pub lacks : {X : Type 0} → Bool → Option X → Bool
lacks named found = named && not (is_some found)
