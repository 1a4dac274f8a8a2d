-- The properties of the settings passed.
use Rattle.std.proofs.Common.{◌≡◌, ◌||◌, take}
use Rattle.std.specs.List.{list_any}
use Rattle.page_model.specs.declared.property.Prop.{Prop}
use Rattle.page_model.specs.declared.property.Setting.{Setting}
use Rattle.page_model.specs.Keyframes.{is_same}
use Rattle.layer_ways.specs.Named.{is_named}
use Rattle.layer_ways.proofs.named.add_settings.Given as goal

abbrev pub invariant-loop-setting : goal.invariant-loop-setting
invariant-loop-setting l =
    (other : Prop) → is_named l.named other
    ≡ (is_named l.initial.named other || list_any (λ (setting : Setting). is_same setting.prop other) (take l.setting-index l.values))
