-- The values of an interval are those of the keyframes or the element's own: so in a valid scene their colours have alphas of at most
-- 255,000.
use Rattle.std.proofs.Common.{◌≡◌, ℕ, IfSome, Option, Some, None, get_or, length, slice_get, option_and_then, unwrap_or, arith}
use Rattle.std.proofs.lemmas.Option.{option_and_then_some}
use Rattle.page_model.specs.declared.colour.Rgba.{Rgba}
use Rattle.page_model.specs.declared.keyframe.KeyframeSet.{KeyframeSet}
use Rattle.page_model.specs.declared.property.Prop.{Prop}
use Rattle.page_model.specs.declared.property.Prop.TheVariants.{Background, Opacity, Visibility, Left, Top, Width, Height}
use Rattle.page_model.specs.declared.property.Setting.{Setting}
use Rattle.page_model.specs.declared.property.Value.{Value}
use Rattle.page_model.specs.declared.property.Value.TheVariants as value
use Rattle.page_model.specs.declared.scene.Layer.{Layer}
use Rattle.page_model.specs.declared.scene.Scene.{Scene}
use Rattle.page_model.specs.Fraction.{Fraction}
use Rattle.page_model.specs.Keyframes.{Interval, interval_of}
use Rattle.page_model.specs.LayerAt.{declared}
use Rattle.page_model.specs.ValidScene.{IsColour, IsLayer, IsSetInUse, IsValid, IsValueOf}
use Rattle.keyframe_sets.specs.Here.{interval_by, interval_here}
use Rattle.layer_ways.specs.Alpha.{HasAlpha}
use Rattle.safety_laws.proofs.ValueLemmas.{AreValues, interval-values}
use Rattle.layer_ways.proofs.PlainLemmas.{All-slice_get}

-- a value in its limits has such an alpha
value-alpha : (prop : Prop) (v : Value) → IsValueOf prop v → HasAlpha v
value-alpha Background (value.Colour c) good = good.alpha
value-alpha Opacity (value.Colour c) good = absurd good
value-alpha Visibility (value.Colour c) good = absurd good
value-alpha Left (value.Colour c) good = absurd good
value-alpha Top (value.Colour c) good = absurd good
value-alpha Width (value.Colour c) good = absurd good
value-alpha Height (value.Colour c) good = absurd good
value-alpha prop (value.Opacity thousandths) good = omega arith
value-alpha prop (value.Shown visible) good = omega arith
value-alpha prop (value.Length hundredths) good = omega arith

pub own-alpha : (layer : Layer) (prop : Prop) → IfSome layer.colour IsColour → HasAlpha (declared layer prop)
own-alpha layer Background good = of_colour layer.colour good
  where
    of_colour : (colour : Option Rgba) → IfSome colour IsColour → HasAlpha (value.Colour (unwrap_or colour (record { r = 0; g = 0; b = 0; a = 0 })))
    of_colour None good = omega arith
    of_colour (Some c) good = good.alpha
own-alpha layer Opacity good = omega arith
own-alpha layer Visibility good = omega arith
own-alpha layer Left good = omega arith
own-alpha layer Top good = omega arith
own-alpha layer Width good = omega arith
own-alpha layer Height good = omega arith

pub interval-alpha : (scene : Scene) (number place : ℕ) (prop : Prop) (at : Fraction) (interval : Interval) → IsValid scene
    → interval_here scene number place prop at ≡ Some interval → AreValues HasAlpha interval
interval-alpha scene number place prop at interval valid e =
    option_and_then_some (λ (l : Layer). option_and_then (interval_by scene l prop at) (slice_get l.anims place)) (slice_get scene.layers number) interval e
    (λ layer layer_is of_layer.
    let good : IsLayer (length scene.sets) layer = All-slice_get (IsLayer (length scene.sets)) scene.layers number layer valid.layers layer_is in
    option_and_then_some (interval_by scene layer prop at) (slice_get layer.anims place) interval of_layer
    (λ anim anim_is of_anim.
    option_and_then_some (λ (set : KeyframeSet). interval_of set.frames prop (declared layer prop) anim.easing at) (slice_get scene.sets anim.set) interval of_anim
    (λ set set_is of_set.
    let in_use : IsSetInUse set = All-slice_get IsSetInUse scene.sets anim.set set valid.sets set_is in
    interval-values HasAlpha set.frames prop (declared layer prop) anim.easing at interval
    (λ k d within j setting inside same. let s : Setting = get_or (get_or set.frames k d).values j setting in
    value-alpha s.prop s.value ((in_use.is_set.frames k d within).values j setting inside))
    (own-alpha layer prop good.colour) of_set)))
