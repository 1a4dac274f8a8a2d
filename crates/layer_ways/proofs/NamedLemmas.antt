-- The properties that some keyframes name, seen one keyframe and one setting after the other.
use Rattle.std.proofs.Common.{◌≡◌, ◌∙◌, Bool, List, [], ◌∷◌, Option, None, Some, find, is_some, option_map, ap, refl, sym, inl, inr}
use Rattle.std.specs.List.{list_any}
use Rattle.std.proofs.lemmas.Bool.{cases_Bool}
use Rattle.page_model.specs.declared.keyframe.Keyframe.{Keyframe}
use Rattle.page_model.specs.declared.property.Prop.{Prop}
use Rattle.page_model.specs.declared.property.Setting.{Setting}
use Rattle.page_model.specs.Keyframes.{is_same, names, stop_of, value_in}
use Rattle.keyframe_sets.proofs.StopLemmas.{filter_map-some}
use Rattle.layer_ways.specs.Named.{is_set_by}

-- a keyframe has a setting of a property exactly where there is a stop
mapped-some : {X Y : Type 0} (f : X → Y) (o : Option X) → is_some (option_map f o) ≡ is_some o
mapped-some f None = refl
mapped-some f (Some x) = refl

find-some : {X : Type 0} (test : X → Bool) (xs : List X) → list_any test xs ≡ is_some (find test xs)
find-some test [] = refl
find-some test (x ∷ xs) =
    elim (cases_Bool (test x)) [
      | inl passes ↦ rw passes refl
      | inr fails ↦ rw fails (find-some test xs)
    ]

set-stop : (prop : Prop) (frame : Keyframe) → is_set_by prop frame ≡ is_some (stop_of prop frame)
set-stop prop frame =
    let found = find (λ (setting : Setting). is_same setting.prop prop) frame.values in
    find-some (λ (setting : Setting). is_same setting.prop prop) frame.values
    ∙ sym (mapped-some _ (value_in prop frame.values) ∙ mapped-some (λ (setting : Setting). setting.value) found)

any-same : {X : Type 0} (p q : X → Bool) → ((x : X) → p x ≡ q x) → (xs : List X) → list_any p xs ≡ list_any q xs
any-same p q same xs = ap (λ test. list_any test xs) (λ i x. same x i)

pub named-is : (prop : Prop) (frames : List Keyframe) → list_any (is_set_by prop) frames ≡ names prop frames
named-is prop frames =
    any-same (is_set_by prop) (λ (frame : Keyframe). is_some (stop_of prop frame)) (set-stop prop) frames
    ∙ filter_map-some (stop_of prop) frames
