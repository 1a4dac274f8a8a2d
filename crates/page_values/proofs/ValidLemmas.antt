-- The scene of the example is a valid one: its numbers are in their limits.
use Rattle.std.proofs.Common.{◌≡◌, ℕ, zero, suc, ◌≤◌, [], ◌∷◌, false, arith, rules, subst}
use Rattle.std.specs.Prelude.{Some, IsSome, slice_get}
use Rattle.std.proofs.lemmas.List.Elements.{All-nil, All-cons}
use Rattle.page_model.specs.declared.scene.Layer.{Layer}
use Rattle.page_model.specs.ValidScene.{IsBody, IsLayer, IsValid}
use Rattle.page_values.specs.Colours.{opaque_grey}
use Rattle.page_values.specs.PageValues.{the_box, the_scene}
use Rattle.page_values.specs.SceneValues.{body}
use Rattle.page_values.proofs.PageLemmas.{order}

abbrev the_body : Layer
the_body = body (Some (opaque_grey 2)) false []

body_layer : IsLayer 0 the_body
body_layer = search rules

box_layer : IsLayer 0 the_box
box_layer = search rules

is_body : IsBody [] the_body
is_body = search rules

body_at : (layer : Layer) → slice_get the_scene.layers 0 ≡ Some layer → IsBody the_scene.sets layer
body_at layer there = let same : the_body ≡ layer = cc in subst (IsBody []) same is_body

box_at : (number : ℕ) (box : Layer) → 1 ≤ number → slice_get the_scene.layers number ≡ Some box → IsSome box.colour
box_at zero box some there = absurd (omega arith)
box_at (suc zero) box some there =
    let same : the_box ≡ box = cc in
    subst (λ (x : Layer). IsSome x.colour) same (search rules)
box_at (suc (suc number)) box some there = cc

pub valid_is : IsValid the_scene
valid_is = record {
  some_layer = omega arith;
  few_layers = omega arith;
  layers = All-cons (IsLayer 0) the_body (the_box ∷ []) body_layer (All-cons (IsLayer 0) the_box [] box_layer (All-nil (IsLayer 0)));
  body = body_at;
  boxes = box_at;
  order = order;
  sets = search rules;
}
