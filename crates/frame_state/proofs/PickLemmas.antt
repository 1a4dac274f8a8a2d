-- What there is in the end is what the ways of the courses make.
use Rattle.std.proofs.Common.{◌≡◌, ◌∙◌, ℕ, Bool, true, false, List, Option, None, Some, filter_map, option_map, if◌then◌else◌, ap, refl, subst}
use Rattle.page_model.specs.declared.animation.Anim.{Anim}
use Rattle.page_model.specs.declared.colour.Rgba.{Rgba}
use Rattle.page_model.specs.declared.property.Prop.{Prop}
use Rattle.page_model.specs.declared.property.Prop.TheVariants.{Background, Opacity, Visibility, Left, Top, Width, Height}
use Rattle.page_model.specs.declared.property.Value.{Value}
use Rattle.page_model.specs.declared.scene.Layer.{Layer}
use Rattle.page_model.specs.declared.scene.Scene.{Scene}
use Rattle.page_model.specs.declared.setup.Setup.{Setup}
use Rattle.page_model.specs.Enclosure.{LooseState, Sureness}
use Rattle.page_model.specs.Keyframes.{Interval, last_of}
use Rattle.page_model.specs.LayerAt.{course_by, course_of, declared, interval_at, is_held, still}
use Rattle.page_model.specs.Slot.{extent, position}
use Rattle.layer_ways.specs.declared.search.Edges.{Edges}
use Rattle.layer_ways.specs.declared.search.Look.{Look}
use Rattle.layer_ways.specs.Found.{ForEdges, ForLook, alpha_by, edge_as, fill_as, fill_by, is_found, last_made, pixels_by}
use Rattle.layer_ways.specs.Ways.{Way, eased_way, shown_by, stays, sureness_of, way_of}
use Rattle.frame_state.specs.Picked.{if_coloured, pick, place_found, state_found}
use Rattle.frame_state.specs.Places.{LoosePlace, place_in}
use Rattle.frame_state.specs.States.{state_by, sure_with}

-- the ways of a layer's courses
abbrev pub course_way : Scene → Setup → ℕ → Layer → Prop → Way
course_way scene setup frame layer prop = way_of (course_of scene setup frame layer prop)

-- what is picked is made of the course's way
pick-is : {X : Type 0} (make : Way → X) (held : Bool) (base : Value) (found : Option Interval)
    → pick held (make (stays base)) (option_map make (option_map eased_way found)) ≡ make (way_of (if held then still base else course_by base found))
pick-is make true base found = refl
pick-is make false base None = refl
pick-is make false base (Some interval) = refl

picked : {X : Type 0} (make : Way → X) (scene : Scene) (setup : Setup) (frame : ℕ) (layer : Layer) (prop : Prop) (found : Option X)
    → found ≡ last_made make scene setup frame layer layer.anims prop
    → pick (is_held layer.important prop) (make (stays (declared layer prop))) found ≡ make (course_way scene setup frame layer prop)
picked make scene setup frame layer prop found is =
    ap (pick (is_held layer.important prop) (make (stays (declared layer prop)))) is
    ∙ pick-is make (is_held layer.important prop) (declared layer prop)
    (last_of (filter_map (interval_at scene.sets setup frame prop (declared layer prop)) layer.anims))

pub place-made : (scene : Scene) (setup : Setup) (frame : ℕ) (layer : Layer) (edges : Edges)
    → ForEdges (is_found scene setup frame layer layer.anims) edges edges
    → place_found layer edges ≡ place_in (state_by layer (course_way scene setup frame layer))
place-made scene setup frame layer edges so =
    let left = picked (pixels_by position) scene setup frame layer Left (edge_as edges.left) so.left in
    let top = picked (pixels_by position) scene setup frame layer Top (edge_as edges.top) so.top in
    let width = picked (pixels_by extent) scene setup frame layer Width (edge_as edges.width) so.width in
    let height = picked (pixels_by extent) scene setup frame layer Height (edge_as edges.height) so.height in
    λ i. record { left = left i; top = top i; width = width i; height = height i }

coloured-is : (colour : Option Rgba) (shown : Sureness) (way : Way) → shown ≡ shown_by way → if_coloured colour shown ≡ sure_with colour way
coloured-is None shown way is = refl
coloured-is (Some c) shown way is = is

pub state-made : (scene : Scene) (setup : Setup) (frame : ℕ) (layer : Layer) (edges : Edges) (look : Look)
    → ForEdges (is_found scene setup frame layer layer.anims) edges edges → ForLook (is_found scene setup frame layer layer.anims) look look
    → state_found layer edges look ≡ state_by layer (course_way scene setup frame layer)
state-made scene setup frame layer edges look so seen =
    let place = place-made scene setup frame layer edges so in
    let fill = picked fill_by scene setup frame layer Background (option_map fill_as look.fill) seen.fill in
    let opaque = picked alpha_by scene setup frame layer Opacity (edge_as look.alpha) seen.alpha in
    let visible = picked shown_by scene setup frame layer Visibility (option_map sureness_of look.shown) seen.shown in
    let shown = coloured-is layer.colour _ (course_way scene setup frame layer Visibility) visible in
    λ i. record {
      red = (fill i).red;
      green = (fill i).green;
      blue = (fill i).blue;
      cover = (fill i).cover;
      alpha = opaque i;
      shown = shown i;
      left = (place i).left;
      top = (place i).top;
      width = (place i).width;
      height = (place i).height;
    }

-- by the animations of the layer that was read
pub place-read : (scene : Scene) (setup : Setup) (frame : ℕ) (layer element : Layer) (anims : List Anim) (edges : Edges) (place : LoosePlace)
    → element ≡ layer → anims ≡ element.anims → ForEdges (is_found scene setup frame layer anims) edges edges
    → place ≡ place_found element edges → place ≡ place_in (state_by layer (course_way scene setup frame layer))
place-read scene setup frame layer element anims edges place same mine so is =
    let mine' : anims ≡ layer.anims = mine ∙ ap (λ (l : Layer). l.anims) same in
    is ∙ ap (λ (l : Layer). place_found l edges) same
    ∙ place-made scene setup frame layer edges (subst (λ (xs : List Anim). ForEdges (is_found scene setup frame layer xs) edges edges) mine' so)

pub state-read : (scene : Scene) (setup : Setup) (frame : ℕ) (layer element : Layer) (anims : List Anim) (edges : Edges) (look : Look)
    (state : LooseState) → element ≡ layer → anims ≡ element.anims → ForEdges (is_found scene setup frame layer anims) edges edges
    → ForLook (is_found scene setup frame layer anims) look look → state ≡ state_found element edges look
    → state ≡ state_by layer (course_way scene setup frame layer)
state-read scene setup frame layer element anims edges look state same mine so seen is =
    let mine' : anims ≡ layer.anims = mine ∙ ap (λ (l : Layer). l.anims) same in
    is ∙ ap (λ (l : Layer). state_found l edges look) same
    ∙ state-made scene setup frame layer edges look
    (subst (λ (xs : List Anim). ForEdges (is_found scene setup frame layer xs) edges edges) mine' so)
    (subst (λ (xs : List Anim). ForLook (is_found scene setup frame layer xs) look look) mine' seen)
