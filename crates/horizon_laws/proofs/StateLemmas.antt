-- A layer's course depends on the progress of its animations alone, so behind the settled frame its state repeats.
use Rattle.std.proofs.Common.{◌≡◌, ℕ, zero, suc, ◌+◌, ◌≤◌, List, [], ◌∷◌, ◌++◌, length, refl, ap, subst, sym}
use Rattle.std.specs.Prelude.{◌↔◌, pos, Bool, true, false, Option, Some, All, filter_map, slice_get, slice_index_or, option_and_then, if◌then◌else◌}
use Rattle.std.specs.List.{items_where_true}
use Rattle.std.proofs.lemmas.List.Elements.{All-head, All-tail, All-take, All-drop}
use Rattle.std.proofs.Math.Seq.{take-append_seam, drop-append_seam}
use Rattle.page_model.specs.declared.setup.Setup.{Setup}
use Rattle.page_model.specs.declared.animation.Anim.{Anim}
use Rattle.page_model.specs.declared.keyframe.KeyframeSet.{KeyframeSet}
use Rattle.page_model.specs.declared.property.Prop.{Prop}
use Rattle.page_model.specs.declared.property.Prop.TheVariants.{Background, Opacity, Visibility, Left, Top, Width, Height}
use Rattle.page_model.specs.declared.property.Value.{Value}
use Rattle.page_model.specs.declared.scene.Layer.{Layer}
use Rattle.page_model.specs.declared.scene.Scene.{Scene}
use Rattle.page_model.specs.Enclosure.{IsLooseChannelOn, IsLooseOn, IsLooseStateAt, IsSurelyShownWith, Kind, LooseState}
use Rattle.page_model.specs.Horizon.{IsHorizon, all_animations, animations_of}
use Rattle.page_model.specs.Keyframes.{Interval, interval_of, last_of}
use Rattle.page_model.specs.LayerAt.{still, State, IsChannelOn, IsShownWith, IsStateAt, IsValueOn, alpha_of, blue_of, course_by, course_of, cover_of, declared, green_of, interval_at, is_held, length_of, red_of}
use Rattle.page_model.specs.Progress.{progress_of}
use Rattle.page_model.specs.Slot.{alpha, cover, extent, position}
use Rattle.page_model.specs.Time.{HasFrames}
use Rattle.horizon_laws.proofs.RepeatLemmas.{repeats-together}
use Rattle.horizon_laws.specs.ForeverLaws.{LayerRepeats, StatesRepeat}

-- two parts of a list
front : (P : Anim → Type 0) (xs ys : List Anim) → All P (xs ++ ys) → All P xs
front P xs ys all = subst (All P) (take-append_seam xs ys) (All-take P (length xs) (xs ++ ys) all)

back : (P : Anim → Type 0) (xs ys : List Anim) → All P (xs ++ ys) → All P ys
back P xs ys all = subst (All P) (drop-append_seam xs ys) (All-drop P (length xs) (xs ++ ys) all)

-- what holds of all animations of some layers holds of those of each
of_layer : (P : Anim → Type 0) (layers : List Layer) (number : ℕ) (layer : Layer) → All P (animations_of layers) → slice_get layers number ≡ Some layer → All P layer.anims
of_layer P [] number layer all there = cc
of_layer P (first ∷ rest) zero layer all there =
    let same : first ≡ layer = cc in
    subst (λ (x : Layer). All P x.anims) same (front P first.anims (animations_of rest) all)
of_layer P (first ∷ rest) (suc number) layer all there =
    of_layer P rest number layer (back P first.anims (animations_of rest) all) there

-- an animation has the same interval where it has the same progress
interval-same :
    (sets : List KeyframeSet) (setup : Setup) (frame other : ℕ) (prop : Prop) (own : Value) (anim : Anim)
    → progress_of setup anim frame ≡ progress_of setup anim other
    → interval_at sets setup frame prop own anim ≡ interval_at sets setup other prop own anim
interval-same sets setup frame other prop own anim e =
    ap (λ x. option_and_then (λ (set : KeyframeSet). option_and_then (interval_of set.frames prop own anim.easing) x) (slice_get sets anim.set)) e

pub filtered : (f g : Anim → Option Interval) (xs : List Anim) → All (λ (x : Anim). f x ≡ g x) xs → filter_map f xs ≡ filter_map g xs
filtered f g [] all = refl
filtered f g (x ∷ xs) all =
    let here : f x ≡ g x = All-head (λ (y : Anim). f y ≡ g y) x xs all in
    let rest = filtered f g xs (All-tail (λ (y : Anim). f y ≡ g y) x xs all) in
    cc

-- a layer has the same course where each of its animations has the same progress
course-same :
    (scene : Scene) (setup : Setup) (frame other : ℕ) (layer : Layer) (prop : Prop)
    → All (λ (anim : Anim). progress_of setup anim frame ≡ progress_of setup anim other) layer.anims
    → course_of scene setup frame layer prop ≡ course_of scene setup other layer prop
course-same scene setup frame other layer prop all =
    let own = declared layer prop in
    ap (λ xs. if is_held layer.important prop then still own else course_by own (last_of xs))
    (filtered (interval_at scene.sets setup frame prop own) (interval_at scene.sets setup other prop own) layer.anims
    (λ k d below. interval-same scene.sets setup frame other prop own (slice_index_or layer.anims k d) (all k d below)))

-- and so the same state, exactly and by each kind
state-carries :
    (scene : Scene) (setup : Setup) (frame other : ℕ) (layer : Layer) (state : State)
    → ((prop : Prop) → course_of scene setup frame layer prop ≡ course_of scene setup other layer prop)
    → IsStateAt scene setup frame layer state → IsStateAt scene setup other layer state
state-carries scene setup frame other layer state same is = record {
  is_red = subst (λ x. IsChannelOn red_of x (pos state.red)) (same Background) is.is_red;
  is_green = subst (λ x. IsChannelOn green_of x (pos state.green)) (same Background) is.is_green;
  is_blue = subst (λ x. IsChannelOn blue_of x (pos state.blue)) (same Background) is.is_blue;
  is_cover = subst (λ x. IsValueOn cover cover_of x (pos state.cover)) (same Background) is.is_cover;
  is_alpha = subst (λ x. IsValueOn alpha alpha_of x (pos state.alpha)) (same Opacity) is.is_alpha;
  is_shown = subst (λ x. IsShownWith layer.colour x state.shown) (same Visibility) is.is_shown;
  is_left = subst (λ x. IsValueOn position length_of x state.left) (same Left) is.is_left;
  is_top = subst (λ x. IsValueOn position length_of x state.top) (same Top) is.is_top;
  is_width = subst (λ x. IsValueOn extent length_of x state.width) (same Width) is.is_width;
  is_height = subst (λ x. IsValueOn extent length_of x state.height) (same Height) is.is_height;
}

loose_state-carries :
    (kind : Kind) (scene : Scene) (setup : Setup) (frame other : ℕ) (layer : Layer) (state : LooseState)
    → ((prop : Prop) → course_of scene setup frame layer prop ≡ course_of scene setup other layer prop)
    → IsLooseStateAt kind scene setup frame layer state → IsLooseStateAt kind scene setup other layer state
loose_state-carries kind scene setup frame other layer state same is = record {
  is_red = subst (λ x. IsLooseChannelOn kind red_of x state.red) (same Background) is.is_red;
  is_green = subst (λ x. IsLooseChannelOn kind green_of x state.green) (same Background) is.is_green;
  is_blue = subst (λ x. IsLooseChannelOn kind blue_of x state.blue) (same Background) is.is_blue;
  is_cover = subst (λ x. IsLooseOn kind cover cover_of x state.cover) (same Background) is.is_cover;
  is_alpha = subst (λ x. IsLooseOn kind alpha alpha_of x state.alpha) (same Opacity) is.is_alpha;
  is_shown = subst (λ x. IsSurelyShownWith kind layer.colour x state.shown) (same Visibility) is.is_shown;
  is_left = subst (λ x. IsLooseOn kind position length_of x state.left) (same Left) is.is_left;
  is_top = subst (λ x. IsLooseOn kind position length_of x state.top) (same Top) is.is_top;
  is_width = subst (λ x. IsLooseOn kind extent length_of x state.width) (same Width) is.is_width;
  is_height = subst (λ x. IsLooseOn kind extent length_of x state.height) (same Height) is.is_height;
}

-- behind the settled frame each layer's courses repeat
pub courses-repeat :
    (scene : Scene) (setup : Setup) (settled period frame number : ℕ) (layer : Layer) → HasFrames setup
    → IsHorizon setup (all_animations scene) settled period → settled ≤ frame → slice_get scene.layers number ≡ Some layer
    → (prop : Prop) → course_of scene setup (frame + period) layer prop ≡ course_of scene setup frame layer prop
courses-repeat scene setup settled period frame number layer rate horizon later there prop =
    course-same scene setup (frame + period) frame layer prop
    (of_layer (λ (anim : Anim). progress_of setup anim (frame + period) ≡ progress_of setup anim frame) scene.layers number layer
    (repeats-together setup (all_animations scene) settled period frame rate horizon later) there)

pub state-repeats :
    (scene : Scene) (setup : Setup) (settled period frame number : ℕ) (layer : Layer) (state : State) → HasFrames setup
    → IsHorizon setup (all_animations scene) settled period → settled ≤ frame → slice_get scene.layers number ≡ Some layer
    → (IsStateAt scene setup (frame + period) layer state ↔ IsStateAt scene setup frame layer state)
state-repeats scene setup settled period frame number layer state rate horizon later there =
    let same = courses-repeat scene setup settled period frame number layer rate horizon later there in (
      state-carries scene setup (frame + period) frame layer state same,
      state-carries scene setup frame (frame + period) layer state (λ prop. sym (same prop)),
    )

pub loose_state-repeats :
    (kind : Kind) (scene : Scene) (setup : Setup) (settled period frame number : ℕ) (layer : Layer) (state : LooseState)
    → HasFrames setup → IsHorizon setup (all_animations scene) settled period → settled ≤ frame
    → slice_get scene.layers number ≡ Some layer
    → (IsLooseStateAt kind scene setup (frame + period) layer state ↔ IsLooseStateAt kind scene setup frame layer state)
loose_state-repeats kind scene setup settled period frame number layer state rate horizon later there =
    let same = courses-repeat scene setup settled period frame number layer rate horizon later there in (
      loose_state-carries kind scene setup (frame + period) frame layer state same,
      loose_state-carries kind scene setup frame (frame + period) layer state (λ prop. sym (same prop)),
    )

-- so does a layer each of whose animations repeats
layer-by :
    (scene : Scene) (setup : Setup) (settled period : ℕ) (layer : Layer)
    → ((frame : ℕ) → settled ≤ frame → All (λ (anim : Anim). progress_of setup anim (frame + period) ≡ progress_of setup anim frame) layer.anims)
    → LayerRepeats scene setup layer settled period
layer-by scene setup settled period layer repeat kind frame state later =
    let same = λ (prop : Prop). course-same scene setup (frame + period) frame layer prop (repeat frame later) in (
      loose_state-carries kind scene setup (frame + period) frame layer state same,
      loose_state-carries kind scene setup frame (frame + period) layer state (λ prop. sym (same prop)),
    )

-- behind the settled frame of its own animations
pub layer-repeats :
    (scene : Scene) (setup : Setup) (settled period : ℕ) (layer : Layer) → HasFrames setup → IsHorizon setup layer.anims settled period
    → LayerRepeats scene setup layer settled period
layer-repeats scene setup settled period layer rate horizon =
    layer-by scene setup settled period layer (λ frame later. repeats-together setup layer.anims settled period frame rate horizon later)

-- what holds of all animations of the marked layers holds of those of each
pub of_marked : (P : Anim → Type 0) (marks : List Bool) (layers : List Layer) (number : ℕ) (layer : Layer)
    → All P (animations_of (items_where_true marks layers)) → slice_get marks number ≡ Some true → slice_get layers number ≡ Some layer
    → All P layer.anims
of_marked P [] layers number layer all marked there = cc
of_marked P (mark ∷ marks) [] number layer all marked there = cc
of_marked P (true ∷ marks) (first ∷ rest) zero layer all marked there =
    let same : first ≡ layer = cc in
    subst (λ (x : Layer). All P x.anims) same (front P first.anims (animations_of (items_where_true marks rest)) all)
of_marked P (false ∷ marks) (first ∷ rest) zero layer all marked there = absurd (cc)
of_marked P (true ∷ marks) (first ∷ rest) (suc number) layer all marked there =
    of_marked P marks rest number layer (back P first.anims (animations_of (items_where_true marks rest)) all) marked there
of_marked P (false ∷ marks) (first ∷ rest) (suc number) layer all marked there = of_marked P marks rest number layer all marked there

-- and behind that of the marked layers, which it is one of
pub among-repeats :
    (scene : Scene) (setup : Setup) (settled period number : ℕ) (marks : List Bool) (layer : Layer) → HasFrames setup
    → IsHorizon setup (animations_of (items_where_true marks scene.layers)) settled period → slice_get marks number ≡ Some true
    → slice_get scene.layers number ≡ Some layer → LayerRepeats scene setup layer settled period
among-repeats scene setup settled period number marks layer rate horizon marked there =
    let chosen = animations_of (items_where_true marks scene.layers) in
    layer-by scene setup settled period layer (λ frame later.
    of_marked (λ (anim : Anim). progress_of setup anim (frame + period) ≡ progress_of setup anim frame) marks scene.layers number layer
    (repeats-together setup chosen settled period frame rate horizon later) marked there)

pub states-repeat : StatesRepeat
states-repeat = record { exactly = state-repeats; loosely = loose_state-repeats; alone = layer-repeats; among = among-repeats }
