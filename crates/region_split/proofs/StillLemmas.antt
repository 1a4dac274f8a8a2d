-- A layer that may not move stays where it is declared, and the body is such a layer, which begins and ends at 0.
use Rattle.std.proofs.Common.{ℕ, Bool, true, false, ◌≡◌, Option, Some, None, List, [], ◌∷◌, inl, inr, refl}
use Rattle.std.specs.Prelude.{slice_get, filter_map, find, ◌||◌, option_and_then}
use Rattle.std.specs.List.{All, list_any}
use Rattle.std.proofs.lemmas.Bool.{cases_Bool}
use Rattle.std.proofs.lemmas.List.Elements.{All-head, All-tail}
use Rattle.page_model.specs.declared.animation.Anim.{Anim}
use Rattle.page_model.specs.declared.keyframe.Keyframe.{Keyframe}
use Rattle.page_model.specs.declared.keyframe.KeyframeSet.{KeyframeSet}
use Rattle.page_model.specs.declared.property.Prop.{Prop}
use Rattle.page_model.specs.declared.property.Prop.TheVariants.{Background, Left, Top, Width, Height}
use Rattle.page_model.specs.declared.property.Setting.{Setting}
use Rattle.page_model.specs.declared.property.Value.{Value}
use Rattle.page_model.specs.declared.scene.Layer.{Layer}
use Rattle.page_model.specs.declared.scene.Scene.{Scene}
use Rattle.page_model.specs.declared.setup.Setup.{Setup}
use Rattle.page_model.specs.Fraction.{Fraction}
use Rattle.page_model.specs.Keyframes.{interval_of, is_same, names, stop_of, stops_of}
use Rattle.page_model.specs.LayerAt.{course_of, declared, interval_at, is_held, still}
use Rattle.page_model.specs.Progress.{progress_of}
use Rattle.page_model.specs.ValidScene.{IsBody, NamesBackgroundAlone}
use Rattle.region_split.specs.Moving.{may_move, moves, names_edge, some_names_edge}

-- a property that is a place or a size
pub data IsLength (prop : Prop) : Type 0 where
  is_left : prop ≡ Left → IsLength prop
  is_top : prop ≡ Top → IsLength prop
  is_width : prop ≡ Width → IsLength prop
  is_height : prop ≡ Height → IsLength prop

either-false : (a b : Bool) → (a || b) ≡ false → (a ≡ false) × (b ≡ false)
either-false true b e = absurd (cc)
either-false false b e = (refl, e)

-- a set that names no edge has no interval of one
unnamed : (set : KeyframeSet) (prop : Prop) → IsLength prop → names_edge set ≡ false → names prop set.frames ≡ false
unnamed set prop (is_left is) none = rw is (either-false (names Left set.frames) (names Top set.frames || (names Width set.frames || names Height set.frames)) none).0
unnamed set prop (is_top is) none =
    let rest = either-false (names Left set.frames) (names Top set.frames || (names Width set.frames || names Height set.frames)) none in
    rw is (either-false (names Top set.frames) (names Width set.frames || names Height set.frames) rest.1).0
unnamed set prop (is_width is) none =
    let rest = either-false (names Left set.frames) (names Top set.frames || (names Width set.frames || names Height set.frames)) none in
    let more = either-false (names Top set.frames) (names Width set.frames || names Height set.frames) rest.1 in
    rw is (either-false (names Width set.frames) (names Height set.frames) more.1).0
unnamed set prop (is_height is) none =
    let rest = either-false (names Left set.frames) (names Top set.frames || (names Width set.frames || names Height set.frames)) none in
    let more = either-false (names Top set.frames) (names Width set.frames || names Height set.frames) rest.1 in
    rw is (either-false (names Width set.frames) (names Height set.frames) more.1).1

no_interval : (set : KeyframeSet) (prop : Prop) (own : Value) (anim : Anim) (at : Option Fraction) → names prop set.frames ≡ false
    → option_and_then (interval_of set.frames prop own anim.easing) at ≡ None
no_interval set prop own anim None none = refl
no_interval set prop own anim (Some x) none = rw none refl

no_interval_at : (sets : List KeyframeSet) (setup : Setup) (frame : ℕ) (prop : Prop) (own : Value) (anim : Anim)
    (found : Option KeyframeSet) → slice_get sets anim.set ≡ found → IsLength prop → moves sets anim ≡ false
    → interval_at sets setup frame prop own anim ≡ None
no_interval_at sets setup frame prop own anim None is length none = rw is refl
no_interval_at sets setup frame prop own anim (Some set) is length none =
    rw is (no_interval set prop own anim (progress_of setup anim frame) (unnamed set prop length (rw is at none)))

no_intervals : (sets : List KeyframeSet) (setup : Setup) (frame : ℕ) (prop : Prop) (own : Value) (anims : List Anim)
    → IsLength prop → list_any (moves sets) anims ≡ false → filter_map (interval_at sets setup frame prop own) anims ≡ []
no_intervals sets setup frame prop own [] length none = refl
no_intervals sets setup frame prop own (anim ∷ rest) length none =
    let parts = either-false (moves sets anim) (list_any (moves sets) rest) none in
    let first : interval_at sets setup frame prop own anim ≡ None = no_interval_at sets setup frame prop own anim (slice_get sets anim.set) refl length parts.0 in
    rw first (no_intervals sets setup frame prop own rest length parts.1)

-- so the course of each length of a layer that may not move is its declared value
pub course-still : (scene : Scene) (setup : Setup) (frame : ℕ) (layer : Layer) (prop : Prop) → may_move scene.sets layer ≡ false
    → IsLength prop → course_of scene setup frame layer prop ≡ still (declared layer prop)
course-still scene setup frame layer prop quiet length =
    let none = no_intervals scene.sets setup frame prop (declared layer prop) layer.anims length quiet in
    elim (cases_Bool (is_held layer.important prop)) [
      | inl held ↦ rw held refl
      | inr free ↦ rw (free, none) refl
    ]

-- settings of another property alone have no value of a property, and keyframes of them no stop
abbrev AreOf : Prop → List Setting → Type 0
AreOf other values = All (λ (setting : Setting). setting.prop ≡ other) values

no_setting : (prop other : Prop) (values : List Setting) → is_same other prop ≡ false → AreOf other values
    → find (λ (setting : Setting). is_same setting.prop prop) values ≡ None
no_setting prop other [] apart all = refl
no_setting prop other (setting ∷ rest) apart all =
    let first : setting.prop ≡ other = All-head (λ (one : Setting). one.prop ≡ other) setting rest all in
    let none : is_same setting.prop prop ≡ false = rw first apart in
    rw none (no_setting prop other rest apart (All-tail (λ (one : Setting). one.prop ≡ other) setting rest all))

no_stops : (prop other : Prop) (frames : List Keyframe) → is_same other prop ≡ false
    → All (λ (frame : Keyframe). AreOf other frame.values) frames → stops_of prop frames ≡ []
no_stops prop other [] apart all = refl
no_stops prop other (frame ∷ rest) apart all =
    let none = no_setting prop other frame.values apart (All-head (λ (one : Keyframe). AreOf other one.values) frame rest all) in
    let first : stop_of prop frame ≡ None = rw none refl in
    rw first (no_stops prop other rest apart (All-tail (λ (one : Keyframe). AreOf other one.values) frame rest all))

not_named : (prop : Prop) (set : KeyframeSet) → is_same Background prop ≡ false → NamesBackgroundAlone set
    → names prop set.frames ≡ false
not_named prop set apart alone = rw (no_stops prop Background set.frames apart alone) refl

-- the body's animations name no edge
body-set : (found : Option KeyframeSet) → ((set : KeyframeSet) → found ≡ Some set → NamesBackgroundAlone set)
    → some_names_edge found ≡ false
body-set None alone = refl
body-set (Some set) alone =
    rw (
      not_named Left set refl (alone set refl),
      not_named Top set refl (alone set refl),
      not_named Width set refl (alone set refl),
      not_named Height set refl (alone set refl),
    ) refl

-- so no animation of it moves it
abbrev HasAlone : List KeyframeSet → Anim → Type 0
HasAlone sets anim = (set : KeyframeSet) → slice_get sets anim.set ≡ Some set → NamesBackgroundAlone set

body-anims : (sets : List KeyframeSet) (anims : List Anim) → All (HasAlone sets) anims → list_any (moves sets) anims ≡ false
body-anims sets [] all = refl
body-anims sets (anim ∷ rest) all =
    let none : moves sets anim ≡ false = body-set (slice_get sets anim.set) (All-head (HasAlone sets) anim rest all) in
    rw none (body-anims sets rest (All-tail (HasAlone sets) anim rest all))

pub body-quiet : (sets : List KeyframeSet) (body : Layer) → IsBody sets body → may_move sets body ≡ false
body-quiet sets body is = body-anims sets body.anims is.background
