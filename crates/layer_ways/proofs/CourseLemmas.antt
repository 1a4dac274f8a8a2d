-- What the way of a property by one more animation makes.
use Rattle.std.proofs.Common.{◌≡◌, ◌⊎◌, Bool, true, false, inl, inr, ℕ, ◌+◌, ◌-◌, ◌<◌, suc, List, [], ◌∷◌, ◌++◌, Option, Some, None, filter_map, length, get_or, slice_get, take, option_map, add-one, append-nil, arith, refl, sym, ap, ◌∙◌}
use Rattle.std.specs.List.{cons_option}
use Rattle.std.proofs.lemmas.List.Elements.{filter_map-append}
use Rattle.std.proofs.Math.Seq.{take-suc}
use Rattle.page_model.specs.declared.animation.Anim.{Anim}
use Rattle.page_model.specs.declared.keyframe.KeyframeSet.{KeyframeSet}
use Rattle.page_model.specs.declared.property.Prop.{Prop}
use Rattle.page_model.specs.declared.property.Value.{Value}
use Rattle.page_model.specs.declared.scene.Layer.{Layer}
use Rattle.page_model.specs.declared.scene.Scene.{Scene}
use Rattle.page_model.specs.declared.setup.Setup.{Setup}
use Rattle.page_model.specs.Fraction.{Fraction}
use Rattle.page_model.specs.Keyframes.{Interval, last_of, names}
use Rattle.page_model.specs.LayerAt.{declared, interval_at}
use Rattle.page_model.specs.Progress.{progress_of}
use Rattle.fix_span.specs.declared.frac.Frac.{Frac}
use Rattle.fix_span.specs.Frac.{frac_of, fraction_of}
use Rattle.keyframe_sets.specs.Here.{interval_here}
use Rattle.layer_ways.proofs.PlainLemmas.{mapped_some}
use Rattle.layer_ways.specs.Found.{is_last, is_more_at, is_more_here, last_made, later, made_at}
use Rattle.layer_ways.specs.Named.{lacks}
use Rattle.layer_ways.specs.Ways.{Way, eased_way, last_way}

-- one at the end of a list is its last
last_of-cons : {X : Type 0} (x y : X) (ys : List X) → last_of (x ∷ (y ∷ ys)) ≡ last_of (y ∷ ys)
last_of-cons x y ys =
    let less : suc (suc (length ys)) - 1 ≡ suc (suc (length ys) - 1) = omega arith in
    rw less refl

last_of-end : {X : Type 0} (xs : List X) (x : X) → last_of (xs ++ x ∷ []) ≡ Some x
last_of-end [] x = refl
last_of-end (y ∷ []) x = refl
last_of-end (y ∷ (z ∷ ys)) x = last_of-cons y z (ys ++ x ∷ []) ∙ last_of-end (z ∷ ys) x

last_mapped : (xs : List Interval) (o : Option Interval)
    → option_map eased_way (last_of (xs ++ cons_option o [])) ≡ later (option_map eased_way (last_of xs)) (option_map eased_way o)
last_mapped xs None = ap (λ (ys : List Interval). option_map eased_way (last_of ys)) (append-nil xs)
last_mapped xs (Some interval) = ap (option_map eased_way) (last_of-end xs interval)

last_way-more : (scene : Scene) (setup : Setup) (frame : ℕ) (layer : Layer) (seen : List Anim) (anim : Anim) (prop : Prop)
    → last_way scene setup frame layer (seen ++ anim ∷ []) prop
    ≡ later (last_way scene setup frame layer seen prop) (option_map eased_way (interval_at scene.sets setup frame prop (declared layer prop) anim))
last_way-more scene setup frame layer seen anim prop =
    let f = interval_at scene.sets setup frame prop (declared layer prop) in
    ap (λ (ys : List Interval). option_map eased_way (last_of ys)) (filter_map-append f seen (anim ∷ []))
    ∙ last_mapped (filter_map f seen) (f anim)

-- an animation without an effect
pub cases_Option : {X : Type 0} (o : Option X) → (o ≡ None) ⊎ ((x : X) × (o ≡ Some x))
cases_Option None = inl refl
cases_Option (Some x) = inr (x, refl)

pub interval_at-none : (sets : List KeyframeSet) (setup : Setup) (frame : ℕ) (prop : Prop) (own : Value) (anim : Anim)
    → progress_of setup anim frame ≡ None → interval_at sets setup frame prop own anim ≡ None
interval_at-none sets setup frame prop own anim e =
    elim (cases_Option (slice_get sets anim.set)) [
      | inl none ↦ rw none refl
      | inr some ↦ rw (some.1, e) refl
    ]

-- and one with an effect
pub interval_at-some : (scene : Scene) (setup : Setup) (frame number place : ℕ) (layer : Layer) (anim : Anim) (prop : Prop) (at : Fraction)
    → slice_get scene.layers number ≡ Some layer → slice_get layer.anims place ≡ Some anim → progress_of setup anim frame ≡ Some at
    → interval_at scene.sets setup frame prop (declared layer prop) anim ≡ interval_here scene number place prop at
interval_at-some scene setup frame number place layer anim prop at layer_is anim_is at_is = rw (at_is, layer_is, anim_is) refl

-- one more animation of a list
one_more : (anims : List Anim) (i : ℕ) (anim : Anim) → i < length anims → take (i + 1) anims ≡ take i anims ++ get_or anims i anim ∷ []
one_more anims i anim inside = ap (λ n. take n anims) (add-one i) ∙ take-suc anims i anim inside

-- the later of three
later_grouped : {X : Type 0} (a b c : Option X) → later (later a b) c ≡ later a (later b c)
later_grouped a b None = refl
later_grouped a b (Some x) = refl

pub later_none : {X : Type 0} (a : Option X) → later None a ≡ a
later_none None = refl
later_none (Some x) = refl

later-mapped : {X : Type 0} (make : Way → X) (a b : Option Way) → option_map make (later a b) ≡ later (option_map make a) (option_map make b)
later-mapped make a None = refl
later-mapped make a (Some way) = refl

-- what the ways by the animations from a place on make, where those before that place have the rest: one animation before, without an
-- effect or with one
pub last-before : (X : Type 0) (make : Way → X) (scene : Scene) (setup : Setup) (frame place left : ℕ) (layer : Layer) (anims : List Anim)
    (d : Anim) (prop : Prop) (found more : Option X) → place < length anims → left ≡ place + 1
    → is_last scene setup frame layer anims left X make prop found found
    → is_more_at scene setup frame layer (get_or anims place d) X make prop found more
    → is_last scene setup frame layer anims place X make prop more more
last-before X make scene setup frame place left layer anims d prop found more inside next is more_is =
    let anim : Anim = get_or anims place d in
    let before : Option X = last_made make scene setup frame layer (take place anims) prop in
    let here : Option X = made_at make scene setup frame layer anim prop in
    let with_it : last_made make scene setup frame layer (take left anims) prop ≡ later before here =
    ap (λ (seen : List Anim). last_made make scene setup frame layer seen prop) (ap (λ n. take n anims) next ∙ one_more anims place d inside)
    ∙ ap (option_map make) (last_way-more scene setup frame layer (take place anims) anim prop)
    ∙ later-mapped make (last_way scene setup frame layer (take place anims) prop)
    (option_map eased_way (interval_at scene.sets setup frame prop (declared layer prop) anim)) in
    ap (later before) more_is ∙ sym (later_grouped before here found) ∙ ap (λ (o : Option X). later o found) (sym with_it) ∙ is

-- an animation that gives nothing new: it doesn't name the property, or something was found by a later one
unnamed-at : (sets : List KeyframeSet) (setup : Setup) (frame : ℕ) (prop : Prop) (own : Value) (anim : Anim)
    → ((set : KeyframeSet) → slice_get sets anim.set ≡ Some set → names prop set.frames ≡ false)
    → interval_at sets setup frame prop own anim ≡ None
unnamed-at sets setup frame prop own anim unnamed =
    elim (cases_Option (slice_get sets anim.set)) [
      | inl none ↦ rw none refl
      | inr set ↦
          let none = unnamed set.0 set.1 in
          elim (cases_Option (progress_of setup anim frame)) [
            | inl away ↦ rw (set.1, away) refl
            | inr at ↦ rw (set.1, at.1, none) refl
          ]
    ]

pub nothing-new : {X Y : Type 0} (make : Way → X) (seen_as : Y → X) (scene : Scene) (setup : Setup) (frame : ℕ) (layer : Layer) (anim : Anim)
    (prop : Prop) (named : Bool) (found : Option Y) → lacks named found ≡ false
    → (named ≡ false → (set : KeyframeSet) → slice_get scene.sets anim.set ≡ Some set → names prop set.frames ≡ false)
    → option_map seen_as found ≡ later (made_at make scene setup frame layer anim prop) (option_map seen_as found)
nothing-new make seen_as scene setup frame layer anim prop true None e unnamed = absurd (cc)
nothing-new make seen_as scene setup frame layer anim prop true (Some y) e unnamed = refl
nothing-new make seen_as scene setup frame layer anim prop false found e unnamed =
    sym (ap (λ (o : Option Interval). later (option_map make (option_map eased_way o)) (option_map seen_as found))
    (unnamed-at scene.sets setup frame prop (declared layer prop) anim (unnamed refl)) ∙ later_none (option_map seen_as found))

pub unnamed-here : (scene : Scene) (number place : ℕ) (prop : Prop) (at : Fraction) (anim : Anim)
    → ((layer : Layer) → slice_get scene.layers number ≡ Some layer → slice_get layer.anims place ≡ Some anim)
    → ((set : KeyframeSet) → slice_get scene.sets anim.set ≡ Some set → names prop set.frames ≡ false)
    → interval_here scene number place prop at ≡ None
unnamed-here scene number place prop at anim mine unnamed =
    elim (cases_Option (slice_get scene.layers number)) [
      | inl none ↦ rw none refl
      | inr layer ↦
          let anim_is = mine layer.0 layer.1 in
          elim (cases_Option (slice_get scene.sets anim.set)) [
            | inl none ↦ rw (layer.1, anim_is, none) refl
            | inr set ↦ let none = unnamed set.0 set.1 in rw (layer.1, anim_is, set.1, none) refl
          ]
    ]

-- one with an effect
pub way-made : (X : Type 0) (make : Way → X) (scene : Scene) (setup : Setup) (frame number place : ℕ) (layer : Layer) (anim : Anim)
    (prop : Prop) (at : Frac) (found more : Option X) → slice_get scene.layers number ≡ Some layer → slice_get layer.anims place ≡ Some anim
    → Some at ≡ option_map frac_of (progress_of setup anim frame)
    → is_more_here scene number place (fraction_of at) X make prop found more
    → is_more_at scene setup frame layer anim X make prop found more
way-made X make scene setup frame number place layer anim prop at found more layer_is anim_is some e =
    let mapped = mapped_some frac_of (progress_of setup anim frame) at (sym some) in
    let at_is : progress_of setup anim frame ≡ Some (fraction_of at) = mapped.1 ∙ ap (λ (y : Frac). Some (fraction_of y)) mapped.2 in
    e ∙ ap (λ (o : Option Interval). later (option_map make (option_map eased_way o)) found)
    (sym (interval_at-some scene setup frame number place layer anim prop (fraction_of at) layer_is anim_is at_is))
