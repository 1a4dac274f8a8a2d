-- The states of layers of opaque colours are those of the former text.
use Rattle.std.proofs.Common.{◌≡◌, ◌∙◌, ◌↔◌, ℕ, zero, suc, ◌<◌, ℤ, pos, ◌+ℤ◌, ◌-ℤ◌, ◌*ℤ◌, ◌≤ℤ◌, ◌<ℤ◌, true, List, [], ◌∷◌, IfSome, Option, Some, None, get_or, length, min, slice_get, arith, refl, ap, sym, subst}
use Rattle.std.proofs.lemmas.Int.{ints}
use Rattle.page_model.specs.declared.animation.Anim.{Anim}
use Rattle.page_model.specs.declared.colour.Rgba.{Rgba}
use Rattle.page_model.specs.declared.easing.Easing.TheVariants.{Linear}
use Rattle.page_model.specs.declared.property.Prop.{Prop}
use Rattle.page_model.specs.declared.property.Prop.TheVariants.{Background, Opacity, Visibility, Left, Top, Width, Height}
use Rattle.page_model.specs.declared.property.Setting.{Setting}
use Rattle.page_model.specs.declared.property.Value.{Value}
use Rattle.page_model.specs.declared.property.Value.TheVariants as value
use Rattle.page_model.specs.declared.scene.Layer.{Layer}
use Rattle.page_model.specs.declared.scene.Scene.{Scene}
use Rattle.page_model.specs.declared.setup.Setup.{Setup}
use Rattle.page_model.specs.Enclosure.{IsLoose, IsLooseChannel, IsLooseChannelOn, IsLooseOn, Kind, Loose, one_value}
use Rattle.page_model.specs.Fraction.{zero_of_one}
use Rattle.page_model.specs.Keyframes.{Interval, is_same}
use Rattle.page_model.specs.LayerAt.{Course, still, moving, IsChannelOn, IsValueOn, blue_of, colour_in, course_of, cover_of, declared, green_of, red_of}
use Rattle.page_model.specs.Slot.{IsChannelValue, IsSlotValue, Shade, cover}
use Rattle.page_model.specs.ValidScene.{IsEasing, IsValid, IsValueOf}
use Rattle.fraction_laws.proofs.ListLemmas.{All-slice_get}
use Rattle.safety_laws.proofs.CourseLemmas.{IsSoundInterval, SoundOn, scene-sound}
use Rattle.safety_laws.proofs.StillLemmas.{course-still}
use Rattle.safety_laws.proofs.ValueLemmas.{AreValues, GoodOn, course-values}
use Rattle.state_laws.proofs.UniqueLemmas.{slot-unique}
use Rattle.wide_laws.proofs.LooseLemmas.{loose-unique}
use Rattle.full_alpha_laws.specs.FormerSlot.{IsFormerChannel, IsFormerChannelOn, IsFormerLoose, IsFormerLooseOn, channel}
use Rattle.full_alpha_laws.specs.FullAlpha.{HasFullAlpha, IsOpaque, IsOpaqueValue, opaque}
use Rattle.full_alpha_laws.specs.StateLaws.{LooseStatesAreFormer, StatesAreFormer, cover_for}
use Rattle.full_alpha_laws.proofs.SlotLemmas.{channels_are_former, covers_are_full, loose_channels_are_former}

-- the colour of a value is opaque
abbrev IsFull : Value → Type 0
IsFull v = (colour_in v).a ≡ 255000

full-of : (prop : Prop) (v : Value) → IsValueOf prop v → IsOpaqueValue v → is_same prop Background ≡ true → IsFull v
full-of Background (value.Colour c) good opaque same = opaque
full-of Background (value.Opacity t) good opaque same = absurd good
full-of Background (value.Shown b) good opaque same = absurd good
full-of Background (value.Length l) good opaque same = absurd good
full-of Opacity v good opaque same = absurd (cc)
full-of Visibility v good opaque same = absurd (cc)
full-of Left v good opaque same = absurd (cc)
full-of Top v good opaque same = absurd (cc)
full-of Width v good opaque same = absurd (cc)
full-of Height v good opaque same = absurd (cc)

-- a course is still, or between opaque colours by a valid easing
pub record IsFullWay (interval : Interval) : Type 0 where
  pub sound : IsSoundInterval IsEasing interval
  pub values : AreValues IsFull interval

abbrev IsFullOn : Course → Type 0
IsFullOn (still x) = Unit {0}
IsFullOn (moving interval) = IsFullWay interval

both-on : (course : Course) → SoundOn IsEasing course → GoodOn IsFull course → IsFullOn course
both-on (still x) sound good = tt
both-on (moving interval) sound good = record { sound = sound; values = good }

-- only a body without animations has no colour
none-still : (scene : Scene) (number : ℕ) (layer : Layer) → IsValid scene → slice_get scene.layers number ≡ Some layer → layer.colour ≡ None → layer.anims ≡ []
none-still scene zero layer valid there none =
    no_anims layer.anims (λ some. let h = rw none at ((valid.body layer there).animated some) in cc)
  where
    no_anims : (anims : List Anim) → (0 < length anims → ⊥) → anims ≡ []
    no_anims [] never = refl
    no_anims (anim ∷ rest) never = absurd (never (omega arith))
none-still scene (suc number) layer valid there none = absurd (let h = rw none at (valid.boxes (suc number) layer (omega arith) there) in cc)

-- so is the background of each layer of a scene whose alphas are full
course-full :
    (scene : Scene) (setup : Setup) (frame number : ℕ) (layer : Layer) → IsValid scene → HasFullAlpha scene
    → slice_get scene.layers number ≡ Some layer → IsFull (declared layer Background) → GoodOn IsFull (course_of scene setup frame layer Background)
course-full scene setup frame number layer valid full there own =
    course-values IsFull scene setup frame layer Background own (λ k d within j key inside n setting at same.
    let s : Setting = get_or (get_or (get_or scene.sets k d).frames j key).values n setting in
    full-of s.prop s.value (((valid.sets k d within).is_set.frames j key inside).values n setting at) (full.sets k d within j key inside n setting at) same)

own-full : (layer : Layer) (c : Rgba) → layer.colour ≡ Some c → IsOpaque c → IsFull (declared layer Background)
own-full layer c is opaque = rw is opaque

background-full :
    (scene : Scene) (setup : Setup) (frame number : ℕ) (layer : Layer) (colour : Option Rgba) → IsValid scene → HasFullAlpha scene
    → slice_get scene.layers number ≡ Some layer → layer.colour ≡ colour → IsFullOn (course_of scene setup frame layer Background)
background-full scene setup frame number layer None valid full there none =
    rw (course-still scene setup frame layer Background (none-still scene number layer valid there none)) tt
background-full scene setup frame number layer (Some c) valid full there is =
    let opaque : IfSome layer.colour IsOpaque = All-slice_get (λ (l : Layer). IfSome l.colour IsOpaque) scene.layers number layer full.layers there in
    both-on (course_of scene setup frame layer Background) (scene-sound scene setup frame number layer Background valid there)
    (course-full scene setup frame number layer valid full there (own-full layer c is (rw is at opaque)))

-- a channel that stays
still-own : (l : ℕ) → IsFormerChannel Linear zero_of_one l l (pos (min l 255))
still-own l = record {
  at_least = omega (arith, ints);
  at_most = omega (arith, ints);
  reached = λ some. omega (arith, ints);
  greatest = λ inside holds. past l inside holds;
} where
  past : (l : ℕ) → pos (min l 255) <ℤ pos 255
      → ((pos 1 *ℤ (pos 2 *ℤ (pos (min l 255) +ℤ pos 1) -ℤ pos 1) -ℤ pos 2 *ℤ pos l) *ℤ pos 1) ≤ℤ ((pos 2 *ℤ (pos l -ℤ pos l)) *ℤ pos 0) → ⊥
  past l inside holds = omega (arith, ints)

still-same : (l : ℕ) (v : ℤ) → (v ≡ pos (min l 255)) ↔ IsFormerChannel Linear zero_of_one l l v
still-same l v = (
  λ e. subst (λ (w : ℤ). IsFormerChannel Linear zero_of_one l l w) (sym e) (still-own l),
  λ is. slot-unique channel Linear zero_of_one (pos l) (pos l) v (pos (min l 255)) is (still-own l),
)

loose_still-same : (kind : Kind) (l : ℕ) (loose : Loose) → (loose ≡ one_value (pos (min l 255))) ↔ IsFormerLoose kind Linear zero_of_one l l loose
loose_still-same kind l loose =
    let own : IsFormerLoose kind Linear zero_of_one l l (one_value (pos (min l 255))) = record { least = still-own l; greatest = still-own l } in (
      λ e. subst (λ (x : Loose). IsFormerLoose kind Linear zero_of_one l l x) (sym e) own,
      λ is. loose-unique kind channel Linear zero_of_one (pos l) (pos l) loose (one_value (pos (min l 255))) is own,
    )

-- a channel on such a course
abbrev HasColoursAlpha : (Value → Shade) → Type 0
HasColoursAlpha part = (x : Value) → (part x).alpha ≡ (colour_in x).a

shade-opaque : (s : Shade) → s.alpha ≡ 255000 → opaque s.level ≡ s
shade-opaque s full = λ i. record { level = s.level; alpha = sym full i }

channel-same : (part : Value → Shade) (course : Course) (v : ℤ) → HasColoursAlpha part → IsFullOn course → IsChannelOn part course v ↔ IsFormerChannelOn part course v
channel-same part (still x) v alpha full = still-same (part x).level v
channel-same part (moving i) v alpha full =
    let from = shade-opaque (part i.from) (alpha i.from ∙ full.values.from) in
    let to = shade-opaque (part i.to) (alpha i.to ∙ full.values.to) in
    subst (λ (s : Shade). IsChannelValue i.easing i.distance s (part i.to) v ↔ IsFormerChannelOn part (moving i) v) from
    (subst (λ (s : Shade). IsChannelValue i.easing i.distance (opaque (part i.from).level) s v ↔ IsFormerChannelOn part (moving i) v) to
    (channels_are_former i.easing full.sound.easing i.distance full.sound.distance.positive (part i.from).level (part i.to).level v))

loose_channel-same :
    (kind : Kind) (part : Value → Shade) (course : Course) (loose : Loose) → HasColoursAlpha part → IsFullOn course
    → IsLooseChannelOn kind part course loose ↔ IsFormerLooseOn kind part course loose
loose_channel-same kind part (still x) loose alpha full = loose_still-same kind (part x).level loose
loose_channel-same kind part (moving i) loose alpha full =
    let from = shade-opaque (part i.from) (alpha i.from ∙ full.values.from) in
    let to = shade-opaque (part i.to) (alpha i.to ∙ full.values.to) in
    subst (λ (s : Shade). IsLooseChannel kind i.easing i.distance s (part i.to) loose ↔ IsFormerLooseOn kind part (moving i) loose) from
    (subst (λ (s : Shade). IsLooseChannel kind i.easing i.distance (opaque (part i.from).level) s loose ↔ IsFormerLooseOn kind part (moving i) loose) to
    (loose_channels_are_former kind i.easing full.sound.easing i.distance full.sound.distance.positive (part i.from).level (part i.to).level loose))

-- the cover of opaque colours, and of none
cover-none : IsSlotValue cover Linear zero_of_one (pos 0) (pos 0) (pos 0)
cover-none = record {
  at_least = omega (arith, ints);
  at_most = omega (arith, ints);
  reached = λ some. absurd (omega (arith, ints));
  greatest = λ inside holds. omega (arith, ints);
}

cover-on : (course : Course) (v : ℤ) → GoodOn IsFull course → IsValueOn cover cover_of course v ↔ (v ≡ pos 255)
cover-on (still x) v full =
    subst (λ (a : ℕ). IsSlotValue cover Linear zero_of_one (pos a) (pos a) v ↔ (v ≡ pos 255)) (sym full) (covers_are_full.exactly Linear zero_of_one v)
cover-on (moving i) v full =
    subst (λ (a : ℕ). IsSlotValue cover i.easing i.distance (pos a) (cover_of i.to) v ↔ (v ≡ pos 255)) (sym full.from)
    (subst (λ (a : ℕ). IsSlotValue cover i.easing i.distance (pos 255000) (pos a) v ↔ (v ≡ pos 255)) (sym full.to)
    (covers_are_full.exactly i.easing i.distance v))

loose_cover-on : (kind : Kind) (course : Course) (loose : Loose) → GoodOn IsFull course → IsLooseOn kind cover cover_of course loose ↔ (loose ≡ one_value (pos 255))
loose_cover-on kind (still x) loose full =
    subst (λ (a : ℕ). IsLoose kind cover Linear zero_of_one (pos a) (pos a) loose ↔ (loose ≡ one_value (pos 255))) (sym full) (covers_are_full.by_kind kind Linear zero_of_one loose)
loose_cover-on kind (moving i) loose full =
    subst (λ (a : ℕ). IsLoose kind cover i.easing i.distance (pos a) (cover_of i.to) loose ↔ (loose ≡ one_value (pos 255))) (sym full.from)
    (subst (λ (a : ℕ). IsLoose kind cover i.easing i.distance (pos 255000) (pos a) loose ↔ (loose ≡ one_value (pos 255))) (sym full.to)
    (covers_are_full.by_kind kind i.easing i.distance loose))

-- and so of a layer
layer-cover :
    (scene : Scene) (setup : Setup) (frame number : ℕ) (layer : Layer) (colour : Option Rgba) (v : ℤ) → IsValid scene → HasFullAlpha scene
    → slice_get scene.layers number ≡ Some layer → layer.colour ≡ colour
    → IsValueOn cover cover_of (course_of scene setup frame layer Background) v ↔ (v ≡ pos (cover_for colour))
layer-cover scene setup frame number layer None v valid full there none =
    rw (course-still scene setup frame layer Background (none-still scene number layer valid there none), none) (
      λ is. slot-unique cover Linear zero_of_one (pos 0) (pos 0) v (pos 0) is cover-none,
      λ e. subst (λ (w : ℤ). IsSlotValue cover Linear zero_of_one (pos 0) (pos 0) w) (sym e) cover-none,
    )
layer-cover scene setup frame number layer (Some c) v valid full there is =
    let opaque : IfSome layer.colour IsOpaque = All-slice_get (λ (l : Layer). IfSome l.colour IsOpaque) scene.layers number layer full.layers there in
    cover-on (course_of scene setup frame layer Background) v
    (course-full scene setup frame number layer valid full there (own-full layer c is (rw is at opaque)))

loose_layer-cover :
    (kind : Kind) (scene : Scene) (setup : Setup) (frame number : ℕ) (layer : Layer) (colour : Option Rgba) (loose : Loose) → IsValid scene
    → HasFullAlpha scene → slice_get scene.layers number ≡ Some layer → layer.colour ≡ colour
    → IsLooseOn kind cover cover_of (course_of scene setup frame layer Background) loose ↔ (loose ≡ one_value (pos (cover_for colour)))
loose_layer-cover kind scene setup frame number layer None loose valid full there none =
    let own : IsLoose kind cover Linear zero_of_one (pos 0) (pos 0) (one_value (pos 0)) = record { least = cover-none; greatest = cover-none } in
    rw (course-still scene setup frame layer Background (none-still scene number layer valid there none), none) (
      λ is. loose-unique kind cover Linear zero_of_one (pos 0) (pos 0) loose (one_value (pos 0)) is own,
      λ e. subst (λ (l : Loose). IsLoose kind cover Linear zero_of_one (pos 0) (pos 0) l) (sym e) own,
    )
loose_layer-cover kind scene setup frame number layer (Some c) loose valid full there is =
    let opaque : IfSome layer.colour IsOpaque = All-slice_get (λ (l : Layer). IfSome l.colour IsOpaque) scene.layers number layer full.layers there in
    loose_cover-on kind (course_of scene setup frame layer Background) loose
    (course-full scene setup frame number layer valid full there (own-full layer c is (rw is at opaque)))

-- each part of a state
pub states_are_former : StatesAreFormer
states_are_former scene setup frame number layer state valid full there =
    let fill : Course = course_of scene setup frame layer Background in
    let way = background-full scene setup frame number layer layer.colour valid full there refl in
    let red = channel-same red_of fill (pos state.red) (λ x. refl) way in
    let green = channel-same green_of fill (pos state.green) (λ x. refl) way in
    let blue = channel-same blue_of fill (pos state.blue) (λ x. refl) way in
    let covered = layer-cover scene setup frame number layer layer.colour (pos state.cover) valid full there refl in (
      λ is. (
        record {
          is_red = red.0 is.is_red;
          is_green = green.0 is.is_green;
          is_blue = blue.0 is.is_blue;
          is_alpha = is.is_alpha;
          is_shown = is.is_shown;
          is_left = is.is_left;
          is_top = is.is_top;
          is_width = is.is_width;
          is_height = is.is_height;
        },
        natural (covered.0 is.is_cover),
      ),
      λ both. let is = both.0 in record {
        is_red = red.1 is.is_red;
        is_green = green.1 is.is_green;
        is_blue = blue.1 is.is_blue;
        is_cover = covered.1 (ap pos both.1);
        is_alpha = is.is_alpha;
        is_shown = is.is_shown;
        is_left = is.is_left;
        is_top = is.is_top;
        is_width = is.is_width;
        is_height = is.is_height;
      },
    )
  where
    natural : {m n : ℕ} → pos m ≡ pos n → m ≡ n
    natural e = cc

pub loose_states_are_former : LooseStatesAreFormer
loose_states_are_former kind scene setup frame number layer state valid full there =
    let fill : Course = course_of scene setup frame layer Background in
    let way = background-full scene setup frame number layer layer.colour valid full there refl in
    let red = loose_channel-same kind red_of fill state.red (λ x. refl) way in
    let green = loose_channel-same kind green_of fill state.green (λ x. refl) way in
    let blue = loose_channel-same kind blue_of fill state.blue (λ x. refl) way in
    let covered = loose_layer-cover kind scene setup frame number layer layer.colour state.cover valid full there refl in (
      λ is. (
        record {
          is_red = red.0 is.is_red;
          is_green = green.0 is.is_green;
          is_blue = blue.0 is.is_blue;
          is_alpha = is.is_alpha;
          is_shown = is.is_shown;
          is_left = is.is_left;
          is_top = is.is_top;
          is_width = is.is_width;
          is_height = is.is_height;
        },
        covered.0 is.is_cover,
      ),
      λ both. let is = both.0 in record {
        is_red = red.1 is.is_red;
        is_green = green.1 is.is_green;
        is_blue = blue.1 is.is_blue;
        is_cover = covered.1 both.1;
        is_alpha = is.is_alpha;
        is_shown = is.is_shown;
        is_left = is.is_left;
        is_top = is.is_top;
        is_width = is.is_width;
        is_height = is.is_height;
      },
    )
