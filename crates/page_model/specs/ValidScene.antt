-- What holds of each scene that is judged: numbers in their limits, places that exist, lists in order. Lengths are in hundredths
-- of a pixel, opacity in thousandths, a colour's alpha in parts of 255,000, times in ms, offsets in hundredths of a percent,
-- counts and curve points in thousandths.
use Rattle.std.specs.Prelude.{ℕ, ℤ, pos, neg_ℤ, false, true, ◌≡◌, ◌⊎◌, ◌↔◌, ◌<◌, ◌≤◌, ◌≤ℤ◌, ◌<ℤ◌, List, length, slice_get, slice_index, Some, IsSome, IfSome, All, Contains}
use Rattle.page_model.specs.declared.animation.Anim.{Anim}
use Rattle.page_model.specs.declared.animation.Count.{Count}
use Rattle.page_model.specs.declared.animation.Count.TheVariants.{Times, Infinite}
use Rattle.page_model.specs.declared.colour.Rgba.{Rgba}
use Rattle.page_model.specs.declared.easing.Jump.{Jump}
use Rattle.page_model.specs.declared.easing.Jump.TheVariants.{Start, End, Neither, Both}
use Rattle.page_model.specs.declared.easing.Easing.{Easing}
use Rattle.page_model.specs.declared.easing.Easing.TheVariants.{Linear, Steps, Cubic}
use Rattle.page_model.specs.declared.keyframe.Keyframe.{Keyframe}
use Rattle.page_model.specs.declared.keyframe.KeyframeSet.{KeyframeSet}
use Rattle.page_model.specs.declared.property.Prop.{Prop}
use Rattle.page_model.specs.declared.property.Prop.TheVariants.{Background, Opacity, Visibility, Left, Top, Width, Height}
use Rattle.page_model.specs.declared.property.Setting.{Setting}
use Rattle.page_model.specs.declared.property.Value.{Value}
use Rattle.page_model.specs.declared.property.Value.TheVariants as value
use Rattle.page_model.specs.declared.scene.Layer.{Layer}
use Rattle.page_model.specs.declared.scene.Scene.{Scene}
use Rattle.page_model.specs.Keyframes.{is_same}

-- a signed number lies between two others
pub record IsBetween (least greatest v : ℤ) : Type 0 where
  pub at_least : least ≤ℤ v
  pub at_most : v ≤ℤ greatest

-- a colour has channels from 0 to 255, and an alpha from 0 to 255,000
pub record IsColour (c : Rgba) : Type 0 where
  pub red : c.r ≤ 255
  pub green : c.g ≤ 255
  pub blue : c.b ≤ 255
  pub alpha : c.a ≤ 255000

-- left and top from -8192 to 8192 px, width and height from 0 to 8192 px
abbrev pub IsPosition : ℤ → Type 0
IsPosition v = IsBetween (neg_ℤ (pos 819200)) (pos 819200) v

abbrev pub IsExtent : ℤ → Type 0
IsExtent v = IsBetween (pos 0) (pos 819200) v

-- a value is one of a property's kind, in its limits
abbrev pub IsValueOf : Prop → Value → Type 0
IsValueOf Background (value.Colour c) = IsColour c
IsValueOf Opacity (value.Opacity thousandths) = thousandths ≤ 1000
IsValueOf Visibility (value.Shown visible) = Unit {0}
IsValueOf Left (value.Length v) = IsPosition v
IsValueOf Top (value.Length v) = IsPosition v
IsValueOf Width (value.Length v) = IsExtent v
IsValueOf Height (value.Length v) = IsExtent v
IsValueOf prop other = ⊥

-- steps are 1 to 1,000, and at least 2 where they jump at neither end
abbrev pub least_steps : Jump → ℕ
least_steps Start = 1
least_steps End = 1
least_steps Neither = 2
least_steps Both = 1

pub record AreSteps (count : ℕ) (jump : Jump) : Type 0 where
  pub some : least_steps jump ≤ count
  pub limit : count ≤ 1000

-- a curve's x are from 0 to 1, its y from -4 to 4
pub record IsCurve (x1 : ℕ) (y1 : ℤ) (x2 : ℕ) (y2 : ℤ) : Type 0 where
  pub first_column : x1 ≤ 1000
  pub first_height : IsBetween (neg_ℤ (pos 4000)) (pos 4000) y1
  pub second_column : x2 ≤ 1000
  pub second_height : IsBetween (neg_ℤ (pos 4000)) (pos 4000) y2

abbrev pub IsEasing : Easing → Type 0
IsEasing Linear = Unit {0}
IsEasing (Steps count jump) = AreSteps count jump
IsEasing (Cubic x1 y1 x2 y2) = IsCurve x1 y1 x2 y2

-- an iteration count is up to 10,000, in thousandths
abbrev pub IsCount : Count → Type 0
IsCount (Times thousandths) = thousandths ≤ 10000000
IsCount Infinite = Unit {0}

-- of two settings of a keyframe none names a property twice
abbrev pub AreDistinct : List Setting → Type 0
AreDistinct values =
    (i j : ℕ) (first second : Setting) → i < j → slice_get values i ≡ Some first → slice_get values j ≡ Some second
    → is_same first.prop second.prop ≡ false

pub record IsKeyframe (frame : Keyframe) : Type 0 where
  pub offset : frame.offset ≤ 10000
  pub easing : IfSome frame.easing IsEasing
  pub values : All (λ (setting : Setting). IsValueOf setting.prop setting.value) frame.values
  pub distinct : AreDistinct frame.values

-- offsets rise strictly
abbrev pub OffsetsRise : List Keyframe → Type 0
OffsetsRise frames =
    (i j : ℕ) (first second : Keyframe) → i < j → slice_get frames i ≡ Some first → slice_get frames j ≡ Some second
    → first.offset < second.offset

-- a keyframe of the set has a value
pub record NamesProperty (set : KeyframeSet) : Type 0 where
  pub place : ℕ
  pub frame : Keyframe
  pub is_there : slice_get set.frames place ≡ Some frame
  pub value : 0 < length frame.values

-- a keyframe set by itself; one of a scene names a property too
pub record IsSet (set : KeyframeSet) : Type 0 where
  pub frames : All IsKeyframe set.frames
  pub rising : OffsetsRise set.frames

pub record IsSetInUse (set : KeyframeSet) : Type 0 where
  pub is_set : IsSet set
  pub names : NamesProperty set

-- an animation, where there are so many sets
pub record IsAnimation (sets : ℕ) (anim : Anim) : Type 0 where
  pub set : anim.set < sets
  pub duration : anim.duration ≤ 100000
  pub delay : IsBetween (neg_ℤ (pos 100000)) (pos 100000) anim.delay
  pub count : IsCount anim.count
  pub easing : IsEasing anim.easing

-- a layer's numbers
pub record IsLayer (sets : ℕ) (layer : Layer) : Type 0 where
  pub colour : IfSome layer.colour IsColour
  pub opacity : layer.opacity ≤ 1000
  pub left : IsPosition layer.left
  pub top : IsPosition layer.top
  pub width : IsExtent layer.width
  pub height : IsExtent layer.height
  pub z : IsBetween (neg_ℤ (pos 1000000)) (pos 1000000) layer.z
  pub few_animations : length layer.anims ≤ 8
  pub animations : All (IsAnimation sets) layer.anims

-- a set names the background alone
abbrev pub NamesBackgroundAlone : KeyframeSet → Type 0
NamesBackgroundAlone set =
    All (λ (frame : Keyframe). All (λ (setting : Setting). setting.prop ≡ Background) frame.values) set.frames

-- the body fills the page, is opaque and visible, and its animations name the background alone, which it then has
pub record IsBody (sets : List KeyframeSet) (body : Layer) : Type 0 where
  pub left : body.left ≡ pos 0
  pub top : body.top ≡ pos 0
  pub width : body.width ≡ pos 0
  pub height : body.height ≡ pos 0
  pub z : body.z ≡ pos 0
  pub opaque : body.opacity ≡ 1000
  pub visible : body.shown ≡ true
  pub animated : 0 < length body.anims → IsSome body.colour
  pub background : All (λ (anim : Anim). (set : KeyframeSet) → slice_get sets anim.set ≡ Some set → NamesBackgroundAlone set) body.anims

-- one box is painted before another: by z-index, then by number
abbrev pub IsBefore : List Layer → ℕ → ℕ → Type 0
IsBefore layers first second =
    (one other : Layer) → slice_get layers first ≡ Some one → slice_get layers second ≡ Some other
    → (one.z <ℤ other.z) ⊎ ((one.z ≡ other.z) × (first < second))

-- the paint order: each box once, and each before those behind it
pub record IsPaintOrder (layers : List Layer) (order : List ℕ) : Type 0 where
  pub boxes : (number : ℕ) → (Contains order number ↔ ((1 ≤ number) × (number < length layers)))
  pub sorted : (i j : ℕ) → i < j → j < length order → IsBefore layers (slice_index order i) (slice_index order j)

-- a scene as it is judged: 1 to 65 layers, the first of them the body's, and boxes that each have a colour
pub record IsValid (scene : Scene) : Type 0 where
  pub some_layer : 1 ≤ length scene.layers
  pub few_layers : length scene.layers ≤ 65
  pub layers : All (IsLayer (length scene.sets)) scene.layers
  pub body : (body : Layer) → slice_get scene.layers 0 ≡ Some body → IsBody scene.sets body
  pub boxes : (number : ℕ) (box : Layer) → 1 ≤ number → slice_get scene.layers number ≡ Some box → IsSome box.colour
  pub order : IsPaintOrder scene.layers scene.order
  pub sets : All IsSetInUse scene.sets
