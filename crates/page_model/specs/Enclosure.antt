-- Three enclosures of a slot, by what is said of a curve's value E at an inner input: the exact kind knows E alone, the own kind
-- an interval of parts of 2^30 that the program computes, the wide kind all values within 2^-16 of E. At every other easing and
-- input each kind knows the value. One definition serves all three: a loose slot has the least and the greatest value that the
-- slot takes over the set of eased values, so its lower end is the greatest v to which all of them round, and its upper end the
-- greatest v to which some of them does. A channel is anything from 0 to 255 where the alpha is above 0 for some of the values and
-- not for others. This is the project's own.
use Rattle.std.specs.Prelude.{ℕ, ℤ, pos, negsuc, Bool, true, false, Option, Some, None, ◌≡◌, ◌*◌, ◌^◌, ◌+ℤ◌, ◌-ℤ◌, ◌*ℤ◌, ◌≤ℤ◌, ◌&&◌, nat_lt, nat_abs, if◌then◌else◌}
use Rattle.std.specs.Int.{int_min, int_max, int_div_euclid}
use Rattle.page_model.specs.declared.setup.Setup.{Setup}
use Rattle.page_model.specs.declared.colour.Rgba.{Rgba}
use Rattle.page_model.specs.declared.easing.Easing.{Easing}
use Rattle.page_model.specs.declared.easing.Easing.TheVariants.{Linear, Steps, Cubic}
use Rattle.page_model.specs.declared.property.Value.{Value}
use Rattle.page_model.specs.declared.property.Prop.TheVariants.{Background, Opacity, Visibility, Left, Top, Width, Height}
use Rattle.page_model.specs.declared.scene.Layer.{Layer}
use Rattle.page_model.specs.declared.scene.Scene.{Scene}
use Rattle.page_model.specs.Curve.{Reaches, curve_height}
use Rattle.page_model.specs.Fraction.{Fraction, zero_of_one}
use Rattle.page_model.specs.LayerAt.{Course, still, moving, course_of, red_of, green_of, blue_of, cover_of, alpha_of, length_of, visible_of}
use Rattle.page_model.specs.Slot.{Slot, Shade, cover, alpha, position, extent, IsGreatestIn, IsGreatestLevel, own_level, twice_the_way, twice_to_cover, fading, gain, due}

pub data Kind : Type 0 where
  exact : Kind
  own : Kind
  wide : Kind

-- the scale at which the program looks at a curve
abbrev pub own_scale : ℕ
own_scale = 2 ^ 22

-- the height of the curve at that scale, in parts of 2^30 and rounded down
abbrev pub own_height : ℕ → ℤ → ℕ → ℤ → Fraction → ℤ
own_height x1 y1 x2 y2 at =
    int_div_euclid (pos (2 ^ 30) *ℤ curve_height x1 y1 x2 y2 at own_scale) (pos (1000 * (own_scale * own_scale * own_scale)))

-- the ends of the own interval, in parts of 2^30
abbrev pub own_least : ℕ → ℤ → ℕ → ℤ → Fraction → ℤ
own_least x1 y1 x2 y2 at = own_height x1 y1 x2 y2 at -ℤ pos 6144

abbrev pub own_greatest : ℕ → ℤ → ℕ → ℤ → Fraction → ℤ
own_greatest x1 y1 x2 y2 at = own_height x1 y1 x2 y2 at +ℤ pos 6145

-- a times each value of the set is b or more
abbrev pub AllReachInside : Kind → ℕ → ℤ → ℕ → ℤ → Fraction → ℤ → ℤ → Type 0
AllReachInside exact x1 y1 x2 y2 at a b = Reaches (Cubic x1 y1 x2 y2) at a b
AllReachInside own x1 y1 x2 y2 at a b =
    (b *ℤ pos (2 ^ 30)) ≤ℤ int_min (a *ℤ own_least x1 y1 x2 y2 at) (a *ℤ own_greatest x1 y1 x2 y2 at)
AllReachInside wide x1 y1 x2 y2 at a b =
    Reaches (Cubic x1 y1 x2 y2) at (pos (2 ^ 16) *ℤ a) (pos (2 ^ 16) *ℤ b +ℤ pos (nat_abs a))

-- a times some value of the set is b or more
abbrev pub SomeReachInside : Kind → ℕ → ℤ → ℕ → ℤ → Fraction → ℤ → ℤ → Type 0
SomeReachInside exact x1 y1 x2 y2 at a b = Reaches (Cubic x1 y1 x2 y2) at a b
SomeReachInside own x1 y1 x2 y2 at a b =
    (b *ℤ pos (2 ^ 30)) ≤ℤ int_max (a *ℤ own_least x1 y1 x2 y2 at) (a *ℤ own_greatest x1 y1 x2 y2 at)
SomeReachInside wide x1 y1 x2 y2 at a b =
    Reaches (Cubic x1 y1 x2 y2) at (pos (2 ^ 16) *ℤ a) (pos (2 ^ 16) *ℤ b -ℤ pos (nat_abs a))

-- an input is strictly between 0 and 1
abbrev pub is_inner : Fraction → Bool
is_inner at = nat_lt 0 at.num && nat_lt at.num at.den

-- the kind by which a curve is known at an input: at 0 and 1 its value is exact
abbrev pub kind_at : Kind → Fraction → Kind
kind_at kind at = if is_inner at then kind else exact

abbrev pub AllReach : Kind → Easing → Fraction → ℤ → ℤ → Type 0
AllReach kind Linear at a b = Reaches Linear at a b
AllReach kind (Steps count jump) at a b = Reaches (Steps count jump) at a b
AllReach kind (Cubic x1 y1 x2 y2) at a b = AllReachInside (kind_at kind at) x1 y1 x2 y2 at a b

abbrev pub SomeReach : Kind → Easing → Fraction → ℤ → ℤ → Type 0
SomeReach kind Linear at a b = Reaches Linear at a b
SomeReach kind (Steps count jump) at a b = Reaches (Steps count jump) at a b
SomeReach kind (Cubic x1 y1 x2 y2) at a b = SomeReachInside (kind_at kind at) x1 y1 x2 y2 at a b

-- the least and the greatest whole value of a slot
pub record Loose : Type 0 where
  pub lo : ℤ
  pub hi : ℤ

-- the loose value of a slot on the way from one value to another
pub record IsLoose (kind : Kind) (slot : Slot) (easing : Easing) (at : Fraction) (from to : ℤ) (loose : Loose) : Type 0 where
  pub least : IsGreatestIn slot (λ v. AllReach kind easing at (twice_the_way from to) (twice_to_cover slot from v)) loose.lo
  pub greatest : IsGreatestIn slot (λ v. SomeReach kind easing at (twice_the_way from to) (twice_to_cover slot from v)) loose.hi

-- the alpha is gone on the way from one colour to another: for all values of the set, or for some
abbrev pub AllGone : Kind → Easing → Fraction → Shade → Shade → Type 0
AllGone kind easing at from to = AllReach kind easing at (fading from to) (pos from.alpha)

abbrev pub SomeGone : Kind → Easing → Fraction → Shade → Shade → Type 0
SomeGone kind easing at from to = SomeReach kind easing at (fading from to) (pos from.alpha)

-- the least and the greatest channel on the way, where the alpha is above 0 for all values of the set
pub record AreLevels (kind : Kind) (easing : Easing) (at : Fraction) (from to : Shade) (loose : Loose) : Type 0 where
  pub least : IsGreatestLevel (λ v. AllReach kind easing at (gain from to v) (due from v)) loose.lo
  pub greatest : IsGreatestLevel (λ v. SomeReach kind easing at (gain from to v) (due from v)) loose.hi

-- one value as a loose one, and any channel
abbrev pub one_value : ℤ → Loose
one_value v = record { lo = v; hi = v }

abbrev pub any_level : Loose
any_level = record { lo = pos 0; hi = pos 255 }

-- the loose value of a channel on the way from one colour to another
pub record IsLooseChannel (kind : Kind) (easing : Easing) (at : Fraction) (from to : Shade) (loose : Loose) : Type 0 where
  pub gone : AllGone kind easing at from to → loose ≡ one_value (pos 0)
  pub mixed : SomeGone kind easing at from to → (AllGone kind easing at from to → ⊥) → loose ≡ any_level
  pub left : (SomeGone kind easing at from to → ⊥) → AreLevels kind easing at from to loose

-- whether something is so: surely, surely not, or for some values of the set and not for others
pub data Sureness : Type 0 where
  surely : Sureness
  surely_not : Sureness
  maybe : Sureness

-- a thing is hidden where a fact holds of the eased value: of each value, of none, or of some and not of others
abbrev pub IsHiddenSurely : Type 0 → Type 0 → Sureness → Type 0
IsHiddenSurely AllHide SomeHide surely = SomeHide → ⊥
IsHiddenSurely AllHide SomeHide surely_not = AllHide
IsHiddenSurely AllHide SomeHide maybe = SomeHide × (AllHide → ⊥)

-- how surely a box is shown between two visibilities
abbrev pub IsShownSurely : Kind → Easing → Fraction → Bool → Bool → Sureness → Type 0
IsShownSurely kind easing at true true shown = shown ≡ surely
IsShownSurely kind easing at true false shown =
    IsHiddenSurely (AllReach kind easing at (pos 1) (pos 1)) (SomeReach kind easing at (pos 1) (pos 1)) shown
IsShownSurely kind easing at false true shown =
    IsHiddenSurely (AllReach kind easing at (negsuc 0) (pos 0)) (SomeReach kind easing at (negsuc 0) (pos 0)) shown
IsShownSurely kind easing at false false shown = shown ≡ surely_not

-- the loose value that a slot takes on a course
abbrev pub IsLooseOn : Kind → Slot → (Value → ℤ) → Course → Loose → Type 0
IsLooseOn kind slot part (still x) loose = IsLoose kind slot Linear zero_of_one (part x) (part x) loose
IsLooseOn kind slot part (moving interval) loose =
    IsLoose kind slot interval.easing interval.distance (part interval.from) (part interval.to) loose

-- the loose value that a channel takes on a course
abbrev pub IsLooseChannelOn : Kind → (Value → Shade) → Course → Loose → Type 0
IsLooseChannelOn kind part (still x) loose = loose ≡ one_value (own_level (part x))
IsLooseChannelOn kind part (moving interval) loose =
    IsLooseChannel kind interval.easing interval.distance (part interval.from) (part interval.to) loose

abbrev pub IsSurelyShownOn : Kind → Course → Sureness → Type 0
IsSurelyShownOn kind (still x) shown = IsShownSurely kind Linear zero_of_one (visible_of x) (visible_of x) shown
IsSurelyShownOn kind (moving interval) shown =
    IsShownSurely kind interval.easing interval.distance (visible_of interval.from) (visible_of interval.to) shown

-- a layer without a colour, which only a body may be, is surely not shown
abbrev pub IsSurelyShownWith : Kind → Option Rgba → Course → Sureness → Type 0
IsSurelyShownWith kind None course shown = shown ≡ surely_not
IsSurelyShownWith kind (Some colour) course shown = IsSurelyShownOn kind course shown

-- a layer in a frame, as a kind knows it
pub record LooseState : Type 0 where
  pub red : Loose
  pub green : Loose
  pub blue : Loose
  pub cover : Loose
  pub alpha : Loose
  pub shown : Sureness
  pub left : Loose
  pub top : Loose
  pub width : Loose
  pub height : Loose

-- the state of a layer in a frame by a kind
pub record IsLooseStateAt (kind : Kind) (scene : Scene) (setup : Setup) (frame : ℕ) (layer : Layer) (state : LooseState) : Type 0 where
  pub is_red : IsLooseChannelOn kind red_of (course_of scene setup frame layer Background) state.red
  pub is_green : IsLooseChannelOn kind green_of (course_of scene setup frame layer Background) state.green
  pub is_blue : IsLooseChannelOn kind blue_of (course_of scene setup frame layer Background) state.blue
  pub is_cover : IsLooseOn kind cover cover_of (course_of scene setup frame layer Background) state.cover
  pub is_alpha : IsLooseOn kind alpha alpha_of (course_of scene setup frame layer Opacity) state.alpha
  pub is_shown : IsSurelyShownWith kind layer.colour (course_of scene setup frame layer Visibility) state.shown
  pub is_left : IsLooseOn kind position length_of (course_of scene setup frame layer Left) state.left
  pub is_top : IsLooseOn kind position length_of (course_of scene setup frame layer Top) state.top
  pub is_width : IsLooseOn kind extent length_of (course_of scene setup frame layer Width) state.width
  pub is_height : IsLooseOn kind extent length_of (course_of scene setup frame layer Height) state.height

-- a run of loose states: of each frame and each layer, by number
abbrev pub LooseRun : Type 0
LooseRun = ℕ → ℕ → LooseState
