-- The whole value of a slot, rounded half up and held in its range. A cover, an alpha or a length is, from one value to another at
-- an eased value E, the greatest whole v for which (to - from) E reaches unit (v - 1/2) - from. A channel goes by the
-- premultiplied colours: CSS Color Level 4, "Interpolating with Alpha". The rounding is the project's own; interpolation is that
-- of CSS Animations Level 1 and its property types.
use Rattle.std.specs.Prelude.{ℕ, ℤ, pos, negsuc, neg_ℤ, Bool, true, false, ◌≡◌, ◌+◌, ◌*◌, ◌+ℤ◌, ◌-ℤ◌, ◌*ℤ◌, ◌≤ℤ◌, ◌<ℤ◌, min, int_le, nat_lt, if◌then◌else◌}
use Rattle.std.specs.Int.{int_min, int_max, int_div_euclid}
use Rattle.page_model.specs.declared.easing.Easing.{Easing}
use Rattle.page_model.specs.Curve.{Reaches}
use Rattle.page_model.specs.Fraction.{Fraction}

-- a kind of slot that isn't a channel: how many parts make one of its units, and its range
pub record Slot : Type 0 where
  pub unit : ℕ
  pub least : ℤ
  pub greatest : ℤ

-- cover: 255 times the alpha of a colour, from its parts of 255,000
abbrev pub cover : Slot
cover = record { unit = 1000; least = pos 0; greatest = pos 255 }

-- alpha: 255 times the thousandths of the opacity
abbrev pub alpha : Slot
alpha = record { unit = 1000; least = pos 0; greatest = pos 255 }

-- left and top in whole pixels, from hundredths
abbrev pub position : Slot
position = record { unit = 100; least = neg_ℤ (pos 8192); greatest = pos 8192 }

-- width and height in whole pixels, from hundredths
abbrev pub extent : Slot
extent = record { unit = 100; least = pos 0; greatest = pos 8192 }

-- a number in a range is the greatest there for which a fact holds that holds of no number above one where it fails
pub record IsGreatestIn (slot : Slot) (Holds : ℤ → Type 0) (v : ℤ) : Type 0 where
  pub at_least : slot.least ≤ℤ v
  pub at_most : v ≤ℤ slot.greatest
  pub reached : slot.least <ℤ v → Holds v
  pub greatest : v <ℤ slot.greatest → Holds (v +ℤ pos 1) → ⊥

-- twice the way from one value to another, and twice what is to be covered of it so that the slot rounds to v or more
abbrev pub twice_the_way : ℤ → ℤ → ℤ
twice_the_way from to = pos 2 *ℤ (to -ℤ from)

abbrev pub twice_to_cover : Slot → ℤ → ℤ → ℤ
twice_to_cover slot from v = pos slot.unit *ℤ (pos 2 *ℤ v -ℤ pos 1) -ℤ pos 2 *ℤ from

-- the value on the way from one value to another rounds to v or more
abbrev pub RoundsTo : Slot → Easing → Fraction → ℤ → ℤ → ℤ → Type 0
RoundsTo slot easing at from to v = Reaches easing at (twice_the_way from to) (twice_to_cover slot from v)

-- the slot's value on the way from one value to another, by an easing at an input
abbrev pub IsSlotValue : Slot → Easing → Fraction → ℤ → ℤ → ℤ → Type 0
IsSlotValue slot easing at from to v = IsGreatestIn slot (RoundsTo slot easing at from to) v

-- a number held in the range
abbrev pub held : Slot → ℤ → ℤ
held slot v = int_max slot.least (int_min v slot.greatest)

-- the same value, computed at a fraction: rounded half up, and held in the range
abbrev pub rounded : Slot → ℤ → ℤ → Fraction → ℤ
rounded slot from to x =
    int_div_euclid (pos 2 *ℤ (to -ℤ from) *ℤ pos x.num +ℤ pos 2 *ℤ from *ℤ pos x.den +ℤ pos (slot.unit * x.den))
    (pos (2 * slot.unit * x.den))

abbrev pub slot_value : Slot → ℤ → ℤ → Fraction → ℤ
slot_value slot from to x = held slot (rounded slot from to x)

-- A channel of a colour, from 0 to 255, with the colour's alpha in parts of 255,000.
pub record Shade : Type 0 where
  pub level : ℕ
  pub alpha : ℕ

-- the channel itself, held in its range
abbrev pub own_level : Shade → ℤ
own_level shade = pos (min shade.level 255)

-- a channel times its alpha
abbrev pub premultiplied : Shade → ℕ
premultiplied shade = shade.level * shade.alpha

-- on the way from one colour to another the alpha is 0 or less: -(to - from) E reaches from
abbrev pub fading : Shade → Shade → ℤ
fading from to = pos from.alpha -ℤ pos to.alpha

abbrev pub IsGone : Easing → Fraction → Shade → Shade → Type 0
IsGone easing at from to = Reaches easing at (fading from to) (pos from.alpha)

-- twice by how much the premultiplied channel is above v - 1/2 times the alpha
abbrev pub excess : ℤ → Shade → ℤ
excess v shade = pos (2 * premultiplied shade) -ℤ (pos 2 *ℤ v -ℤ pos 1) *ℤ pos shade.alpha

-- how much more it is at the second colour than at the first, and how much of that is due so that it is 0 or more
abbrev pub gain : Shade → Shade → ℤ → ℤ
gain from to v = excess v to -ℤ excess v from

abbrev pub due : Shade → ℤ → ℤ
due from v = neg_ℤ (excess v from)

-- the channel on the way from one colour to another rounds to v or more, where the alpha is above 0
abbrev pub RoundsToLevel : Easing → Fraction → Shade → Shade → ℤ → Type 0
RoundsToLevel easing at from to v = Reaches easing at (gain from to v) (due from v)

-- a number from 0 to 255 is the greatest there for which a fact holds, or 0 where it holds of none above
pub record IsGreatestLevel (Holds : ℤ → Type 0) (v : ℤ) : Type 0 where
  pub at_least : pos 0 ≤ℤ v
  pub at_most : v ≤ℤ pos 255
  pub reached : pos 0 <ℤ v → Holds v
  pub greatest : (w : ℤ) → v <ℤ w → w ≤ℤ pos 255 → Holds w → ⊥

-- a channel on the way from one colour to another: 0 where the alpha is gone, else the greatest that the way rounds to
pub record IsChannelValue (easing : Easing) (at : Fraction) (from to : Shade) (v : ℤ) : Type 0 where
  pub gone : IsGone easing at from to → v ≡ pos 0
  pub left : (IsGone easing at from to → ⊥) → IsGreatestLevel (RoundsToLevel easing at from to) v

-- the same value, computed at a fraction: a number on the way from one to another, in parts of the fraction's denominator, and the
-- premultiplied channel over the alpha
abbrev pub between : ℕ → ℕ → Fraction → ℤ
between from to x = pos (from * x.den + to * x.num) -ℤ pos (from * x.num)

abbrev pub held_level : ℤ → ℤ
held_level v = int_max (pos 0) (int_min v (pos 255))

abbrev pub over_alpha : ℤ → ℤ → ℤ
over_alpha product alpha =
    if int_le alpha (pos 0) then pos 0 else held_level (int_div_euclid (pos 2 *ℤ product +ℤ alpha) (pos 2 *ℤ alpha))

abbrev pub channel_value : Shade → Shade → Fraction → ℤ
channel_value from to x =
    over_alpha (between (premultiplied from) (premultiplied to) x) (between from.alpha to.alpha x)

-- Visible between two values, at an eased value E: strictly between 0 and 1 it is visible, at 0 and below it is the first value,
-- and at 1 and above the second. From visible to hidden it is hidden where E is 1 or more, from hidden to visible where -E is 0
-- or more, and between equal values it is that value.
pub record IsHiddenExactlyWhere (Hides : Type 0) (shown : Bool) : Type 0 where
  pub hidden : shown ≡ false → Hides
  pub visible : shown ≡ true → Hides → ⊥

abbrev pub IsShownValue : Easing → Fraction → Bool → Bool → Bool → Type 0
IsShownValue easing at true true shown = shown ≡ true
IsShownValue easing at true false shown = IsHiddenExactlyWhere (Reaches easing at (pos 1) (pos 1)) shown
IsShownValue easing at false true shown = IsHiddenExactlyWhere (Reaches easing at (negsuc 0) (pos 0)) shown
IsShownValue easing at false false shown = shown ≡ false

-- the same, computed at a fraction
abbrev pub shown_value : Bool → Bool → Fraction → Bool
shown_value true true x = true
shown_value true false x = nat_lt x.num x.den
shown_value false true x = nat_lt 0 x.num
shown_value false false x = false
