-- Between which two keyframes a property is: CSS Animations Level 1, "Keyframes". A value that is missing at 0% or 100% is the
-- element's value without any animation. Offsets are in hundredths of a percent.
use Rattle.std.specs.Prelude.{ℕ, Bool, false, not, Option, None, ◌≡◌, ◌-◌, ◌*◌, ◌==◌, ◌&&◌, List, [], ◌∷◌, ◌++◌, length, nat_lt, nat_le, if◌then◌else◌, filter, filter_map, find, slice_get, option_map, option_and_then, unwrap_or, IsTrue, All}
use Rattle.std.specs.List.{list_any}
use Rattle.page_model.specs.declared.property.Prop.{Prop}
use Rattle.page_model.specs.declared.property.Prop.TheVariants.{Background, Opacity, Visibility, Left, Top, Width, Height}
use Rattle.page_model.specs.declared.property.Value.{Value}
use Rattle.page_model.specs.declared.property.Setting.{Setting}
use Rattle.page_model.specs.declared.easing.Easing.{Easing}
use Rattle.page_model.specs.declared.keyframe.Keyframe.{Keyframe}
use Rattle.page_model.specs.Fraction.{Fraction}

-- a number for each property, by which two are compared
abbrev pub number_of : Prop → ℕ
number_of Background = 0
number_of Opacity = 1
number_of Visibility = 2
number_of Left = 3
number_of Top = 4
number_of Width = 5
number_of Height = 6

abbrev pub is_same : Prop → Prop → Bool
is_same p q = number_of p == number_of q

-- the value of a property among some settings
abbrev pub value_in : Prop → List Setting → Option Value
value_in prop values = option_map (λ (setting : Setting). setting.value) (find (λ (setting : Setting). is_same setting.prop prop) values)

-- a stop of one property: its offset, its value there, and the easing from there on where it has its own
pub record Stop : Type 0 where
  pub offset : ℕ
  pub value : Value
  pub easing : Option Easing

abbrev pub stop_of : Prop → Keyframe → Option Stop
stop_of prop frame =
    option_map (λ (value : Value). record { offset = frame.offset; value = value; easing = frame.easing })
    (value_in prop frame.values)

-- the keyframes that name the property
abbrev pub stops_of : Prop → List Keyframe → List Stop
stops_of prop frames = filter_map (stop_of prop) frames

abbrev pub names : Prop → List Keyframe → Bool
names prop frames = nat_lt 0 (length (stops_of prop frames))

abbrev pub has_stop_at : ℕ → List Stop → Bool
has_stop_at offset stops = list_any (λ (stop : Stop). stop.offset == offset) stops

-- a stop with the element's own value, where there is none at an offset
abbrev pub added_at : ℕ → Value → List Stop → List Stop
added_at offset own stops =
    if has_stop_at offset stops then [] else record { offset = offset; value = own; easing = None } ∷ []

-- the stops, with the element's own value at 0% and 100% where they have none there
abbrev pub whole : Value → List Stop → List Stop
whole own stops = added_at 0 own stops ++ (stops ++ added_at 10000 own stops)

-- a progress has reached a stop, which isn't the one at 100%
abbrev pub is_reached : Fraction → Stop → Bool
is_reached at stop = nat_lt stop.offset 10000 && nat_le (stop.offset * at.den) (10000 * at.num)

-- how far a progress is from one offset to another
abbrev pub distance : ℕ → ℕ → Fraction → Fraction
distance from to at = record { num = 10000 * at.num - from * at.den; den = (to - from) * at.den }

-- a value on its way to another: by an easing, at a distance from 0 to 1
pub record Interval : Type 0 where
  pub from : Value
  pub to : Value
  pub easing : Easing
  pub distance : Fraction

abbrev pub interval_between : Easing → Fraction → Stop → Stop → Interval
interval_between easing at first second = record {
  from = first.value;
  to = second.value;
  easing = unwrap_or first.easing easing;
  distance = distance first.offset second.offset at;
}

-- The interval of a list of stops: from the last stop that is reached to the one after it.
pub record IsInterval (easing : Easing) (at : Fraction) (stops : List Stop) (interval : Interval) : Type 0 where
  pub earlier : List Stop
  pub first : Stop
  pub second : Stop
  pub later : List Stop
  pub stops_are : stops ≡ earlier ++ (first ∷ (second ∷ later))
  pub reached : IsTrue (is_reached at first)
  pub ahead : All (λ stop. is_reached at stop ≡ false) (second ∷ later)
  pub interval_is : interval ≡ interval_between easing at first second

-- the last and the first of some
abbrev pub last_of : {X : Type 0} → List X → Option X
last_of xs = slice_get xs (length xs - 1)

abbrev pub first_of : {X : Type 0} → List X → Option X
first_of xs = slice_get xs 0

-- the same interval, computed: from the last of the stops that are reached to the first of the others
abbrev pub interval_in : Easing → Fraction → List Stop → Option Interval
interval_in easing at stops =
    option_and_then
    (λ first. option_map (interval_between easing at first) (first_of (filter (λ stop. not (is_reached at stop)) stops)))
    (last_of (filter (is_reached at) stops))

-- the interval of a property in a set, or none where the set doesn't name it
abbrev pub interval_of : List Keyframe → Prop → Value → Easing → Fraction → Option Interval
interval_of frames prop own easing at =
    if names prop frames then interval_in easing at (whole own (stops_of prop frames)) else None
