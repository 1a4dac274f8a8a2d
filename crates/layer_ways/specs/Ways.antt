-- A property on its way: from one value to another, with so much of the way made as is known of an eased value, which is between two
-- ends. A value that stays is on its way to itself, so each course is a way; whether it moves is told beside, since a channel that stays
-- is the colour's own.
use Rattle.std.specs.Prelude.{ℕ, ℤ, pos, Bool, true, false, Option, ◌^◌, int_le, List, filter_map, option_map, if◌then◌else◌}
use Rattle.page_model.specs.declared.animation.Anim.{Anim}
use Rattle.page_model.specs.declared.property.Prop.{Prop}
use Rattle.page_model.specs.declared.property.Value.{Value}
use Rattle.page_model.specs.declared.scene.Layer.{Layer}
use Rattle.page_model.specs.declared.scene.Scene.{Scene}
use Rattle.page_model.specs.declared.setup.Setup.{Setup}
use Rattle.page_model.specs.Enclosure.{Loose, Sureness, maybe, one_value, surely, surely_not}
use Rattle.page_model.specs.Keyframes.{Interval, last_of}
use Rattle.page_model.specs.LayerAt.{Course, still, moving, declared, interval_at, visible_of}
use Rattle.page_model.specs.Slot.{Shade, Slot, own_level}
use Rattle.fix_span.specs.Frac.{fraction_of}
use Rattle.keyframe_sets.specs.declared.types.Interval.{Interval as Found}
use Rattle.easing_bounds.specs.declared.types.Eased.{Eased}
use Rattle.easing_bounds.specs.declared.types.Eased.TheVariants.{Exact, Within}
use Rattle.easing_bounds.specs.Value.{eased_value}
use Rattle.slot_values.specs.Channels.{channel_between}
use Rattle.slot_values.specs.Ends.{End, end_of, nothing_made}
use Rattle.slot_values.specs.Slots.{slot_between}
use Rattle.layer_ways.specs.declared.types.Shown.{Shown}
use Rattle.layer_ways.specs.declared.types.Shown.TheVariants.{Yes, No, Maybe}
use Rattle.layer_ways.specs.declared.way.Way.{Way as Made}

-- an end of a curve's value
abbrev pub curve_end : ℤ → End
curve_end parts = record { num = parts; den = 2 ^ 30 }

-- the two ends of an eased value, which are one where it is a fraction
abbrev pub least_of : Eased → End
least_of (Exact y) = end_of y
least_of (Within span) = curve_end span.lo

abbrev pub greatest_of : Eased → End
greatest_of (Exact y) = end_of y
greatest_of (Within span) = curve_end span.hi

pub record Way : Type 0 where
  pub from : Value
  pub to : Value
  pub least : End
  pub greatest : End
  pub moves : Bool

abbrev pub stays : Value → Way
stays x = record { from = x; to = x; least = nothing_made; greatest = nothing_made; moves = false }

abbrev pub eased_way : Interval → Way
eased_way interval = record {
  from = interval.from;
  to = interval.to;
  least = least_of (eased_value interval.easing interval.distance);
  greatest = greatest_of (eased_value interval.easing interval.distance);
  moves = true;
}

abbrev pub way_of : Course → Way
way_of (still x) = stays x
way_of (moving interval) = eased_way interval

-- a slot on a way
abbrev pub value_by : Slot → (Value → ℤ) → Way → Loose
value_by slot part way = slot_between slot (part way.from) (part way.to) way.least way.greatest

-- a channel on a way
abbrev pub level_by : Shade → Shade → End → End → Bool → Loose
level_by from to least greatest moves = if moves then channel_between from to least greatest else one_value (own_level from)

abbrev pub channel_by : (Value → Shade) → Way → Loose
channel_by part way = level_by (part way.from) (part way.to) way.least way.greatest way.moves

-- whether a box is hidden at an end, between two visibilities
abbrev pub hides_at : Bool → Bool → End → Bool
hides_at true true x = false
hides_at true false x = int_le (pos x.den) x.num
hides_at false true x = int_le x.num (pos 0)
hides_at false false x = true

-- how surely it is shown: hidden at both ends, at none or at one of them
abbrev pub unless_hidden : Bool → Bool → Sureness
unless_hidden true true = surely_not
unless_hidden true false = maybe
unless_hidden false true = maybe
unless_hidden false false = surely

abbrev pub shown_between : Bool → Bool → End → End → Sureness
shown_between from to least greatest = unless_hidden (hides_at from to least) (hides_at from to greatest)

abbrev pub shown_by : Way → Sureness
shown_by way = shown_between (visible_of way.from) (visible_of way.to) way.least way.greatest

-- the code's own types as the definitions have them
abbrev pub interval_as : Found → Interval
interval_as interval = record {
  from = interval.from;
  to = interval.to;
  easing = interval.easing;
  distance = fraction_of interval.distance;
}

abbrev pub way_as : Made → Way
way_as way = record { from = way.from; to = way.to; least = end_of way.least; greatest = end_of way.greatest; moves = true }

abbrev pub sureness_of : Shown → Sureness
sureness_of Yes = surely
sureness_of No = surely_not
sureness_of Maybe = maybe

-- the way by the last of some animations that has an effect and names the property
abbrev pub last_way : Scene → Setup → ℕ → Layer → List Anim → Prop → Option Way
last_way scene setup frame layer anims prop =
    option_map eased_way (last_of (filter_map (interval_at scene.sets setup frame prop (declared layer prop)) anims))
