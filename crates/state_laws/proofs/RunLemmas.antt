-- It is impossible that a slot has no value, a layer no state, a window no run.
use Rattle.std.proofs.Common.{◌≡◌, ℕ, zero, suc, ◌+◌, ◌-◌, ◌<◌, ◌≤◌, ℤ, pos, negsuc, ◌+ℤ◌, ◌-ℤ◌, ◌≤ℤ◌, ◌<ℤ◌, min, true, false, Option, Some, None, nat_abs, nat_eq, length, slice_get, if◌then◌else◌, arith, refl, sym, subst, inl, inr, eq-eqb, ne_eqb}
use Rattle.std.proofs.lemmas.Bool.{cases_eq}
use Rattle.std.proofs.lemmas.Int.{ints, by_lt_z}
use Rattle.std.proofs.lemmas.Option.{slice_get_cases, slice_get_within}
use Rattle.page_model.specs.declared.colour.Rgba.{Rgba}
use Rattle.page_model.specs.declared.easing.Easing.TheVariants.{Linear}
use Rattle.page_model.specs.declared.property.Prop.TheVariants.{Background, Opacity, Visibility, Left, Top, Width, Height}
use Rattle.page_model.specs.declared.property.Value.{Value}
use Rattle.page_model.specs.declared.scene.Layer.{Layer}
use Rattle.page_model.specs.declared.scene.Scene.{Scene}
use Rattle.page_model.specs.Curve.{Reaches}
use Rattle.page_model.specs.declared.easing.Easing.{Easing}
use Rattle.page_model.specs.Fraction.{Fraction, zero_of_one}
use Rattle.page_model.specs.LayerAt.{Course, still, moving, State, IsStateAt, IsValueOn, IsChannelOn, IsShownOn, IsShownWith, course_of, visible_of, red_of, green_of, blue_of, cover_of, alpha_of, length_of}
use Rattle.page_model.specs.Slot.{Slot, Shade, cover, alpha, position, extent, IsChannelValue, IsGone, IsGreatestIn, IsGreatestLevel, IsHiddenExactlyWhere, RoundsTo, RoundsToLevel}
use Rattle.page_model.specs.Time.{window_of}
use Rattle.state_laws.specs.NoState.{no_state}
use Rattle.state_laws.specs.RunLaws.{IsMet, ChannelHasValue, SlotHasValue, ShownHasValue, StateExists, RunExists}

-- a slot from a number on, with so many more
abbrev from_on : ℕ → ℤ → ℕ → Slot
from_on unit least n = record { unit = unit; least = least; greatest = least +ℤ pos n }

-- some number of a range is the greatest: either it is the last one, or one of the range without it
greatest-met : (unit : ℕ) (least : ℤ) (n : ℕ) (Holds : ℤ → Type 0) → IsMet (IsGreatestIn (from_on unit least n) Holds)
greatest-met unit least zero Holds none =
    none least (record {
      at_least = omega (arith, ints);
      at_most = omega (arith, ints);
      reached = λ above. absurd (omega (arith, ints));
      greatest = λ below. absurd (omega (arith, ints));
    })
greatest-met unit least (suc n) Holds none =
    greatest-met unit least n Holds (λ v good. by_lt_z v (least +ℤ pos n)
    (λ less. none v (record {
      at_least = good.at_least;
      at_most = omega (arith, ints);
      reached = good.reached;
      greatest = λ below. good.greatest less;
    }))
    (λ last. none v (record {
      at_least = good.at_least;
      at_most = let most = good.at_most in omega (arith, ints);
      reached = good.reached;
      greatest = λ below holds. none (v +ℤ pos 1) (record {
        at_least = let low = good.at_least in omega (arith, ints);
        at_most = omega (arith, ints);
        reached = λ above. holds;
        greatest = λ more. absurd (let most = good.at_most in omega (arith, ints));
      });
    })))

-- so is one of any range that isn't empty
pub range-met : (slot : Slot) (Holds : ℤ → Type 0) → slot.least ≤ℤ slot.greatest → IsMet (IsGreatestIn slot Holds)
range-met slot Holds some none =
    subst (λ (last : ℤ). IsMet (IsGreatestIn (record { unit = slot.unit; least = slot.least; greatest = last }) Holds))
    (at_last slot.least slot.greatest some)
    (greatest-met slot.unit slot.least (nat_abs (slot.greatest -ℤ slot.least)) Holds) none
  where
    at_last : (a b : ℤ) → a ≤ℤ b → a +ℤ pos (nat_abs (b -ℤ a)) ≡ b
    at_last a b h = omega (arith, ints)

pub slot-met : SlotHasValue
slot-met slot easing at from to some = range-met slot (RoundsTo slot easing at from to) some

-- some level is the greatest: the one after which none holds any more, counted down from 255
level-below :
    (Holds : ℤ → Type 0) (n : ℕ) → n ≤ 255 → ((w : ℤ) → pos n <ℤ w → w ≤ℤ pos 255 → Holds w → ⊥) → IsMet (IsGreatestLevel Holds)
level-below Holds zero small above none =
    none (pos 0) (record {
      at_least = omega (arith, ints);
      at_most = omega (arith, ints);
      reached = λ more. absurd (omega (arith, ints));
      greatest = above;
    })
level-below Holds (suc n) small above none =
    level-below Holds n (omega arith) (λ w more most holds. by_lt_z (pos (suc n)) w
    (λ higher. above w higher most holds)
    (λ last. none (pos (suc n)) (record {
      at_least = omega (arith, ints);
      at_most = omega (arith, ints);
      reached = λ some. subst Holds (next w n more last) holds;
      greatest = above;
    }))) none
  where
    next : (w : ℤ) (n : ℕ) → pos n <ℤ w → w ≤ℤ pos (suc n) → w ≡ pos (suc n)
    next w n more last = omega (arith, ints)

pub level-met : (Holds : ℤ → Type 0) → IsMet (IsGreatestLevel Holds)
level-met Holds = level-below Holds 255 (omega arith) (λ w above most holds. absurd (omega (arith, ints)))

-- so a channel has a value: 0 if the alpha is gone
pub channel-met : ChannelHasValue
channel-met easing at from to none =
    level-met (RoundsToLevel easing at from to) (λ v good. none v (record {
      gone = λ gone. absurd (none (pos 0) (record { gone = λ again. refl; left = λ stays. absurd (stays gone) }));
      left = λ stays. good;
    }))

-- from 0 to 255
pub channel-at_least : (easing : Easing) (at : Fraction) (from to : Shade) (v : ℤ) → IsChannelValue easing at from to v → pos 0 ≤ℤ v
channel-at_least easing at from to v good =
    by_lt_z v (pos 0)
    (λ below. absurd (
    let stays : IsGone easing at from to → ⊥ = λ gone. let e = good.gone gone in omega (arith, ints) in
    let low = (good.left stays).at_least in omega (arith, ints)))
    (λ within. within)

pub channel-at_most : (easing : Easing) (at : Fraction) (from to : Shade) (v : ℤ) → IsChannelValue easing at from to v → v ≤ℤ pos 255
channel-at_most easing at from to v good =
    by_lt_z (pos 255) v
    (λ above. absurd (
    let stays : IsGone easing at from to → ⊥ = λ gone. let e = good.gone gone in omega (arith, ints) in
    let most = (good.left stays).at_most in omega (arith, ints)))
    (λ within. within)

-- hidden exactly where a fact holds: shown, if not hidden
hidden-met : (Hides : Type 0) → IsMet (IsHiddenExactlyWhere Hides)
hidden-met Hides none =
    none true (record {
      hidden = λ e. absurd (cc);
      visible = λ e hides. none false (record { hidden = λ f. hides; visible = λ f. absurd (cc) });
    })

pub shown-met : ShownHasValue
shown-met easing at true true none = none true refl
shown-met easing at true false none = hidden-met (Reaches easing at (pos 1) (pos 1)) none
shown-met easing at false true none = hidden-met (Reaches easing at (negsuc 0) (pos 0)) none
shown-met easing at false false none = none false refl

-- the parts of a state
value-met : (slot : Slot) (part : Value → ℤ) (course : Course) → slot.least ≤ℤ slot.greatest → IsMet (IsValueOn slot part course)
value-met slot part (still x) some none = slot-met slot Linear zero_of_one (part x) (part x) some none
value-met slot part (moving i) some none = slot-met slot i.easing i.distance (part i.from) (part i.to) some none

pub value-at_least : (slot : Slot) (part : Value → ℤ) (course : Course) (v : ℤ) → IsValueOn slot part course v → slot.least ≤ℤ v
value-at_least slot part (still x) v good = good.at_least
value-at_least slot part (moving i) v good = good.at_least

-- a part that isn't below 0 is a natural number
natural-met :
    (slot : Slot) (part : Value → ℤ) (course : Course) → slot.least ≤ℤ slot.greatest → pos 0 ≤ℤ slot.least
    → IsMet (λ (n : ℕ). IsValueOn slot part course (pos n))
natural-met slot part course some low none = value-met slot part course some (take slot part course low none)
  where
    take :
        (slot : Slot) (part : Value → ℤ) (course : Course) → pos 0 ≤ℤ slot.least
        → ((n : ℕ) → IsValueOn slot part course (pos n) → ⊥) → (v : ℤ) → IsValueOn slot part course v → ⊥
    take slot part course low none (pos n) good = none n good
    take slot part course low none (negsuc n) good =
        let least = value-at_least slot part course (negsuc n) good in absurd (omega (arith, ints))

-- a channel on a course is a number from 0 to 255
pub channel_on-at_least : (part : Value → Shade) (course : Course) (v : ℤ) → IsChannelOn part course v → pos 0 ≤ℤ v
channel_on-at_least part (still x) v same = rw same (omega (arith, ints))
channel_on-at_least part (moving i) v good = channel-at_least i.easing i.distance (part i.from) (part i.to) v good

pub channel_on-at_most : (part : Value → Shade) (course : Course) (v : ℤ) → IsChannelOn part course v → v ≤ℤ pos 255
channel_on-at_most part (still x) v same = rw same (omega (arith, ints))
channel_on-at_most part (moving i) v good = channel-at_most i.easing i.distance (part i.from) (part i.to) v good

channel_on-met : (part : Value → Shade) (course : Course) → IsMet (λ (n : ℕ). IsChannelOn part course (pos n))
channel_on-met part (still x) none = none (min (part x).level 255) refl
channel_on-met part (moving i) none =
    channel-met i.easing i.distance (part i.from) (part i.to) (take i.easing i.distance (part i.from) (part i.to) none)
  where
    take :
        (easing : Easing) (at : Fraction) (from to : Shade) → ((n : ℕ) → IsChannelValue easing at from to (pos n) → ⊥) → (v : ℤ)
        → IsChannelValue easing at from to v → ⊥
    take easing at from to none (pos n) good = none n good
    take easing at from to none (negsuc n) good =
        let least = channel-at_least easing at from to (negsuc n) good in absurd (omega (arith, ints))

shown_on-met : (course : Course) → IsMet (IsShownOn course)
shown_on-met (still x) none = none (visible_of x) refl
shown_on-met (moving i) none = shown-met i.easing i.distance (visible_of i.from) (visible_of i.to) none

shown_with-met : (colour : Option Rgba) (course : Course) → IsMet (IsShownWith colour course)
shown_with-met None course none = none false refl
shown_with-met (Some c) course none = shown_on-met course none

-- each part of a state one after the other
pub state-met : StateExists
state-met scene setup frame layer none =
    let fill = course_of scene setup frame layer Background in
    let solid = course_of scene setup frame layer Opacity in
    channel_on-met red_of fill λ r red.
    channel_on-met green_of fill λ g green.
    channel_on-met blue_of fill λ b blue.
    natural-met cover cover_of fill (omega (arith, ints)) (omega (arith, ints)) λ c covered.
    natural-met alpha alpha_of solid (omega (arith, ints)) (omega (arith, ints)) λ a opaque.
    shown_with-met layer.colour (course_of scene setup frame layer Visibility) λ s shown.
    value-met position length_of (course_of scene setup frame layer Left) (omega (arith, ints)) λ x left.
    value-met position length_of (course_of scene setup frame layer Top) (omega (arith, ints)) λ y top.
    value-met extent length_of (course_of scene setup frame layer Width) (omega (arith, ints)) λ w width.
    value-met extent length_of (course_of scene setup frame layer Height) (omega (arith, ints)) λ h height.
    none
    (record { red = r; green = g; blue = b; cover = c; alpha = a; shown = s; left = x; top = y; width = w; height = h })
    (record {
      is_red = red;
      is_green = green;
      is_blue = blue;
      is_cover = covered;
      is_alpha = opaque;
      is_shown = shown;
      is_left = left;
      is_top = top;
      is_width = width;
      is_height = height;
    })

-- of finitely many facts, each of which something meets, one function meets all
pub choice :
    (A : Type 0) (other : A) (Meets : ℕ → A → Type 0) (n : ℕ) → ((k : ℕ) → k < n → IsMet (Meets k))
    → IsMet (λ (f : ℕ → A). (k : ℕ) → k < n → Meets k (f k))
choice A other Meets zero each none = none (λ k. other) (λ k within. absurd (omega arith))
choice A other Meets (suc n) each none =
    choice A other Meets n (λ k within. each k (omega arith)) (λ f good. each n (omega arith) (λ a here.
    none (λ k. if nat_eq k n then a else f k) (λ k within. extended A Meets n k f a within here good)))
  where
    extended :
        (A : Type 0) (Meets : ℕ → A → Type 0) (n k : ℕ) (f : ℕ → A) (a : A) → k < suc n → Meets n a
        → ((j : ℕ) → j < n → Meets j (f j)) → Meets k (if nat_eq k n then a else f k)
    extended A Meets n k f a within here good =
        elim (cases_eq k n) [
          | inl e ↦ rw (eq-eqb k n e) (subst (λ (j : ℕ). Meets j a) (sym e) here)
          | inr apart ↦ rw (ne_eqb k n apart) (good k (omega arith))
        ]

-- what each layer in each frame has
abbrev pub OfLayers : {A : Type 0} → Scene → (Layer → A → Type 0) → (ℕ → A) → Type 0
OfLayers {A} scene Is states =
    (number : ℕ) (layer : Layer) → slice_get scene.layers number ≡ Some layer → Is layer (states number)

layer-met :
    (A : Type 0) (other : A) (scene : Scene) (Is : Layer → A → Type 0) (number : ℕ) → ((layer : Layer) → IsMet (Is layer))
    → IsMet (λ (state : A). (layer : Layer) → slice_get scene.layers number ≡ Some layer → Is layer state)
layer-met A other scene Is number each none =
    elim (slice_get_cases scene.layers number).1 [
      | inl there ↦ each there.0 (λ state good. none state (λ layer e.
          let found = there.2 in
          let same : there.0 ≡ layer = cc in subst (λ (l : Layer). Is l state) same good))
      | inr past ↦ none other (λ layer e. absurd (let gone = past.1 in cc))
    ]

frame-met :
    (A : Type 0) (other : A) (scene : Scene) (Is : Layer → A → Type 0) → ((layer : Layer) → IsMet (Is layer))
    → IsMet (OfLayers scene Is)
frame-met A other scene Is each none =
    choice A other
    (λ (number : ℕ) (state : A). (layer : Layer) → slice_get scene.layers number ≡ Some layer → Is layer state)
    (length scene.layers)
    (λ number within. layer-met A other scene Is number each)
    (λ states good. none states (λ number layer e. good number (slice_get_within scene.layers number layer e) layer e))

-- and all of them in the frames of a window, of which there are finitely many
pub window-met :
    (A : Type 0) (other : A) (scene : Scene) (start window : ℕ) (Is : ℕ → Layer → A → Type 0)
    → ((frame : ℕ) (layer : Layer) → IsMet (Is frame layer))
    → IsMet (λ (run : ℕ → ℕ → A). (frame number : ℕ) (layer : Layer) → start ≤ frame → frame ≤ start + window
    → slice_get scene.layers number ≡ Some layer → Is frame layer (run frame number))
window-met A other scene start window Is each none =
    choice (ℕ → A) (λ number. other) (λ (j : ℕ) (states : ℕ → A). OfLayers scene (Is (start + j)) states)
    (suc window)
    (λ j within. frame-met A other scene (Is (start + j)) (each (start + j)))
    (λ run good. none (λ frame. run (frame - start)) (λ frame number layer low high e.
    let same : start + (frame - start) ≡ frame = omega arith in
    subst (λ (k : ℕ). Is k layer (run (frame - start) number)) same
    (good (frame - start) (omega arith) number layer e)))

pub run-met : RunExists
run-met scene setup start =
    window-met State no_state scene start (window_of setup) (IsStateAt scene setup) (state-met scene setup)
