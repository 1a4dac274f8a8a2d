-- What is reached grows less with what is asked for, and so the greatest number of a slot is one number.
use Rattle.std.proofs.Common.{◌≡◌, ℕ, ◌*◌, ◌^◌, ℤ, pos, negsuc, ◌+ℤ◌, ◌-ℤ◌, ◌*ℤ◌, ◌≤ℤ◌, ◌<ℤ◌, Bool, true, false, Option, Some, None, nat_abs, arith, refl, mul-le-mul_right}
use Rattle.std.proofs.lemmas.Int.{ints, by_lt_z}
use borrow.Author.Differences.{le_out}
use Rattle.page_model.specs.declared.colour.Rgba.{Rgba}
use Rattle.page_model.specs.declared.easing.Easing.{Easing}
use Rattle.page_model.specs.declared.easing.Easing.TheVariants.{Linear, Steps, Cubic}
use Rattle.page_model.specs.declared.property.Value.{Value}
use Rattle.page_model.specs.Curve.{Reaches, ReachesAt, FractionReaches, curve_height, stepped}
use Rattle.page_model.specs.Fraction.{Fraction, zero_of_one}
use Rattle.page_model.specs.LayerAt.{Course, still, moving, State, IsValueOn, IsChannelOn, IsShownOn, IsShownWith, red_of, green_of, blue_of, cover_of, alpha_of, length_of}
use Rattle.page_model.specs.Slot.{Slot, Shade, cover, alpha, position, extent, IsChannelValue, IsGone, IsGreatestIn, IsGreatestLevel, IsHiddenExactlyWhere, RoundsTo, twice_to_cover, twice_the_way}
use Rattle.state_laws.specs.UniqueLaws.{ChannelIsUnique, SlotIsUnique, ShownIsUnique, StateIsUnique}

-- with a number each smaller one holds
abbrev pub IsAntitone : (ℤ → Type 0) → Type 0
IsAntitone Holds = (v w : ℤ) → v ≤ℤ w → Holds w → Holds v

-- of an antitone fact the greatest number in a range is one
pub greatest-unique :
    (slot : Slot) (Holds : ℤ → Type 0) (v w : ℤ) → IsAntitone Holds → IsGreatestIn slot Holds v → IsGreatestIn slot Holds w → v ≡ w
greatest-unique slot Holds v w antitone first second =
    by_lt_z v w (λ less. absurd (apart slot Holds v w antitone first second less))
    (λ least. by_lt_z w v (λ less. absurd (apart slot Holds w v antitone second first less)) (λ other. omega (arith, ints)))
  where
    apart : (slot : Slot) (Holds : ℤ → Type 0) (v w : ℤ) → IsAntitone Holds → IsGreatestIn slot Holds v → IsGreatestIn slot Holds w → v <ℤ w → ⊥
    apart slot Holds v w antitone first second less =
        let low = first.at_least in
        let high = second.at_most in
        let inside : v <ℤ slot.greatest = omega (arith, ints) in
        let above : slot.least <ℤ w = omega (arith, ints) in
        let next : (v +ℤ pos 1) ≤ℤ w = omega (arith, ints) in
        first.greatest inside (antitone (v +ℤ pos 1) w next (second.reached above))

-- a larger number times a positive one is larger
pub times-mono : (b c : ℤ) (n : ℕ) → b ≤ℤ c → (b *ℤ pos n) ≤ℤ (c *ℤ pos n)
times-mono b c n below =
    let h = mul-le-mul_right n (le_out b c below) in
    omega (arith, ints)

pub times-mono_left : (b c : ℤ) (n : ℕ) → b ≤ℤ c → (pos n *ℤ b) ≤ℤ (pos n *ℤ c)
times-mono_left b c n below =
    let h = mul-le-mul_right n (le_out b c below) in
    omega (arith, ints)

at_most-trans : (a b c : ℤ) → a ≤ℤ b → b ≤ℤ c → a ≤ℤ c
at_most-trans a b c p q = omega (arith, ints)

-- what is reached by a fraction, a step or a curve is reached where less is asked for
pub FractionReaches-antitone : (x : Fraction) (a b c : ℤ) → b ≤ℤ c → FractionReaches x a c → FractionReaches x a b
FractionReaches-antitone x a b c below reached =
    at_most-trans (b *ℤ pos x.den) (c *ℤ pos x.den) (a *ℤ pos x.num) (times-mono b c x.den below) reached

pub ReachesAt-antitone :
    (x1 : ℕ) (y1 : ℤ) (x2 : ℕ) (y2 : ℤ) (at : Fraction) (a b c : ℤ) (m : ℕ) → b ≤ℤ c → ReachesAt x1 y1 x2 y2 at a c m
    → ReachesAt x1 y1 x2 y2 at a b m
ReachesAt-antitone x1 y1 x2 y2 at a b c m below reached =
    at_most-trans (b *ℤ pos (1000 * (m * m * m))) (c *ℤ pos (1000 * (m * m * m)))
    (a *ℤ curve_height x1 y1 x2 y2 at m +ℤ pos (24000 * nat_abs a * (m * m)))
    (times-mono b c (1000 * (m * m * m)) below) reached

pub Reaches-antitone : (easing : Easing) (at : Fraction) (a b c : ℤ) → b ≤ℤ c → Reaches easing at a c → Reaches easing at a b
Reaches-antitone Linear at a b c below reached = FractionReaches-antitone at a b c below reached
Reaches-antitone (Steps count jump) at a b c below reached = FractionReaches-antitone (stepped count jump at) a b c below reached
Reaches-antitone (Cubic x1 y1 x2 y2) at a b c below reached =
    λ e. ReachesAt-antitone x1 y1 x2 y2 at a b c (2 ^ e) below (reached e)

-- a larger value has more to cover
pub twice_to_cover-mono : (slot : Slot) (from v w : ℤ) → v ≤ℤ w → twice_to_cover slot from v ≤ℤ twice_to_cover slot from w
twice_to_cover-mono slot from v w below =
    let step : (pos 2 *ℤ v -ℤ pos 1) ≤ℤ (pos 2 *ℤ w -ℤ pos 1) = omega (arith, ints) in
    let scaled = times-mono_left (pos 2 *ℤ v -ℤ pos 1) (pos 2 *ℤ w -ℤ pos 1) slot.unit step in
    less (pos slot.unit *ℤ (pos 2 *ℤ v -ℤ pos 1)) (pos slot.unit *ℤ (pos 2 *ℤ w -ℤ pos 1)) (pos 2 *ℤ from) scaled
  where
    less : (a b c : ℤ) → a ≤ℤ b → (a -ℤ c) ≤ℤ (b -ℤ c)
    less a b c h = omega (arith, ints)

pub RoundsTo-antitone : (slot : Slot) (easing : Easing) (at : Fraction) (from to : ℤ) → IsAntitone (RoundsTo slot easing at from to)
RoundsTo-antitone slot easing at from to v w below reached =
    Reaches-antitone easing at (twice_the_way from to) (twice_to_cover slot from v) (twice_to_cover slot from w)
    (twice_to_cover-mono slot from v w below) reached

-- so a slot has one value
pub slot-unique : SlotIsUnique
slot-unique slot easing at from to v w first second =
    greatest-unique slot (RoundsTo slot easing at from to) v w (RoundsTo-antitone slot easing at from to) first second

-- the greatest level of all is one, whatever it is a level of
levels-apart : (Holds : ℤ → Type 0) (v w : ℤ) → IsGreatestLevel Holds v → IsGreatestLevel Holds w → v <ℤ w → ⊥
levels-apart Holds v w first second less =
    let low = first.at_least in
    let above : pos 0 <ℤ w = omega (arith, ints) in
    first.greatest w less second.at_most (second.reached above)

pub level-unique : (Holds : ℤ → Type 0) (v w : ℤ) → IsGreatestLevel Holds v → IsGreatestLevel Holds w → v ≡ w
level-unique Holds v w first second =
    by_lt_z v w (λ less. absurd (levels-apart Holds v w first second less))
    (λ least. by_lt_z w v (λ less. absurd (levels-apart Holds w v second first less)) (λ other. omega (arith, ints)))

-- the greatest level of a fact isn't above that of one which it implies
pub level-mono : (P Q : ℤ → Type 0) (v w : ℤ) → ((u : ℤ) → P u → Q u) → IsGreatestLevel P v → IsGreatestLevel Q w → v ≤ℤ w
level-mono P Q v w implied first second =
    by_lt_z w v (λ above. absurd (second.greatest v above first.at_most
    (implied v (first.reached (some w v second.at_least above)))))
    (λ below. below)
  where
    some : (w v : ℤ) → pos 0 ≤ℤ w → w <ℤ v → pos 0 <ℤ v
    some w v low above = omega (arith, ints)

-- so a channel has one value: where the alpha is gone both are 0
channels-apart :
    (easing : Easing) (at : Fraction) (from to : Shade) (v w : ℤ) → IsChannelValue easing at from to v
    → IsChannelValue easing at from to w → v <ℤ w → ⊥
channels-apart easing at from to v w first second less =
    let stays : IsGone easing at from to → ⊥ = λ gone. none v w (first.gone gone) (second.gone gone) less in
    levels-apart _ v w (first.left stays) (second.left stays) less
  where
    none : (v w : ℤ) → v ≡ pos 0 → w ≡ pos 0 → v <ℤ w → ⊥
    none v w e f less = omega (arith, ints)

pub channel-unique : ChannelIsUnique
channel-unique easing at from to v w first second =
    by_lt_z v w (λ less. absurd (channels-apart easing at from to v w first second less))
    (λ least. by_lt_z w v (λ less. absurd (channels-apart easing at from to w v second first less)) (λ other. omega (arith, ints)))

-- hidden exactly where a fact holds: there is one answer
hidden-unique : (Hides : Type 0) (shown other : Bool) → IsHiddenExactlyWhere Hides shown → IsHiddenExactlyWhere Hides other → shown ≡ other
hidden-unique Hides true true first second = refl
hidden-unique Hides true false first second = absurd (first.visible refl (second.hidden refl))
hidden-unique Hides false true first second = absurd (second.visible refl (first.hidden refl))
hidden-unique Hides false false first second = refl

pub shown-unique : ShownIsUnique
shown-unique easing at true true shown other first second = cc
shown-unique easing at true false shown other first second = hidden-unique (Reaches easing at (pos 1) (pos 1)) shown other first second
shown-unique easing at false true shown other first second = hidden-unique (Reaches easing at (negsuc 0) (pos 0)) shown other first second
shown-unique easing at false false shown other first second = cc

-- and so has a part of a layer's course
pub value-unique : (slot : Slot) (part : Value → ℤ) (course : Course) (v w : ℤ) → IsValueOn slot part course v → IsValueOn slot part course w → v ≡ w
value-unique slot part (still x) v w first second = slot-unique slot Linear zero_of_one (part x) (part x) v w first second
value-unique slot part (moving i) v w first second = slot-unique slot i.easing i.distance (part i.from) (part i.to) v w first second

part-unique : (slot : Slot) (part : Value → ℤ) (course : Course) (m n : ℕ) → IsValueOn slot part course (pos m) → IsValueOn slot part course (pos n) → m ≡ n
part-unique slot part course m n first second =
    let same = value-unique slot part course (pos m) (pos n) first second in cc

pub channel_on-unique : (part : Value → Shade) (course : Course) (v w : ℤ) → IsChannelOn part course v → IsChannelOn part course w → v ≡ w
channel_on-unique part (still x) v w first second = cc
channel_on-unique part (moving i) v w first second = channel-unique i.easing i.distance (part i.from) (part i.to) v w first second

level_on-unique : (part : Value → Shade) (course : Course) (m n : ℕ) → IsChannelOn part course (pos m) → IsChannelOn part course (pos n) → m ≡ n
level_on-unique part course m n first second =
    let same = channel_on-unique part course (pos m) (pos n) first second in cc

shown_on-unique : (course : Course) (shown other : Bool) → IsShownOn course shown → IsShownOn course other → shown ≡ other
shown_on-unique (still x) shown other first second = cc
shown_on-unique (moving i) shown other first second = shown-unique i.easing i.distance _ _ shown other first second

shown_with-unique : (colour : Option Rgba) (course : Course) (shown other : Bool) → IsShownWith colour course shown → IsShownWith colour course other → shown ≡ other
shown_with-unique None course shown other first second = cc
shown_with-unique (Some c) course shown other first second = shown_on-unique course shown other first second

-- states with equal parts are equal
same_state :
    (s t : State) → s.red ≡ t.red → s.green ≡ t.green → s.blue ≡ t.blue → s.cover ≡ t.cover → s.alpha ≡ t.alpha → s.shown ≡ t.shown → s.left ≡ t.left
    → s.top ≡ t.top → s.width ≡ t.width → s.height ≡ t.height → s ≡ t
same_state s t r g b c a v l u w h = λ i. record {
  red = r i;
  green = g i;
  blue = b i;
  cover = c i;
  alpha = a i;
  shown = v i;
  left = l i;
  top = u i;
  width = w i;
  height = h i;
}

pub state-unique : StateIsUnique
state-unique scene setup frame layer s t first second =
    same_state s t
    (level_on-unique red_of _ s.red t.red first.is_red second.is_red)
    (level_on-unique green_of _ s.green t.green first.is_green second.is_green)
    (level_on-unique blue_of _ s.blue t.blue first.is_blue second.is_blue)
    (part-unique cover cover_of _ s.cover t.cover first.is_cover second.is_cover)
    (part-unique alpha alpha_of _ s.alpha t.alpha first.is_alpha second.is_alpha)
    (shown_with-unique _ _ s.shown t.shown first.is_shown second.is_shown)
    (value-unique position length_of _ s.left t.left first.is_left second.is_left)
    (value-unique position length_of _ s.top t.top first.is_top second.is_top)
    (value-unique extent length_of _ s.width t.width first.is_width second.is_width)
    (value-unique extent length_of _ s.height t.height first.is_height second.is_height)
