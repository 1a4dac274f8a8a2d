-- By each kind a slot has one loose value, and a layer one loose state; and it is impossible that there is none.
use Rattle.std.proofs.Common.{◌≡◌, ℕ, ◌^◌, ℤ, pos, negsuc, ◌+ℤ◌, ◌-ℤ◌, ◌*ℤ◌, ◌≤ℤ◌, Bool, true, false, Option, Some, None, nat_abs, arith, refl, ap}
use Rattle.std.specs.Int.{int_max, int_min}
use Rattle.std.proofs.lemmas.Int.{ints, by_lt_z, clamps}
use Rattle.page_model.specs.declared.colour.Rgba.{Rgba}
use Rattle.page_model.specs.declared.easing.Easing.{Easing}
use Rattle.page_model.specs.declared.easing.Easing.TheVariants.{Linear, Steps, Cubic}
use Rattle.page_model.specs.declared.property.Prop.TheVariants.{Background, Opacity, Visibility, Left, Top, Width, Height}
use Rattle.page_model.specs.declared.property.Value.{Value}
use Rattle.page_model.specs.declared.scene.Layer.{Layer}
use Rattle.page_model.specs.declared.scene.Scene.{Scene}
use Rattle.page_model.specs.declared.setup.Setup.{Setup}
use Rattle.page_model.specs.Enclosure.{AllGone, AllReach, AllReachInside, AreLevels, IsHiddenSurely, IsLoose, IsLooseChannel, IsLooseChannelOn, IsLooseOn, IsLooseStateAt, IsShownSurely, IsSurelyShownOn, IsSurelyShownWith, Kind, Loose, LooseState, SomeGone, SomeReach, SomeReachInside, Sureness, any_level, exact, kind_at, maybe, one_value, own, own_greatest, own_least, surely, surely_not, wide}
use Rattle.page_model.specs.Fraction.{Fraction, zero_of_one}
use Rattle.page_model.specs.LayerAt.{Course, alpha_of, blue_of, course_of, cover_of, green_of, length_of, moving, red_of, still, visible_of}
use Rattle.page_model.specs.Slot.{Shade, Slot, alpha, cover, due, extent, fading, gain, position, own_level, twice_the_way, twice_to_cover}
use Rattle.page_model.specs.Time.{window_of}
use Rattle.wide_laws.specs.LooseLaws.{LooseRunExists, LooseStateIsUnique}
use Rattle.state_laws.specs.RunLaws.{IsMet}
use Rattle.state_laws.proofs.RunLemmas.{level-met, range-met, window-met}
use Rattle.state_laws.proofs.UniqueLemmas.{IsAntitone, Reaches-antitone, greatest-unique, level-unique, times-mono, twice_to_cover-mono}

-- where less is asked for, it is reached too: by all values of a kind, and by some
more-mono : (b c : ℤ) (t : ℕ) → b ≤ℤ c → (pos (2 ^ 16) *ℤ b +ℤ pos t) ≤ℤ (pos (2 ^ 16) *ℤ c +ℤ pos t)
more-mono b c t h = omega (arith, ints)

less-mono : (b c : ℤ) (t : ℕ) → b ≤ℤ c → (pos (2 ^ 16) *ℤ b -ℤ pos t) ≤ℤ (pos (2 ^ 16) *ℤ c -ℤ pos t)
less-mono b c t h = omega (arith, ints)

chain : (a b c : ℤ) → a ≤ℤ b → b ≤ℤ c → a ≤ℤ c
chain a b c h k = omega (arith, ints)

AllReachInside-antitone :
    (kind : Kind) (x1 : ℕ) (y1 : ℤ) (x2 : ℕ) (y2 : ℤ) (at : Fraction) (a b c : ℤ) → b ≤ℤ c
    → AllReachInside kind x1 y1 x2 y2 at a c → AllReachInside kind x1 y1 x2 y2 at a b
AllReachInside-antitone exact x1 y1 x2 y2 at a b c below reached = Reaches-antitone (Cubic x1 y1 x2 y2) at a b c below reached
AllReachInside-antitone own x1 y1 x2 y2 at a b c below reached =
    chain (b *ℤ pos (2 ^ 30)) (c *ℤ pos (2 ^ 30)) (int_min (a *ℤ own_least x1 y1 x2 y2 at) (a *ℤ own_greatest x1 y1 x2 y2 at))
    (times-mono b c (2 ^ 30) below) reached
AllReachInside-antitone wide x1 y1 x2 y2 at a b c below reached =
    Reaches-antitone (Cubic x1 y1 x2 y2) at (pos (2 ^ 16) *ℤ a) (pos (2 ^ 16) *ℤ b +ℤ pos (nat_abs a)) (pos (2 ^ 16) *ℤ c +ℤ pos (nat_abs a))
    (more-mono b c (nat_abs a) below) reached

SomeReachInside-antitone :
    (kind : Kind) (x1 : ℕ) (y1 : ℤ) (x2 : ℕ) (y2 : ℤ) (at : Fraction) (a b c : ℤ) → b ≤ℤ c
    → SomeReachInside kind x1 y1 x2 y2 at a c → SomeReachInside kind x1 y1 x2 y2 at a b
SomeReachInside-antitone exact x1 y1 x2 y2 at a b c below reached = Reaches-antitone (Cubic x1 y1 x2 y2) at a b c below reached
SomeReachInside-antitone own x1 y1 x2 y2 at a b c below reached =
    chain (b *ℤ pos (2 ^ 30)) (c *ℤ pos (2 ^ 30)) (int_max (a *ℤ own_least x1 y1 x2 y2 at) (a *ℤ own_greatest x1 y1 x2 y2 at))
    (times-mono b c (2 ^ 30) below) reached
SomeReachInside-antitone wide x1 y1 x2 y2 at a b c below reached =
    Reaches-antitone (Cubic x1 y1 x2 y2) at (pos (2 ^ 16) *ℤ a) (pos (2 ^ 16) *ℤ b -ℤ pos (nat_abs a)) (pos (2 ^ 16) *ℤ c -ℤ pos (nat_abs a))
    (less-mono b c (nat_abs a) below) reached

pub AllReach-antitone : (kind : Kind) (easing : Easing) (at : Fraction) (a b c : ℤ) → b ≤ℤ c → AllReach kind easing at a c → AllReach kind easing at a b
AllReach-antitone kind Linear at a b c below reached = Reaches-antitone Linear at a b c below reached
AllReach-antitone kind (Steps count jump) at a b c below reached = Reaches-antitone (Steps count jump) at a b c below reached
AllReach-antitone kind (Cubic x1 y1 x2 y2) at a b c below reached = AllReachInside-antitone (kind_at kind at) x1 y1 x2 y2 at a b c below reached

pub SomeReach-antitone : (kind : Kind) (easing : Easing) (at : Fraction) (a b c : ℤ) → b ≤ℤ c → SomeReach kind easing at a c → SomeReach kind easing at a b
SomeReach-antitone kind Linear at a b c below reached = Reaches-antitone Linear at a b c below reached
SomeReach-antitone kind (Steps count jump) at a b c below reached = Reaches-antitone (Steps count jump) at a b c below reached
SomeReach-antitone kind (Cubic x1 y1 x2 y2) at a b c below reached = SomeReachInside-antitone (kind_at kind at) x1 y1 x2 y2 at a b c below reached

-- what all values of a kind reach, some do
least-greatest : (b x y : ℤ) → b ≤ℤ int_min x y → b ≤ℤ int_max x y
least-greatest b x y h = omega (arith, ints, clamps)

across : (b : ℤ) (t : ℕ) → (pos (2 ^ 16) *ℤ b -ℤ pos t) ≤ℤ (pos (2 ^ 16) *ℤ b +ℤ pos t)
across b t = omega (arith, ints)

all-some-inside :
    (kind : Kind) (x1 : ℕ) (y1 : ℤ) (x2 : ℕ) (y2 : ℤ) (at : Fraction) (a b : ℤ) → AllReachInside kind x1 y1 x2 y2 at a b
    → SomeReachInside kind x1 y1 x2 y2 at a b
all-some-inside exact x1 y1 x2 y2 at a b reached = reached
all-some-inside own x1 y1 x2 y2 at a b reached = least-greatest (b *ℤ pos (2 ^ 30)) (a *ℤ own_least x1 y1 x2 y2 at) (a *ℤ own_greatest x1 y1 x2 y2 at) reached
all-some-inside wide x1 y1 x2 y2 at a b reached =
    Reaches-antitone (Cubic x1 y1 x2 y2) at (pos (2 ^ 16) *ℤ a) (pos (2 ^ 16) *ℤ b -ℤ pos (nat_abs a)) (pos (2 ^ 16) *ℤ b +ℤ pos (nat_abs a))
    (across b (nat_abs a)) reached

pub all-some : (kind : Kind) (easing : Easing) (at : Fraction) (a b : ℤ) → AllReach kind easing at a b → SomeReach kind easing at a b
all-some kind Linear at a b reached = reached
all-some kind (Steps count jump) at a b reached = reached
all-some kind (Cubic x1 y1 x2 y2) at a b reached = all-some-inside (kind_at kind at) x1 y1 x2 y2 at a b reached

-- the two ends of a loose value
abbrev pub AllRound : Kind → Slot → Easing → Fraction → ℤ → ℤ → ℤ → Type 0
AllRound kind slot easing at from to v = AllReach kind easing at (twice_the_way from to) (twice_to_cover slot from v)

abbrev pub SomeRound : Kind → Slot → Easing → Fraction → ℤ → ℤ → ℤ → Type 0
SomeRound kind slot easing at from to v = SomeReach kind easing at (twice_the_way from to) (twice_to_cover slot from v)

pub AllRound-antitone : (kind : Kind) (slot : Slot) (easing : Easing) (at : Fraction) (from to : ℤ) → IsAntitone (AllRound kind slot easing at from to)
AllRound-antitone kind slot easing at from to v w below reached =
    AllReach-antitone kind easing at (twice_the_way from to) (twice_to_cover slot from v) (twice_to_cover slot from w)
    (twice_to_cover-mono slot from v w below) reached

pub SomeRound-antitone : (kind : Kind) (slot : Slot) (easing : Easing) (at : Fraction) (from to : ℤ) → IsAntitone (SomeRound kind slot easing at from to)
SomeRound-antitone kind slot easing at from to v w below reached =
    SomeReach-antitone kind easing at (twice_the_way from to) (twice_to_cover slot from v) (twice_to_cover slot from w)
    (twice_to_cover-mono slot from v w below) reached

same_loose : (a b : Loose) → a.lo ≡ b.lo → a.hi ≡ b.hi → a ≡ b
same_loose a b lo hi = λ i. record { lo = lo i; hi = hi i }

pub loose-unique :
    (kind : Kind) (slot : Slot) (easing : Easing) (at : Fraction) (from to : ℤ) (a b : Loose) → IsLoose kind slot easing at from to a
    → IsLoose kind slot easing at from to b → a ≡ b
loose-unique kind slot easing at from to a b first second =
    same_loose a b
    (greatest-unique slot (AllRound kind slot easing at from to) a.lo b.lo (AllRound-antitone kind slot easing at from to) first.least second.least)
    (greatest-unique slot (SomeRound kind slot easing at from to) a.hi b.hi (SomeRound-antitone kind slot easing at from to) first.greatest second.greatest)

loose-met : (kind : Kind) (slot : Slot) (easing : Easing) (at : Fraction) (from to : ℤ) → slot.least ≤ℤ slot.greatest → IsMet (IsLoose kind slot easing at from to)
loose-met kind slot easing at from to some none =
    range-met slot (AllRound kind slot easing at from to) some (λ lo least.
    range-met slot (SomeRound kind slot easing at from to) some (λ hi greatest.
    none (record { lo = lo; hi = hi }) (record { least = least; greatest = greatest })))

pub loose_on-unique :
    (kind : Kind) (slot : Slot) (part : Value → ℤ) (course : Course) (a b : Loose) → IsLooseOn kind slot part course a
    → IsLooseOn kind slot part course b → a ≡ b
loose_on-unique kind slot part (still x) a b first second = loose-unique kind slot Linear zero_of_one (part x) (part x) a b first second
loose_on-unique kind slot part (moving i) a b first second = loose-unique kind slot i.easing i.distance (part i.from) (part i.to) a b first second

loose_on-met : (kind : Kind) (slot : Slot) (part : Value → ℤ) (course : Course) → slot.least ≤ℤ slot.greatest → IsMet (IsLooseOn kind slot part course)
loose_on-met kind slot part (still x) some = loose-met kind slot Linear zero_of_one (part x) (part x) some
loose_on-met kind slot part (moving i) some = loose-met kind slot i.easing i.distance (part i.from) (part i.to) some

-- the levels that all values of a kind round to, and those that some do
abbrev pub AllLevel : Kind → Easing → Fraction → Shade → Shade → ℤ → Type 0
AllLevel kind easing at from to v = AllReach kind easing at (gain from to v) (due from v)

abbrev pub SomeLevel : Kind → Easing → Fraction → Shade → Shade → ℤ → Type 0
SomeLevel kind easing at from to v = SomeReach kind easing at (gain from to v) (due from v)

levels-unique :
    (kind : Kind) (easing : Easing) (at : Fraction) (from to : Shade) (a b : Loose) → AreLevels kind easing at from to a
    → AreLevels kind easing at from to b → a ≡ b
levels-unique kind easing at from to a b first second =
    same_loose a b
    (level-unique (AllLevel kind easing at from to) a.lo b.lo first.least second.least)
    (level-unique (SomeLevel kind easing at from to) a.hi b.hi first.greatest second.greatest)

-- a loose channel is one: if two weren't, no value of the set would be gone
loose_channel-apart :
    (kind : Kind) (easing : Easing) (at : Fraction) (from to : Shade) (a b : Loose) → IsLooseChannel kind easing at from to a
    → IsLooseChannel kind easing at from to b → (a ≡ b → ⊥) → ⊥
loose_channel-apart kind easing at from to a b first second apart =
    let some_left : AllGone kind easing at from to → ⊥ = λ all. apart (same_as (first.gone all) (second.gone all)) in
    let all_left : SomeGone kind easing at from to → ⊥ = λ some. apart (same_as (first.mixed some some_left) (second.mixed some some_left)) in
    apart (levels-unique kind easing at from to a b (first.left all_left) (second.left all_left))
  where
    same_as : {x y z : Loose} → x ≡ z → y ≡ z → x ≡ y
    same_as e f = cc

decided_loose : (a b : Loose) → ((a ≡ b → ⊥) → ⊥) → a ≡ b
decided_loose a b known =
    same_loose a b (number a.lo b.lo (λ apart. known (λ e. apart (ap (λ (l : Loose). l.lo) e))))
    (number a.hi b.hi (λ apart. known (λ e. apart (ap (λ (l : Loose). l.hi) e))))
  where
    number : (v w : ℤ) → ((v ≡ w → ⊥) → ⊥) → v ≡ w
    number v w known =
        by_lt_z v w (λ less. absurd (known (λ e. omega (arith, ints))))
        (λ least. by_lt_z w v (λ less. absurd (known (λ e. omega (arith, ints)))) (λ other. omega (arith, ints)))

pub loose_channel-unique :
    (kind : Kind) (easing : Easing) (at : Fraction) (from to : Shade) (a b : Loose) → IsLooseChannel kind easing at from to a
    → IsLooseChannel kind easing at from to b → a ≡ b
loose_channel-unique kind easing at from to a b first second =
    decided_loose a b (loose_channel-apart kind easing at from to a b first second)

-- and it is impossible that there is none
loose_channel-met : (kind : Kind) (easing : Easing) (at : Fraction) (from to : Shade) → IsMet (IsLooseChannel kind easing at from to)
loose_channel-met kind easing at from to none =
    none_left (λ some. none_gone some (λ all. none (one_value (pos 0)) (record {
      gone = λ again. refl;
      mixed = λ some left. absurd (left all);
      left = λ left. absurd (left some);
    })))
  where
    none_gone : SomeGone kind easing at from to → (AllGone kind easing at from to → ⊥) → ⊥
    none_gone some left = none any_level (record {
      gone = λ all. absurd (left all);
      mixed = λ some left. refl;
      left = λ left. absurd (left some);
    })

    none_left : (SomeGone kind easing at from to → ⊥) → ⊥
    none_left left =
        level-met (AllLevel kind easing at from to) (λ lo least.
        level-met (SomeLevel kind easing at from to) (λ hi greatest.
        none (record { lo = lo; hi = hi }) (record {
          gone = λ all. absurd (left (all-some kind easing at (fading from to) (pos from.alpha) all));
          mixed = λ some others. absurd (left some);
          left = λ none_gone. record { least = least; greatest = greatest };
        })))

pub loose_channel_on-unique :
    (kind : Kind) (part : Value → Shade) (course : Course) (a b : Loose) → IsLooseChannelOn kind part course a
    → IsLooseChannelOn kind part course b → a ≡ b
loose_channel_on-unique kind part (still x) a b first second = cc
loose_channel_on-unique kind part (moving i) a b first second =
    loose_channel-unique kind i.easing i.distance (part i.from) (part i.to) a b first second

loose_channel_on-met : (kind : Kind) (part : Value → Shade) (course : Course) → IsMet (IsLooseChannelOn kind part course)
loose_channel_on-met kind part (still x) none = none (one_value (own_level (part x))) refl
loose_channel_on-met kind part (moving i) none = loose_channel-met kind i.easing i.distance (part i.from) (part i.to) none

-- how surely something is hidden
hidden-unique :
    (Each Any : Type 0) (s t : Sureness) → (Each → Any) → IsHiddenSurely Each Any s → IsHiddenSurely Each Any t → s ≡ t
hidden-unique Each Any surely surely implied first second = refl
hidden-unique Each Any surely surely_not implied first second = absurd (first (implied second))
hidden-unique Each Any surely maybe implied first second = absurd (first second.0)
hidden-unique Each Any surely_not surely implied first second = absurd (second (implied first))
hidden-unique Each Any surely_not surely_not implied first second = refl
hidden-unique Each Any surely_not maybe implied first second = absurd (second.1 first)
hidden-unique Each Any maybe surely implied first second = absurd (second first.0)
hidden-unique Each Any maybe surely_not implied first second = absurd (first.1 second)
hidden-unique Each Any maybe maybe implied first second = refl

hidden-met : (Each Any : Type 0) → IsMet (IsHiddenSurely Each Any)
hidden-met Each Any none = none surely (λ some. none maybe (some, λ all. none surely_not all))

surely_shown-unique : (kind : Kind) (easing : Easing) (at : Fraction) (from to : Bool) (s t : Sureness) → IsShownSurely kind easing at from to s → IsShownSurely kind easing at from to t → s ≡ t
surely_shown-unique kind easing at true true s t first second = cc
surely_shown-unique kind easing at true false s t first second =
    hidden-unique (AllReach kind easing at (pos 1) (pos 1)) (SomeReach kind easing at (pos 1) (pos 1)) s t (all-some kind easing at (pos 1) (pos 1)) first second
surely_shown-unique kind easing at false true s t first second =
    hidden-unique (AllReach kind easing at (negsuc 0) (pos 0)) (SomeReach kind easing at (negsuc 0) (pos 0)) s t (all-some kind easing at (negsuc 0) (pos 0)) first second
surely_shown-unique kind easing at false false s t first second = cc

surely_shown-met : (kind : Kind) (easing : Easing) (at : Fraction) (from to : Bool) → IsMet (IsShownSurely kind easing at from to)
surely_shown-met kind easing at true true none = none surely refl
surely_shown-met kind easing at true false none = hidden-met (AllReach kind easing at (pos 1) (pos 1)) (SomeReach kind easing at (pos 1) (pos 1)) none
surely_shown-met kind easing at false true none = hidden-met (AllReach kind easing at (negsuc 0) (pos 0)) (SomeReach kind easing at (negsuc 0) (pos 0)) none
surely_shown-met kind easing at false false none = none surely_not refl

shown_on-unique : (kind : Kind) (course : Course) (s t : Sureness) → IsSurelyShownOn kind course s → IsSurelyShownOn kind course t → s ≡ t
shown_on-unique kind (still x) s t first second = surely_shown-unique kind Linear zero_of_one (visible_of x) (visible_of x) s t first second
shown_on-unique kind (moving i) s t first second = surely_shown-unique kind i.easing i.distance (visible_of i.from) (visible_of i.to) s t first second

shown_on-met : (kind : Kind) (course : Course) → IsMet (IsSurelyShownOn kind course)
shown_on-met kind (still x) = surely_shown-met kind Linear zero_of_one (visible_of x) (visible_of x)
shown_on-met kind (moving i) = surely_shown-met kind i.easing i.distance (visible_of i.from) (visible_of i.to)

shown_with-unique : (kind : Kind) (colour : Option Rgba) (course : Course) (s t : Sureness) → IsSurelyShownWith kind colour course s → IsSurelyShownWith kind colour course t → s ≡ t
shown_with-unique kind None course s t first second = cc
shown_with-unique kind (Some c) course s t first second = shown_on-unique kind course s t first second

shown_with-met : (kind : Kind) (colour : Option Rgba) (course : Course) → IsMet (IsSurelyShownWith kind colour course)
shown_with-met kind None course none = none surely_not refl
shown_with-met kind (Some c) course none = shown_on-met kind course none

-- a layer's state
same_state :
    (s t : LooseState) → s.red ≡ t.red → s.green ≡ t.green → s.blue ≡ t.blue → s.cover ≡ t.cover → s.alpha ≡ t.alpha → s.shown ≡ t.shown → s.left ≡ t.left
    → s.top ≡ t.top → s.width ≡ t.width → s.height ≡ t.height → s ≡ t
same_state s t r g b c a v l u w h = λ i. record {
  red = r i;
  green = g i;
  blue = b i;
  cover = c i;
  alpha = a i;
  shown = v i;
  left = l i;
  top = u i;
  width = w i;
  height = h i;
}

pub loose_state-unique : LooseStateIsUnique
loose_state-unique kind scene setup frame layer s t first second =
    same_state s t
    (loose_channel_on-unique kind red_of _ s.red t.red first.is_red second.is_red)
    (loose_channel_on-unique kind green_of _ s.green t.green first.is_green second.is_green)
    (loose_channel_on-unique kind blue_of _ s.blue t.blue first.is_blue second.is_blue)
    (loose_on-unique kind cover cover_of _ s.cover t.cover first.is_cover second.is_cover)
    (loose_on-unique kind alpha alpha_of _ s.alpha t.alpha first.is_alpha second.is_alpha)
    (shown_with-unique kind layer.colour _ s.shown t.shown first.is_shown second.is_shown)
    (loose_on-unique kind position length_of _ s.left t.left first.is_left second.is_left)
    (loose_on-unique kind position length_of _ s.top t.top first.is_top second.is_top)
    (loose_on-unique kind extent length_of _ s.width t.width first.is_width second.is_width)
    (loose_on-unique kind extent length_of _ s.height t.height first.is_height second.is_height)

loose_state-met : (kind : Kind) (scene : Scene) (setup : Setup) (frame : ℕ) (layer : Layer) → IsMet (IsLooseStateAt kind scene setup frame layer)
loose_state-met kind scene setup frame layer none =
    let fill = course_of scene setup frame layer Background in
    loose_channel_on-met kind red_of fill λ r red.
    loose_channel_on-met kind green_of fill λ g green.
    loose_channel_on-met kind blue_of fill λ b blue.
    loose_on-met kind cover cover_of fill (omega (arith, ints)) λ c covered.
    loose_on-met kind alpha alpha_of (course_of scene setup frame layer Opacity) (omega (arith, ints)) λ a opaque.
    shown_with-met kind layer.colour (course_of scene setup frame layer Visibility) λ s shown.
    loose_on-met kind position length_of (course_of scene setup frame layer Left) (omega (arith, ints)) λ x left.
    loose_on-met kind position length_of (course_of scene setup frame layer Top) (omega (arith, ints)) λ y top.
    loose_on-met kind extent length_of (course_of scene setup frame layer Width) (omega (arith, ints)) λ w width.
    loose_on-met kind extent length_of (course_of scene setup frame layer Height) (omega (arith, ints)) λ h height.
    none
    (record { red = r; green = g; blue = b; cover = c; alpha = a; shown = s; left = x; top = y; width = w; height = h })
    (record {
      is_red = red;
      is_green = green;
      is_blue = blue;
      is_cover = covered;
      is_alpha = opaque;
      is_shown = shown;
      is_left = left;
      is_top = top;
      is_width = width;
      is_height = height;
    })

-- nothing is known of a layer that isn't there
abbrev nothing : LooseState
nothing = record {
  red = one_value (pos 0);
  green = one_value (pos 0);
  blue = one_value (pos 0);
  cover = one_value (pos 0);
  alpha = one_value (pos 0);
  shown = surely_not;
  left = one_value (pos 0);
  top = one_value (pos 0);
  width = one_value (pos 0);
  height = one_value (pos 0);
}

pub loose_run-met : LooseRunExists
loose_run-met kind scene setup start =
    window-met LooseState nothing scene start (window_of setup) (IsLooseStateAt kind scene setup) (loose_state-met kind scene setup)
