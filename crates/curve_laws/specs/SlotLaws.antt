-- How loose slots and channels nest: the exact value lies between the ends of each kind, and those of the own kind between those of
-- the wide one.
use Rattle.std.specs.Prelude.{ℤ, ◌≤ℤ◌, Bool, true, false}
use Rattle.page_model.specs.declared.easing.Easing.{Easing}
use Rattle.page_model.specs.Enclosure.{Kind, own, wide, Loose, IsLoose, IsLooseChannel, Sureness, surely, surely_not, maybe, IsShownSurely}
use Rattle.page_model.specs.Fraction.{Fraction}
use Rattle.page_model.specs.Slot.{Slot, Shade, IsSlotValue, IsChannelValue, IsShownValue}
use Rattle.page_model.specs.ValidScene.{IsEasing}

-- a value lies between the ends, and the ends of one between those of another
pub record IsWithin (loose : Loose) (v : ℤ) : Type 0 where
  pub at_least : loose.lo ≤ℤ v
  pub at_most : v ≤ℤ loose.hi

pub record LooseWithin (outer inner : Loose) : Type 0 where
  pub least : outer.lo ≤ℤ inner.lo
  pub greatest : inner.hi ≤ℤ outer.hi

pub record LooseSlotsNest : Type 0 where
  pub exact_value : (kind : Kind) (slot : Slot) (easing : Easing) → IsEasing easing → (at : Fraction) (from to : ℤ) (loose : Loose) (v : ℤ)
      → IsLoose kind slot easing at from to loose → IsSlotValue slot easing at from to v → IsWithin loose v
  pub own_in_wide : (slot : Slot) (easing : Easing) → IsEasing easing → (at : Fraction) (from to : ℤ) (outer inner : Loose)
      → IsLoose wide slot easing at from to outer → IsLoose own slot easing at from to inner → LooseWithin outer inner
  pub in_order : (kind : Kind) (slot : Slot) (easing : Easing) → IsEasing easing → (at : Fraction) (from to : ℤ) (loose : Loose)
      → IsLoose kind slot easing at from to loose → loose.lo ≤ℤ loose.hi

-- channels, also where the alpha is gone for some values of a set
pub record LooseChannelsNest : Type 0 where
  pub exact_value : (kind : Kind) (easing : Easing) → IsEasing easing → (at : Fraction) (from to : Shade) (loose : Loose) (v : ℤ)
      → IsLooseChannel kind easing at from to loose → IsChannelValue easing at from to v → IsWithin loose v
  pub own_in_wide : (easing : Easing) → IsEasing easing → (at : Fraction) (from to : Shade) (outer inner : Loose)
      → IsLooseChannel wide easing at from to outer → IsLooseChannel own easing at from to inner → LooseWithin outer inner
  pub in_order : (kind : Kind) (easing : Easing) → IsEasing easing → (at : Fraction) (from to : Shade) (loose : Loose)
      → IsLooseChannel kind easing at from to loose → loose.lo ≤ℤ loose.hi

-- what is so, is so as surely as is said
abbrev pub Agrees : Sureness → Bool → Type 0
Agrees surely true = Unit {0}
Agrees surely false = ⊥
Agrees surely_not true = ⊥
Agrees surely_not false = Unit {0}
Agrees maybe shown = Unit {0}

-- what the looser of two says for sure, the other says too
abbrev pub IsLooser : Sureness → Sureness → Type 0
IsLooser maybe other = Unit {0}
IsLooser surely surely = Unit {0}
IsLooser surely surely_not = ⊥
IsLooser surely maybe = ⊥
IsLooser surely_not surely = ⊥
IsLooser surely_not surely_not = Unit {0}
IsLooser surely_not maybe = ⊥

pub record LooseShownNests : Type 0 where
  pub exact_value : (kind : Kind) (easing : Easing) → IsEasing easing → (at : Fraction) (from to : Bool) (shown : Sureness) (visible : Bool)
      → IsShownSurely kind easing at from to shown → IsShownValue easing at from to visible → Agrees shown visible
  pub own_in_wide : (easing : Easing) → IsEasing easing → (at : Fraction) (from to : Bool) (outer inner : Sureness)
      → IsShownSurely wide easing at from to outer → IsShownSurely own easing at from to inner → IsLooser outer inner
