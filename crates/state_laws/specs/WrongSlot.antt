-- Wrong definitions of a slot's value and of what is shown, each with an example that breaks a law.
use Rattle.std.specs.Prelude.{ℤ, pos, Bool, true, false, ◌*◌, ◌+ℤ◌, ◌-ℤ◌, ◌*ℤ◌, ◌≤ℤ◌, ◌<ℤ◌, nat_lt}
use Rattle.std.specs.Int.{int_div_euclid}
use Rattle.page_model.specs.declared.easing.Easing.TheVariants.{Linear}
use Rattle.page_model.specs.Fraction.{Fraction}
use Rattle.page_model.specs.Slot.{Slot, RoundsTo, IsSlotValue, IsShownValue, alpha, held}

abbrev pub half : Fraction
half = record { num = 1; den = 2 }

abbrev pub three_quarters : Fraction
three_quarters = record { num = 3; den = 4 }

-- wrong: a half is rounded down
abbrev pub rounded_half_down : Slot → ℤ → ℤ → Fraction → ℤ
rounded_half_down slot from to x =
    int_div_euclid
    (pos 2 *ℤ (to -ℤ from) *ℤ pos x.num +ℤ pos 2 *ℤ from *ℤ pos x.den +ℤ pos (slot.unit * x.den) -ℤ pos 1)
    (pos (2 * slot.unit * x.den))

abbrev pub value_half_down : Slot → ℤ → ℤ → Fraction → ℤ
value_half_down slot from to x = held slot (rounded_half_down slot from to x)

-- half the way from 0 to 1 it gives 0, which the definition does not
abbrev pub HalfDownBreaks : Type 0
HalfDownBreaks =
    (IsSlotValue alpha Linear half (pos 0) (pos 1000) (value_half_down alpha (pos 0) (pos 1000) half) → ⊥)

-- wrong: a value that is reached, and not the greatest
pub record IsSomeIn (slot : Slot) (Holds : ℤ → Type 0) (v : ℤ) : Type 0 where
  pub at_least : slot.least ≤ℤ v
  pub at_most : v ≤ℤ slot.greatest
  pub reached : slot.least <ℤ v → Holds v

-- half the way from 0 to 1 both 0 and 1 are
pub record SomeBreaks : Type 0 where
  pub none : IsSomeIn alpha (RoundsTo alpha Linear half (pos 0) (pos 1000)) (pos 0)
  pub one : IsSomeIn alpha (RoundsTo alpha Linear half (pos 0) (pos 1000)) (pos 1)

-- wrong: the nearer of the two values is shown
abbrev pub shown_if_nearer : Bool → Bool → Fraction → Bool
shown_if_nearer true true x = true
shown_if_nearer true false x = nat_lt (2 * x.num) x.den
shown_if_nearer false true x = nat_lt x.den (2 * x.num)
shown_if_nearer false false x = false

-- three quarters of the way from visible to hidden a layer is visible
abbrev pub NearerBreaks : Type 0
NearerBreaks = IsShownValue Linear three_quarters true false (shown_if_nearer true false three_quarters) → ⊥
