-- Proofs of how loose slots nest.
use Rattle.std.proofs.Common.{◌≡◌, Bool, true, false, refl, arith}
use Rattle.std.specs.Prelude.{ℤ, pos, negsuc, ◌+ℤ◌, ◌-ℤ◌, ◌*ℤ◌, ◌≤ℤ◌}
use Rattle.std.proofs.lemmas.Int.{ints, by_lt_z}
use Rattle.std.proofs.Math.IntN.{*ℤ_comm}
use Rattle.page_model.specs.declared.easing.Easing.{Easing}
use Rattle.page_model.specs.Curve.{Reaches}
use Rattle.page_model.specs.Enclosure.{Kind, own, wide, Sureness, surely, surely_not, maybe, AllReach, SomeReach, IsHiddenSurely, IsShownSurely}
use Rattle.page_model.specs.Fraction.{Fraction}
use Rattle.page_model.specs.Slot.{Slot, IsGreatestIn, IsShownValue, IsHiddenExactlyWhere, twice_the_way, twice_to_cover}
use Rattle.page_model.specs.ValidScene.{IsEasing}
use Rattle.curve_laws.specs.EnclosureLaws.{OfEasing, FollowsFor}
use Rattle.curve_laws.specs.SlotLaws.{LooseSlotsNest, Agrees, IsLooser, LooseShownNests}
use Rattle.curve_laws.proofs.EnclosureLemmas.{reaches_nest}
use Rattle.curve_laws.proofs.ReachLemmas.{IsAntitone, reaches-antitone, all-antitone, some-antitone, all-reach, reach-some}
use Rattle.curve_laws.proofs.SignedLemmas.{times_le}

-- the greatest number for which a fact holds is at most that for which a weaker one does
pub greatest_in-le : (slot : Slot) (P Q : ℤ → Type 0) (u w : ℤ) → ((v : ℤ) → P v → Q v) → ((v less : ℤ) → less ≤ℤ v → Q v → Q less)
    → IsGreatestIn slot P u → IsGreatestIn slot Q w → u ≤ℤ w
greatest_in-le slot P Q u w weaker antitone first second =
    let low = second.at_least in
    let high = first.at_most in
    by_lt_z w u
    (λ less. absurd (second.greatest (omega (arith, ints, less, high))
    (antitone u (w +ℤ pos 1) (omega (arith, ints, less)) (weaker u (first.reached (omega (arith, ints, less, low)))))))
    (λ order. order)

-- more has to be covered to round to more
cover-le : (slot : Slot) (from v less : ℤ) → less ≤ℤ v → twice_to_cover slot from less ≤ℤ twice_to_cover slot from v
cover-le slot from v less order =
    let steps : (pos 2 *ℤ less -ℤ pos 1) ≤ℤ (pos 2 *ℤ v -ℤ pos 1) = omega (arith, ints, order) in
    let times = times_le (pos 2 *ℤ less -ℤ pos 1) (pos 2 *ℤ v -ℤ pos 1) slot.unit steps in
    let first = *ℤ_comm (pos slot.unit) (pos 2 *ℤ less -ℤ pos 1) in
    let second = *ℤ_comm (pos slot.unit) (pos 2 *ℤ v -ℤ pos 1) in
    moved (pos slot.unit *ℤ (pos 2 *ℤ less -ℤ pos 1)) ((pos 2 *ℤ less -ℤ pos 1) *ℤ pos slot.unit) (pos slot.unit *ℤ (pos 2 *ℤ v -ℤ pos 1)) ((pos 2 *ℤ v -ℤ pos 1) *ℤ pos slot.unit) (pos 2 *ℤ from) first second times where
      moved : (a b c d e : ℤ) → a ≡ b → c ≡ d → b ≤ℤ d → (a -ℤ e) ≤ℤ (c -ℤ e)
      moved a b c d e first second order = omega (arith, ints, first, second, order)

-- the slot value by a reach
abbrev BySlot : OfEasing → Slot → Easing → Fraction → ℤ → ℤ → ℤ → Type 0
BySlot Reach slot easing at from to v = Reach easing at (twice_the_way from to) (twice_to_cover slot from v)

slots-le : (First Second : OfEasing) → FollowsFor First Second → IsAntitone Second → (slot : Slot) (easing : Easing) → IsEasing easing
    → (at : Fraction) (from to u w : ℤ) → IsGreatestIn slot (BySlot First slot easing at from to) u
    → IsGreatestIn slot (BySlot Second slot easing at from to) w → u ≤ℤ w
slots-le First Second follows antitone slot easing valid at from to u w first second =
    greatest_in-le slot (BySlot First slot easing at from to) (BySlot Second slot easing at from to) u w
    (λ v reach. follows easing valid at (twice_the_way from to) (twice_to_cover slot from v) reach)
    (λ v less order reach. antitone easing at (twice_the_way from to) (twice_to_cover slot from v) (twice_to_cover slot from less) (cover-le slot from v less order) reach)
    first second

pub loose_slots_nest : LooseSlotsNest
loose_slots_nest = record {
  exact_value = λ kind slot easing valid at from to loose v is value. record {
    at_least = slots-le (AllReach kind) Reaches (all-reach kind) reaches-antitone slot easing valid at from to loose.lo v is.least value;
    at_most = slots-le Reaches (SomeReach kind) (reach-some kind) (some-antitone kind) slot easing valid at from to v loose.hi value is.greatest;
  };
  own_in_wide = λ slot easing valid at from to outer inner first second. record {
    least = slots-le (AllReach wide) (AllReach own) reaches_nest.all_wide (all-antitone own) slot easing valid at from to outer.lo inner.lo first.least second.least;
    greatest = slots-le (SomeReach own) (SomeReach wide) reaches_nest.some_wide (some-antitone wide) slot easing valid at from to inner.hi outer.hi second.greatest first.greatest;
  };
  in_order = λ kind slot easing valid at from to loose is.
      slots-le (AllReach kind) (SomeReach kind) (λ e good t a b all. reach-some kind e good t a b (all-reach kind e good t a b all)) (some-antitone kind) slot easing valid at from to loose.lo loose.hi is.least is.greatest;
}

-- hidden by facts of which the first implies the exact one, and that the second
hidden-agrees : (All Some Hides : Type 0) → (All → Hides) → (Hides → Some) → (shown : Sureness) (visible : Bool)
    → IsHiddenSurely All Some shown → IsHiddenExactlyWhere Hides visible → Agrees shown visible
hidden-agrees All Some Hides strict loose surely true is exactly = tt
hidden-agrees All Some Hides strict loose surely false is exactly = is (loose (exactly.hidden refl))
hidden-agrees All Some Hides strict loose surely_not true is exactly = exactly.visible refl (strict is)
hidden-agrees All Some Hides strict loose surely_not false is exactly = tt
hidden-agrees All Some Hides strict loose maybe visible is exactly = tt

hidden-looser : (All Some All' Some' : Type 0) → (All → All') → (Some' → Some) → (All' → Some') → (outer inner : Sureness)
    → IsHiddenSurely All Some outer → IsHiddenSurely All' Some' inner → IsLooser outer inner
hidden-looser All Some All' Some' strict loose both maybe inner first second = tt
hidden-looser All Some All' Some' strict loose both surely surely first second = tt
hidden-looser All Some All' Some' strict loose both surely surely_not first second = first (loose (both second))
hidden-looser All Some All' Some' strict loose both surely maybe first second = first (loose second.0)
hidden-looser All Some All' Some' strict loose both surely_not surely first second = second (both (strict first))
hidden-looser All Some All' Some' strict loose both surely_not surely_not first second = tt
hidden-looser All Some All' Some' strict loose both surely_not maybe first second = second.1 (strict first)

shown-agrees : (shown : Sureness) (visible : Bool) → shown ≡ surely → visible ≡ true → Agrees shown visible
shown-agrees shown visible first second = rw (first, second) tt

hidden-both : (shown : Sureness) (visible : Bool) → shown ≡ surely_not → visible ≡ false → Agrees shown visible
hidden-both shown visible first second = rw (first, second) tt

shown-looser : (outer inner same : Sureness) → IsLooser same same → outer ≡ same → inner ≡ same → IsLooser outer inner
shown-looser outer inner same self first second = rw (first, second) self

pub loose_shown_nests : LooseShownNests
loose_shown_nests = record { exact_value = exact; own_in_wide = looser } where
  exact : (kind : Kind) (easing : Easing) → IsEasing easing → (at : Fraction) (from to : Bool) (shown : Sureness) (visible : Bool)
      → IsShownSurely kind easing at from to shown → IsShownValue easing at from to visible → Agrees shown visible
  exact kind easing valid at true true shown visible is value = shown-agrees shown visible is value
  exact kind easing valid at true false shown visible is value =
      hidden-agrees (AllReach kind easing at (pos 1) (pos 1)) (SomeReach kind easing at (pos 1) (pos 1)) (Reaches easing at (pos 1) (pos 1))
      (all-reach kind easing valid at (pos 1) (pos 1)) (reach-some kind easing valid at (pos 1) (pos 1)) shown visible is value
  exact kind easing valid at false true shown visible is value =
      hidden-agrees (AllReach kind easing at (negsuc 0) (pos 0)) (SomeReach kind easing at (negsuc 0) (pos 0)) (Reaches easing at (negsuc 0) (pos 0))
      (all-reach kind easing valid at (negsuc 0) (pos 0)) (reach-some kind easing valid at (negsuc 0) (pos 0)) shown visible is value
  exact kind easing valid at false false shown visible is value = hidden-both shown visible is value

  by_reach : (easing : Easing) → IsEasing easing → (at : Fraction) (a b : ℤ) (outer inner : Sureness)
      → IsHiddenSurely (AllReach wide easing at a b) (SomeReach wide easing at a b) outer
      → IsHiddenSurely (AllReach own easing at a b) (SomeReach own easing at a b) inner → IsLooser outer inner
  by_reach easing valid at a b outer inner first second =
      hidden-looser (AllReach wide easing at a b) (SomeReach wide easing at a b) (AllReach own easing at a b) (SomeReach own easing at a b)
      (reaches_nest.all_wide easing valid at a b) (reaches_nest.some_wide easing valid at a b)
      (λ all. reach-some own easing valid at a b (all-reach own easing valid at a b all)) outer inner first second

  looser : (easing : Easing) → IsEasing easing → (at : Fraction) (from to : Bool) (outer inner : Sureness)
      → IsShownSurely wide easing at from to outer → IsShownSurely own easing at from to inner → IsLooser outer inner
  looser easing valid at true true outer inner first second = shown-looser outer inner surely tt first second
  looser easing valid at true false outer inner first second = by_reach easing valid at (pos 1) (pos 1) outer inner first second
  looser easing valid at false true outer inner first second = by_reach easing valid at (negsuc 0) (pos 0) outer inner first second
  looser easing valid at false false outer inner first second = shown-looser outer inner surely_not tt first second
