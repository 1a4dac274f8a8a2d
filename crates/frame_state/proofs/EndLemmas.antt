-- What the own kind knows of an eased value: what all values reach both ends reach, and what some value reaches one of them does.
use Rattle.std.proofs.Common.{◌↔◌, ◌⊎◌, ℕ, ◌^◌, ◌<◌, ℤ, pos, ◌*ℤ◌, ◌≤ℤ◌, arith, inl, inr}
use Rattle.std.specs.Int.{int_min, int_max}
use Rattle.std.proofs.lemmas.Bool.{cases_Bool}
use Rattle.std.proofs.lemmas.Int.{ints, clamps, by_lt_z}
use Rattle.page_model.specs.declared.easing.Easing.{Easing}
use Rattle.page_model.specs.declared.easing.Easing.TheVariants.{Linear, Steps, Cubic}
use Rattle.page_model.specs.Curve.{FractionReaches, stepped}
use Rattle.page_model.specs.Enclosure.{AllReach, SomeReach, is_inner, own, own_greatest, own_least}
use Rattle.page_model.specs.Fraction.{Fraction}
use Rattle.page_model.specs.ValidScene.{IsEasing}
use Rattle.fraction_laws.specs.FractionLaws.{IsPart}
use Rattle.fraction_laws.proofs.FractionLemmas.{stepped-part}
use Rattle.easing_bounds.specs.Value.{eased_value}
use Rattle.easing_bounds.proofs.ToldLemmas.{told-end}
use Rattle.layer_ways.specs.Ways.{greatest_of, least_of}
use Rattle.slot_values.specs.Ends.{AreEnds, End}

-- one end that is the value
abbrev pub fraction_end : Fraction → End
fraction_end x = record { num = pos x.num; den = x.den }

one-end : (easing : Easing) (at x : Fraction) → 0 < x.den → ((a b : ℤ) → AllReach own easing at a b ↔ FractionReaches x a b)
    → ((a b : ℤ) → SomeReach own easing at a b ↔ FractionReaches x a b) → AreEnds easing at (fraction_end x) (fraction_end x)
one-end easing at x positive each any = record {
  some_least = positive;
  some_greatest = positive;
  all = λ a b. (λ h. ((each a b).0 h, (each a b).0 h), λ h. (each a b).1 h.0);
  some = λ a b. (
    λ h. inl ((any a b).0 h),
    λ h. elim h [
      | inl k ↦ (any a b).1 k
      | inr k ↦ (any a b).1 k
    ],
  );
}

-- the two ends of a curve's own interval
below-least : (z p q : ℤ) → (z ≤ℤ int_min p q) ↔ ((z ≤ℤ p) × (z ≤ℤ q))
below-least z p q = (λ h. (omega (arith, ints, clamps, h), omega (arith, ints, clamps, h)), λ h. both h.0 h.1)
  where
    both : z ≤ℤ p → z ≤ℤ q → z ≤ℤ int_min p q
    both h k = omega (arith, ints, clamps)

below-greatest : (z p q : ℤ) → (z ≤ℤ int_max p q) ↔ ((z ≤ℤ p) ⊎ (z ≤ℤ q))
below-greatest z p q = (
  λ h. by_lt_z p q (λ less. inr (omega (arith, ints, clamps, h, less))) (λ above. inl (omega (arith, ints, clamps, h, above))),
  λ h. elim h [
    | inl k ↦ omega (arith, ints, clamps, k)
    | inr k ↦ omega (arith, ints, clamps, k)
  ],
)

curve-ends : (x1 : ℕ) (y1 : ℤ) (x2 : ℕ) (y2 : ℤ) (at : Fraction) → IsPart at
    → AreEnds (Cubic x1 y1 x2 y2) at (least_of (eased_value (Cubic x1 y1 x2 y2) at)) (greatest_of (eased_value (Cubic x1 y1 x2 y2) at))
curve-ends x1 y1 x2 y2 at part =
    elim (cases_Bool (is_inner at)) [
      | inl inner ↦ rw inner (record {
        some_least = omega arith;
        some_greatest = omega arith;
        all = λ a b. rw inner (below-least (b *ℤ pos (2 ^ 30)) (a *ℤ own_least x1 y1 x2 y2 at) (a *ℤ own_greatest x1 y1 x2 y2 at));
        some = λ a b. rw inner (below-greatest (b *ℤ pos (2 ^ 30)) (a *ℤ own_least x1 y1 x2 y2 at) (a *ℤ own_greatest x1 y1 x2 y2 at));
      })
      | inr end ↦ rw end (one-end (Cubic x1 y1 x2 y2) at at part.positive
          (λ a b. rw end (turned (told-end x1 y1 x2 y2 at part.at_most_one part.positive end a b)))
          (λ a b. rw end (turned (told-end x1 y1 x2 y2 at part.at_most_one part.positive end a b))))
    ]
  where
    turned : {A B : Type 0} → (A ↔ B) → (B ↔ A)
    turned h = (h.1, h.0)

same : {A : Type 0} → A ↔ A
same = (λ h. h, λ h. h)

pub ends-are : (easing : Easing) (at : Fraction) → IsEasing easing → IsPart at
    → AreEnds easing at (least_of (eased_value easing at)) (greatest_of (eased_value easing at))
ends-are Linear at limits part = one-end Linear at at part.positive (λ a b. same) (λ a b. same)
ends-are (Steps count jump) at limits part =
    one-end (Steps count jump) at (stepped count jump at) (stepped-part count jump at limits).positive (λ a b. same) (λ a b. same)
ends-are (Cubic x1 y1 x2 y2) at limits part = curve-ends x1 y1 x2 y2 at part
