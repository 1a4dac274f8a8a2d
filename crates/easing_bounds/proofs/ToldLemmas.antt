-- At its ends a curve's value is the input: 0 or 1.
use Rattle.std.proofs.Common.{◌≡◌, ◌↔◌, ℕ, ◌<◌, ◌≤◌, ℤ, pos, ◌*ℤ◌, ◌≤ℤ◌, true, false, nat_lt, ◌&&◌, inl, inr, arith}
use Rattle.std.proofs.lemmas.Bool.{cases_lt}
use Rattle.std.proofs.lemmas.Int.{ints}
use Rattle.page_model.specs.Curve.{CurveReaches, FractionReaches}
use Rattle.page_model.specs.Enclosure.{is_inner}
use Rattle.page_model.specs.Fraction.{Fraction, IsInner}
use Rattle.curve_laws.proofs.CurveEndLemmas.{curve-ends_law}
use Rattle.fix_span.specs.IntLaws.{cancel_le, times_le}

-- a fraction that is 0, and one that is 1
none-reaches : (d : ℕ) (a b : ℤ) → 0 < d → ((b *ℤ pos d) ≤ℤ (a *ℤ pos 0)) ↔ (b ≤ℤ pos 0)
none-reaches d a b some = (
  λ reach. cancel_le b (pos 0) d some (omega (arith, ints, reach)),
  λ below. let h = times_le b (pos 0) d below in omega (arith, ints, h),
)

all-reaches : (d : ℕ) (a b : ℤ) → 0 < d → ((b *ℤ pos d) ≤ℤ (a *ℤ pos d)) ↔ (b ≤ℤ a)
all-reaches d a b some = (λ reach. cancel_le b a d some reach, λ below. times_le b a d below)

joined : {A B C : Type 0} → (A ↔ B) → (C ↔ B) → (A ↔ C)
joined first second = (λ a. second.1 (first.0 a), λ c. first.1 (second.0 c))

begins : (x1 : ℕ) (y1 : ℤ) (x2 : ℕ) (y2 : ℤ) (at : Fraction) → at.num ≡ 0 → 0 < at.den → (a b : ℤ)
    → (FractionReaches at a b ↔ CurveReaches x1 y1 x2 y2 at a b)
begins x1 y1 x2 y2 at e some a b =
    joined {A = FractionReaches at a b} {B = b ≤ℤ pos 0} {C = CurveReaches x1 y1 x2 y2 at a b} (rw e (none-reaches at.den a b some))
    (curve-ends_law.begins x1 y1 x2 y2 at a b e some)

ends : (x1 : ℕ) (y1 : ℤ) (x2 : ℕ) (y2 : ℤ) (at : Fraction) → at.num ≡ at.den → 0 < at.den → (a b : ℤ)
    → (FractionReaches at a b ↔ CurveReaches x1 y1 x2 y2 at a b)
ends x1 y1 x2 y2 at e some a b =
    joined {A = FractionReaches at a b} {B = b ≤ℤ a} {C = CurveReaches x1 y1 x2 y2 at a b} (rw e (all-reaches at.den a b some))
    (curve-ends_law.ends x1 y1 x2 y2 at a b e some)

-- an input that isn't strictly between 0 and 1 is one of them
pub told-end : (x1 : ℕ) (y1 : ℤ) (x2 : ℕ) (y2 : ℤ) (at : Fraction) → at.num ≤ at.den → 0 < at.den → is_inner at ≡ false → (a b : ℤ)
    → (FractionReaches at a b ↔ CurveReaches x1 y1 x2 y2 at a b)
told-end x1 y1 x2 y2 at share some end a b =
    elim (cases_lt 0 at.num) [
      | inl more ↦ elim (cases_lt at.num at.den) [
        | inl below ↦ let inner = inner-true at.num at.den more below in cc
        | inr above ↦ ends x1 y1 x2 y2 at (omega (arith, share, above)) some a b
      ]
      | inr none ↦ begins x1 y1 x2 y2 at (omega (arith, none)) some a b
    ] where
      inner-true : (n d : ℕ) → 0 < n → n < d → (nat_lt 0 n && nat_lt n d) ≡ true
      inner-true n d first second = grind arith

pub inner-is : (at : Fraction) → is_inner at ≡ true → IsInner at
inner-is at e = record { above_zero = grind arith; below_one = grind arith }
