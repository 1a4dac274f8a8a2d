-- The exact coordinates of a colour, and their floors and ceilings as a span of fractions.
use Rattle.std.proofs.Common.{ℕ, pos, ◌≡◌, ◌+◌, ◌-◌, ◌*◌, ◌/◌, ◌^◌, ◌<◌, ◌≤◌, ◌-ℤ◌, arith, refl, inl, inr}
use Rattle.std.proofs.lemmas.Bool.{cases_Bool}
use Rattle.std.proofs.lemmas.Int.{ints}
use Rattle.std.proofs.lemmas.Nat.{div-add-mod', mod_below}
use Rattle.std.proofs.Math.Nat.{mul-le-mul_right, lt_of_mul-lt-mul_left}
use Rattle.page_model.specs.declared.colour.Rgb.{Rgb}
use Rattle.page_model.specs.Change.{enclosed}
use Rattle.page_model.specs.Red.{chromaticity_of, coordinates_of, is_black}
use Rattle.fix_span.specs.Span.{frac_span}
use Rattle.red_chroma.specs.Enclosing.{IsCoordinate, shown, span_of}

pub chromaticity-shown : (c : Rgb) → chromaticity_of c ≡ coordinates_of (shown c)
chromaticity-shown c =
    elim (cases_Bool (is_black c)) [
      | inl black ↦ rw black refl
      | inr coloured ↦ rw coloured refl
    ]

-- the ends of an enclosed fraction as a span of fractions
pub frac-enclosed : (num den : ℕ) → 0 < den → frac_span 40 (record { num = pos num; den = pos den }) ≡ span_of (enclosed num den)
frac-enclosed num den some =
    let less : pos den -ℤ pos 1 ≡ pos (den - 1) = omega (arith, ints, some) in
    rw less refl

-- a quotient of a number that is at most four times the divisor
below_four : (num den q : ℕ) → 0 < den → num ≤ 4 * den → q * den < num * 2 ^ 40 + den → q ≤ 2 ^ 42
below_four num den q some few h =
    let scaled : num * 2 ^ 40 ≤ 4 * den * 2 ^ 40 = mul-le-mul_right (2 ^ 40) few in
    let below : q < 2 ^ 42 + 1 = lt_of_mul-lt-mul_left den (omega (arith, h, scaled)) in
    omega (arith, below)

pub enclosed-range : (num den : ℕ) → 0 < den → num ≤ 4 * den → IsCoordinate (span_of (enclosed num den))
enclosed-range num den some few = record {
  least = omega (arith, ints);
  ordered = let between : (enclosed num den).lo ≤ (enclosed num den).hi = floor-ceiling (num * 2 ^ 40) den some in omega (arith, ints, between);
  most = let below : (enclosed num den).hi ≤ 2 ^ 42 = below_four num den (enclosed num den).hi some few (ceiling_below (num * 2 ^ 40) den some) in omega (arith, ints, below);
} where
  ceiling_below : (m d : ℕ) → 0 < d → (m + (d - 1)) / d * d < m + d
  ceiling_below m d some = omega (arith, div-add-mod' (m + (d - 1)) d)

  floor-ceiling : (m d : ℕ) → 0 < d → m / d ≤ (m + (d - 1)) / d
  floor-ceiling m d some =
      let below : m / d < (m + (d - 1)) / d + 1 = lt_of_mul-lt-mul_left d
      (omega (arith, div-add-mod' m d, div-add-mod' (m + (d - 1)) d, mod_below (m + (d - 1)) d some, some)) in
      omega (arith, below)
