-- Where some corner of a tint is saturated, the one is that has most red and least of the rest; and it is a corner.
use Rattle.std.proofs.Common.{ℕ, ◌≡◌, ◌⊎◌, ◌↔◌, ◌≤◌, arith, inl, inr}
use Rattle.std.specs.Prelude.{max, min}
use Rattle.std.proofs.lemmas.Bool.{cases_lt}
use Rattle.page_model.specs.declared.colour.Rgb.{Rgb}
use Rattle.page_model.specs.declared.colour.Tint.{Tint}
use Rattle.page_model.specs.Change.{HasSaturated, IsCorner}
use Rattle.page_model.specs.Red.{IsSaturated}
use Rattle.srgb_luma.proofs.GrowthLemmas.{linear_of-mono}

-- the corner of most red and least of the rest
abbrev pub reddest : Tint → Rgb
reddest tint = record {
  r = max tint.lo.r tint.hi.r;
  g = min tint.lo.g tint.hi.g;
  b = min tint.lo.b tint.hi.b;
}

max_either : (a b : ℕ) → (max a b ≡ a) ⊎ (max a b ≡ b)
max_either a b = elim (cases_lt a b) [ inl less ↦ inr (omega (arith, less)) | inr more ↦ inl (omega (arith, more)) ]

min_either : (a b : ℕ) → (min a b ≡ a) ⊎ (min a b ≡ b)
min_either a b = elim (cases_lt a b) [ inl less ↦ inl (omega (arith, less)) | inr more ↦ inr (omega (arith, more)) ]

reddest-corner : (tint : Tint) → IsCorner tint (reddest tint)
reddest-corner tint = record {
  red = max_either tint.lo.r tint.hi.r;
  green = min_either tint.lo.g tint.hi.g;
  blue = min_either tint.lo.b tint.hi.b;
}

at_most_max : (c a b : ℕ) → (c ≡ a) ⊎ (c ≡ b) → c ≤ max a b
at_most_max c a b either = elim either [ inl e ↦ omega (arith, e) | inr e ↦ omega (arith, e) ]

at_least_min : (c a b : ℕ) → (c ≡ a) ⊎ (c ≡ b) → min a b ≤ c
at_least_min c a b either = elim either [ inl e ↦ omega (arith, e) | inr e ↦ omega (arith, e) ]

reddest-of : (tint : Tint) (corner : Rgb) → IsCorner tint corner → IsSaturated corner → IsSaturated (reddest tint)
reddest-of tint corner is saturated =
    let red = linear_of-mono corner.r (max tint.lo.r tint.hi.r) (at_most_max corner.r tint.lo.r tint.hi.r is.red) in
    let green = linear_of-mono (min tint.lo.g tint.hi.g) corner.g (at_least_min corner.g tint.lo.g tint.hi.g is.green) in
    let blue = linear_of-mono (min tint.lo.b tint.hi.b) corner.b (at_least_min corner.b tint.lo.b tint.hi.b is.blue) in
    record {
      mostly = omega (arith, red, green, blue, saturated.mostly);
      some = omega (arith, red, saturated.some);
    }

pub saturated-reddest : (tint : Tint) → IsSaturated (reddest tint) ↔ HasSaturated tint
saturated-reddest tint = (
  λ red. (reddest tint, reddest-corner tint, red),
  λ has. reddest-of tint has.0 has.1 has.2,
)
