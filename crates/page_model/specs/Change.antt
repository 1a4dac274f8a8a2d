-- Possible and sure changes between two tints, as they can be tested without real numbers. A rise is possible where it is one
-- from the earlier tint's lower colour to the later tint's upper one, and sure where it is one from the upper to the lower. A red
-- change between two single colours is judged by enclosures of their coordinates (own: floor and ceiling in parts of 2^40) or by a
-- margin of 2^-24 of the squared distance (wide); where a tint isn't a single colour no red change is sure, and one is possible
-- where the tint that has to be saturated holds a saturated corner. This is the project's own.
use Rattle.std.specs.Prelude.{ℕ, ◌≡◌, ◌⊎◌, ◌+◌, ◌-◌, ◌*◌, ◌/◌, ◌^◌, ◌<◌, max}
use Rattle.page_model.specs.declared.colour.Rgb.{Rgb}
use Rattle.page_model.specs.declared.colour.Tint.{Tint}
use Rattle.page_model.specs.Light.{IsRise}
use Rattle.page_model.specs.Red.{Chromaticity, IsSaturated, chromaticity_of, gap, squared}

-- the greater of the two ends rises from the lesser
abbrev pub IsPossibleRise : Tint → Tint → Type 0
IsPossibleRise a b = IsRise a.lo b.hi

abbrev pub IsSureRise : Tint → Tint → Type 0
IsSureRise a b = IsRise a.hi b.lo

-- a fall is a rise read backwards
abbrev pub IsPossibleFall : Tint → Tint → Type 0
IsPossibleFall a b = IsPossibleRise b a

abbrev pub IsSureFall : Tint → Tint → Type 0
IsSureFall a b = IsSureRise b a

-- the least and the greatest value of a fraction, in parts of 2^40: its floor and its ceiling
pub record Enclosed : Type 0 where
  pub lo : ℕ
  pub hi : ℕ

abbrev pub enclosed : ℕ → ℕ → Enclosed
enclosed num den = record { lo = num * 2 ^ 40 / den; hi = (num * 2 ^ 40 + (den - 1)) / den }

-- the least and the greatest distance of a point of the one from a point of the other
abbrev pub least_gap : Enclosed → Enclosed → ℕ
least_gap p q = (p.lo - q.hi) + (q.lo - p.hi)

abbrev pub greatest_gap : Enclosed → Enclosed → ℕ
greatest_gap p q = max (p.hi - q.lo) (q.hi - p.lo)

-- the squared distance is more than 1/25, by a distance of the two pairs of enclosures
abbrev pub AreFarBy : (Enclosed → Enclosed → ℕ) → Chromaticity → Chromaticity → Type 0
AreFarBy distance p q =
    2 ^ 80
    < 25 * (squared (distance (enclosed p.u p.over) (enclosed q.u q.over))
    + squared (distance (enclosed p.v p.over) (enclosed q.v q.over)))

-- the squared distance of two points, over the squared product of the denominators
abbrev pub squared_distance : Chromaticity → Chromaticity → ℕ
squared_distance p q = squared (gap (p.u * q.over) (q.u * p.over)) + squared (gap (p.v * q.over) (q.v * p.over))

-- it is more than 1/25 - 2^-24, or than 1/25 + 2^-24
abbrev pub AreFarOrNearly : Chromaticity → Chromaticity → Type 0
AreFarOrNearly p q = (2 ^ 24 - 25) * squared (p.over * q.over) < 25 * 2 ^ 24 * squared_distance p q

abbrev pub AreFarAndMore : Chromaticity → Chromaticity → Type 0
AreFarAndMore p q = (2 ^ 24 + 25) * squared (p.over * q.over) < 25 * 2 ^ 24 * squared_distance p q

-- a tint is a single colour
abbrev pub IsSingle : Tint → Type 0
IsSingle tint = tint.lo ≡ tint.hi

-- a colour has, in each channel, the least or the greatest of a tint
pub record IsCorner (tint : Tint) (corner : Rgb) : Type 0 where
  pub red : (corner.r ≡ tint.lo.r) ⊎ (corner.r ≡ tint.hi.r)
  pub green : (corner.g ≡ tint.lo.g) ⊎ (corner.g ≡ tint.hi.g)
  pub blue : (corner.b ≡ tint.lo.b) ⊎ (corner.b ≡ tint.hi.b)

-- some corner of a tint is saturated
abbrev pub HasSaturated : Tint → Type 0
HasSaturated tint = (corner : Rgb) × IsCorner tint corner × IsSaturated corner

-- between two single colours, by a test of how far they are
pub record AreSingleAndFar (Far : Chromaticity → Chromaticity → Type 0) (a b : Tint) : Type 0 where
  pub first_single : IsSingle a
  pub second_single : IsSingle b
  pub far : Far (chromaticity_of a.lo) (chromaticity_of b.lo)

-- a red change is possible, where the tint that has to be saturated is the third
abbrev pub IsPossiblyRed : (Chromaticity → Chromaticity → Type 0) → Tint → Tint → Tint → Type 0
IsPossiblyRed Far a b saturated =
    (AreSingleAndFar Far a b × IsSaturated saturated.lo) ⊎ ((IsSingle a → IsSingle b → ⊥) × HasSaturated saturated)

-- a red change is sure
abbrev pub IsSurelyRed : (Chromaticity → Chromaticity → Type 0) → Tint → Tint → Tint → Type 0
IsSurelyRed Far a b saturated = AreSingleAndFar Far a b × IsSaturated saturated.lo

-- the own kind
abbrev pub IsPossiblyIntoRed : Tint → Tint → Type 0
IsPossiblyIntoRed a b = IsPossiblyRed (AreFarBy greatest_gap) a b b

abbrev pub IsPossiblyOutOfRed : Tint → Tint → Type 0
IsPossiblyOutOfRed a b = IsPossiblyRed (AreFarBy greatest_gap) a b a

abbrev pub IsSurelyIntoRed : Tint → Tint → Type 0
IsSurelyIntoRed a b = IsSurelyRed (AreFarBy least_gap) a b b

abbrev pub IsSurelyOutOfRed : Tint → Tint → Type 0
IsSurelyOutOfRed a b = IsSurelyRed (AreFarBy least_gap) a b a

-- the wide kind
abbrev pub IsPossiblyIntoRedWidely : Tint → Tint → Type 0
IsPossiblyIntoRedWidely a b = IsPossiblyRed AreFarOrNearly a b b

abbrev pub IsPossiblyOutOfRedWidely : Tint → Tint → Type 0
IsPossiblyOutOfRedWidely a b = IsPossiblyRed AreFarOrNearly a b a

abbrev pub IsSurelyIntoRedWidely : Tint → Tint → Type 0
IsSurelyIntoRedWidely a b = IsSurelyRed AreFarAndMore a b b

abbrev pub IsSurelyOutOfRedWidely : Tint → Tint → Type 0
IsSurelyOutOfRedWidely a b = IsSurelyRed AreFarAndMore a b a
