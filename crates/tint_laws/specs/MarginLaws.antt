-- How close the least and the greatest distance of two colours, by floors and ceilings of their coordinates in parts of 2^40, are to
-- the exact one: less than 2^-24 of the squared distance.
use Rattle.std.specs.Prelude.{ℕ, ◌+◌, ◌*◌, ◌^◌, ◌<◌, ◌≤◌}
use Rattle.page_model.specs.declared.colour.Rgb.{Rgb}
use Rattle.page_model.specs.Change.{Enclosed, enclosed, greatest_gap, least_gap, squared_distance}
use Rattle.page_model.specs.Red.{Chromaticity, chromaticity_of, squared}

-- the squared distance by a distance of enclosures, in parts of 2^80
abbrev pub squared_by : (Enclosed → Enclosed → ℕ) → Chromaticity → Chromaticity → ℕ
squared_by distance p q =
    squared (distance (enclosed p.u p.over) (enclosed q.u q.over)) + squared (distance (enclosed p.v p.over) (enclosed q.v q.over))

-- over the squared product of the denominators: the exact squared distance lies between the two, and is less than 2^-24 away, which
-- is 2^56 parts of 2^80
pub record IsWithinMargin (p q : Chromaticity) : Type 0 where
  pub least : squared_by least_gap p q * squared (p.over * q.over) ≤ 2 ^ 80 * squared_distance p q
  pub greatest : 2 ^ 80 * squared_distance p q ≤ squared_by greatest_gap p q * squared (p.over * q.over)
  pub above_least : 2 ^ 80 * squared_distance p q < (squared_by least_gap p q + 2 ^ 56) * squared (p.over * q.over)
  pub below_greatest : squared_by greatest_gap p q * squared (p.over * q.over) < 2 ^ 80 * squared_distance p q + 2 ^ 56 * squared (p.over * q.over)

abbrev pub DistancesAreClose : Type 0
DistancesAreClose = (a b : Rgb) → IsWithinMargin (chromaticity_of a) (chromaticity_of b)
