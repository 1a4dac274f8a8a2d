-- Saturated red, and changes into and out of it. This test is the project's own, after the red flash of WCAG 2.2: a colour is
-- saturated where red is four fifths or more of its linear light; two colours are far where their points of the CIE 1976 UCS
-- diagram (u', v') are more than 0.2 apart. All is exact: a coordinate is a fraction of whole numbers.
use Rattle.std.specs.Prelude.{ℕ, Bool, ◌+◌, ◌-◌, ◌*◌, ◌<◌, ◌≤◌, ◌==◌, ◌&&◌, if◌then◌else◌}
use Rattle.page_model.specs.declared.colour.Rgb.{Rgb}
use Rattle.page_model.specs.Light.{linear_of}

-- red is at least four times the rest, and there is some
pub record IsSaturated (c : Rgb) : Type 0 where
  pub mostly : 4 * (linear_of c.g + linear_of c.b) ≤ linear_of c.r
  pub some : 0 < linear_of c.r

-- the CIE XYZ values of a colour, ten thousand times as large as in parts of 2^32
abbrev pub cie_x : Rgb → ℕ
cie_x c = 4124 * linear_of c.r + 3576 * linear_of c.g + 1805 * linear_of c.b

abbrev pub cie_y : Rgb → ℕ
cie_y c = 2126 * linear_of c.r + 7152 * linear_of c.g + 722 * linear_of c.b

abbrev pub cie_z : Rgb → ℕ
cie_z c = 193 * linear_of c.r + 1192 * linear_of c.g + 9505 * linear_of c.b

-- two fractions over one denominator: u' = u / over and v' = v / over
pub record Chromaticity : Type 0 where
  pub u : ℕ
  pub v : ℕ
  pub over : ℕ

abbrev pub white : Rgb
white = record { r = 255; g = 255; b = 255 }

abbrev pub is_black : Rgb → Bool
is_black c = c.r == 0 && (c.g == 0 && c.b == 0)

-- u' = 4 X / (X + 15 Y + 3 Z) and v' = 9 Y / (X + 15 Y + 3 Z)
abbrev pub coordinates_of : Rgb → Chromaticity
coordinates_of c = record { u = 4 * cie_x c; v = 9 * cie_y c; over = cie_x c + 15 * cie_y c + 3 * cie_z c }

-- the coordinates, where black takes those of white
abbrev pub chromaticity_of : Rgb → Chromaticity
chromaticity_of c = if is_black c then coordinates_of white else coordinates_of c

-- how far apart two numbers are
abbrev pub gap : ℕ → ℕ → ℕ
gap a b = (a - b) + (b - a)

abbrev pub squared : ℕ → ℕ
squared n = n * n

-- the squared distance of two points is more than 1/25, over the product of the denominators
abbrev pub AreFar : Chromaticity → Chromaticity → Type 0
AreFar p q =
    squared (p.over * q.over)
    < 25 * (squared (gap (p.u * q.over) (q.u * p.over)) + squared (gap (p.v * q.over) (q.v * p.over)))

-- the colours are far, and the later one is saturated
pub record IsIntoRed (a b : Rgb) : Type 0 where
  pub far : AreFar (chromaticity_of a) (chromaticity_of b)
  pub saturated : IsSaturated b

-- the colours are far, and the earlier one is saturated
pub record IsOutOfRed (a b : Rgb) : Type 0 where
  pub far : AreFar (chromaticity_of a) (chromaticity_of b)
  pub saturated : IsSaturated a
