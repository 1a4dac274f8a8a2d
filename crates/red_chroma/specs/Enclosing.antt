-- The coordinates of a colour as the code has them: their floors and ceilings in parts of 2^40.
use Rattle.std.specs.Prelude.{ℕ, pos, nat_abs, ◌^◌, ◌≤ℤ◌, if◌then◌else◌}
use Rattle.page_model.specs.declared.colour.Rgb.{Rgb}
use Rattle.page_model.specs.Change.{Enclosed, enclosed}
use Rattle.page_model.specs.Red.{Chromaticity, chromaticity_of, is_black, white}
use Rattle.fix_span.specs.declared.span.Span.{Span}
use Rattle.fix_span.specs.Rational.{Rational}
use Rattle.fix_span.specs.Span.{Holds}
use Rattle.red_chroma.specs.declared.types.Chroma.{Chroma}

-- the two ends of an enclosure
abbrev pub span_of : Enclosed → Span 40
span_of e = record { lo = pos e.lo; hi = pos e.hi }

abbrev pub ends_of : Span 40 → Enclosed
ends_of x = record { lo = nat_abs x.lo; hi = nat_abs x.hi }

abbrev pub enclosed_chroma : Chromaticity → Chroma
enclosed_chroma p = record { u = span_of (enclosed p.u p.over); v = span_of (enclosed p.v p.over) }

-- the coordinates of a colour
abbrev pub chroma_of : Rgb → Chroma
chroma_of c = enclosed_chroma (chromaticity_of c)

-- the colour whose coordinates are taken: white for black
abbrev pub shown : Rgb → Rgb
shown c = if is_black c then white else c

-- a fraction of whole numbers
abbrev pub share : ℕ → ℕ → Rational
share num den = record { num = pos num; den = den }

-- the exact coordinates lie between the ends
pub record HoldsCoordinates (x : Chroma) (p : Chromaticity) : Type 0 where
  pub u : Holds 40 x.u (share p.u p.over)
  pub v : Holds 40 x.v (share p.v p.over)

-- a coordinate isn't negative, and is at most four
pub record IsCoordinate (x : Span 40) : Type 0 where
  pub least : pos 0 ≤ℤ x.lo
  pub ordered : x.lo ≤ℤ x.hi
  pub most : x.hi ≤ℤ pos (2 ^ 42)

pub record AreCoordinates (x : Chroma) : Type 0 where
  pub u : IsCoordinate x.u
  pub v : IsCoordinate x.v
