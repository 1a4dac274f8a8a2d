-- Saturated colours, and colours that are far, at their edges. Each edge was found by an implementation that shares nothing with
-- these definitions: two neighbouring colours, one on each side.
use Rattle.page_model.specs.Fraction.{Fraction, SameNumber}
use Rattle.page_model.specs.declared.colour.Rgb.{Rgb}
use Rattle.page_model.specs.Red.{IsSaturated, AreFar, chromaticity_of, IsIntoRed, IsOutOfRed}
use Rattle.time_values.specs.Examples.{rgb, grey, fraction}

abbrev Far : Rgb → Rgb → Type 0
Far a b = AreFar (chromaticity_of a) (chromaticity_of b)

-- the coordinates of a colour, as two fractions
abbrev u_of : Rgb → Fraction
u_of c = fraction (chromaticity_of c).u (chromaticity_of c).over

abbrev v_of : Rgb → Fraction
v_of c = fraction (chromaticity_of c).v (chromaticity_of c).over

pub record ChromaticityValues : Type 0 where
  pub white_u : SameNumber (u_of (grey 0xff)) (fraction 7604 38435)
  pub white_v : SameNumber (v_of (grey 0xff)) (fraction 3600 7687)
  pub black_u : SameNumber (u_of (grey 0)) (fraction 7604 38435)
  pub grey_v : SameNumber (v_of (grey 0x0a)) (fraction 3600 7687)
  pub red_u : SameNumber (u_of (rgb 0xff 0 0)) (fraction 16496 36593)
  pub red_v : SameNumber (v_of (rgb 0xff 0 0)) (fraction 19134 36593)
  pub orange_u : SameNumber (u_of (rgb 0xc8 0x3c 0)) (fraction 21848735740336 56492024371063)

-- four fifths of the light are red, and a little less
pub record SaturatedEdge : Type 0 where
  pub red : IsSaturated (rgb 0xff 0 0)
  pub below_the_edge : IsSaturated (rgb 0xff 0x88 0)
  pub above_the_edge : IsSaturated (rgb 0xff 0x89 0) → ⊥
  pub dark : IsSaturated (rgb 0x80 0x3c 0x0a)
  pub dark_and_blue : IsSaturated (rgb 0x80 0x3c 0x28) → ⊥
  pub black : IsSaturated (grey 0) → ⊥

-- a distance of a little more than 0.2, and of a little less
pub record FarEdge : Type 0 where
  pub white_far : Far (grey 0xff) (rgb 0xff 0x4e 0)
  pub white_near : Far (grey 0xff) (rgb 0xff 0x4f 0) → ⊥
  pub green_far : Far (rgb 0 0x80 0) (rgb 0xff 0x7c 0)
  pub green_near : Far (rgb 0 0x80 0) (rgb 0xff 0x7d 0) → ⊥
  pub grey_near : Far (grey 0x5a) (rgb 0xc8 0x3c 0) → ⊥

-- changes into red and out of it: the later colour is the saturated one, or the earlier
pub record RedChanges : Type 0 where
  pub green_to_red : IsIntoRed (rgb 0 0x80 0) (rgb 0xff 0 0)
  pub red_to_green : IsOutOfRed (rgb 0xff 0 0) (rgb 0 0x80 0)
  pub green_to_red_is_not_out : IsOutOfRed (rgb 0 0x80 0) (rgb 0xff 0 0) → ⊥
  pub orange_to_yellow : IsOutOfRed (rgb 0xc8 0x3c 0) (rgb 0xbf 0xe4 0x2a)
  pub orange_to_yellow_is_not_into : IsIntoRed (rgb 0xc8 0x3c 0) (rgb 0xbf 0xe4 0x2a) → ⊥
  pub grey_to_orange : IsIntoRed (grey 0x5a) (rgb 0xc8 0x3c 0) → ⊥
