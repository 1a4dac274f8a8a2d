-- Luminance of single colours, and rises at the two thresholds. The numbers are those of an implementation that shares nothing
-- with these definitions.
use Rattle.std.specs.Prelude.{◌≡◌}
use Rattle.page_model.specs.Light.{luma_of, IsRise, IsFall}
use Rattle.time_values.specs.Examples.{rgb, grey}

pub record LumaValues : Type 0 where
  pub black : luma_of (grey 0) ≡ 0
  pub darkest_grey : luma_of (grey 0x0a) ≡ 130363840000
  pub grey_59 : luma_of (grey 0x59) ≡ 4290617700000
  pub grey_5a : luma_of (grey 0x5a) ≡ 4391248990000
  pub teal : luma_of (rgb 0x1d 0xaa 0xb2) ≡ 13840538199266
  pub red : luma_of (rgb 0xff 0 0) ≡ 9131100471296
  pub white : luma_of (grey 0xff) ≡ 42949672960000

-- from black, 0.0999 of white is too little, and 0.1022 is enough; to white, a rise begins at 0.7991, and not at 0.8070
pub record RiseThresholds : Type 0 where
  pub black_to_59 : IsRise (grey 0) (grey 0x59) → ⊥
  pub black_to_5a : IsRise (grey 0) (grey 0x5a)
  pub back_from_5a : IsFall (grey 0x5a) (grey 0)
  pub white_to_e7 : IsFall (grey 0xff) (grey 0xe7)
  pub back_from_e7 : IsRise (grey 0xe7) (grey 0xff)
  pub white_to_e8 : IsFall (grey 0xff) (grey 0xe8) → ⊥
  pub back_from_e8 : IsRise (grey 0xe8) (grey 0xff) → ⊥
  pub not_a_fall : IsFall (grey 0) (grey 0x5a) → ⊥
