-- Proofs of the laws of light.
use Rattle.std.proofs.Common.{refl, arith}
use Rattle.page_model.specs.Light.{IsRise, IsFall}
use Rattle.page_model.specs.Red.{IsSaturated}
use Rattle.srgb_luma.proofs.LumaLemmas.{luma_of-black, luma_of-white, luma_of_le, luma_of-red, luma_of-green, luma_of-blue}
use Rattle.flash_laws.specs.LightLaws.{Exclude, HoldsOfNoGrey, RiseAndFallExclude, BlackIsNotRed, WhiteIsBrightest}

pub rise-not_fall : Exclude IsRise IsFall
rise-not_fall a b rise fall =
    let up = rise.by_a_tenth in
    let down = fall.by_a_tenth in
    omega arith

pub rise_and_fall_exclude : RiseAndFallExclude
rise_and_fall_exclude = record {
  exclude = rise-not_fall;
  rise_needs_change = λ a rise. rise-not_fall a a rise rise;
  fall_needs_change = λ a fall. rise-not_fall a a fall fall;
  rise_from_dark = λ a b light rise. let dark = rise.from_below in absurd (omega arith);
}

pub grey-not_saturated : HoldsOfNoGrey IsSaturated
grey-not_saturated n saturated =
    let mostly = saturated.mostly in
    let some = saturated.some in
    omega arith

pub black_is_not_red : BlackIsNotRed
black_is_not_red = record { chromaticity = refl; greys = grey-not_saturated }

pub white_is_brightest : WhiteIsBrightest
white_is_brightest = record {
  full = luma_of-white;
  none = luma_of-black;
  most = λ c. let full = luma_of-white in let most = luma_of_le c in omega arith;
  grows = record { red = luma_of-red; green = luma_of-green; blue = luma_of-blue };
}
