-- The wrong definitions break the laws, each by an example.
use Rattle.std.proofs.Common.{◌≤◌, refl, arith}
use Rattle.page_model.specs.declared.colour.Rgb.{Rgb}
use Rattle.page_model.specs.declared.colour.Tint.{Tint}
use Rattle.page_model.specs.Red.{white}
use Rattle.srgb_luma.proofs.LinearLemmas.{linear_of-edge}
use Rattle.srgb_luma.proofs.LumaLemmas.{luma_of-white}
use Rattle.flash_laws.specs.LightLaws.{black, grey}
use Rattle.flash_laws.specs.SureLaws.{IsOf}
use Rattle.flash_laws.specs.WrongLight.{RiseAnywhereBreaks, MostlyRedBreaks, FarOneWayBreaks, AreFarOneWay}
use Rattle.flash_laws.specs.WrongSure.{PossibleIsNotSure}
use Rattle.flash_laws.proofs.FlashLemmas.{black-to_white}
use Rattle.flash_laws.proofs.LightLemmas.{rise-not_fall}
use Rattle.flash_laws.proofs.RedLemmas.{linear_of-none, white_point, red_point}

-- the grey #e8e8e8 has 0.806 of the luminance of white
pub rise_anywhere_breaks : RiseAnywhereBreaks
rise_anywhere_breaks law =
    let light = linear_of-edge 232 3465833556 (omega arith) (omega arith) refl refl in
    let full = luma_of-white in
    law (grey 232) white (omega (arith, light)) (omega (arith, light, full))

pub mostly_red_breaks : MostlyRedBreaks
mostly_red_breaks law = let none = linear_of-none in law 0 (omega (arith, none))

pub far_one_way_breaks : FarOneWayBreaks
far_one_way_breaks law =
    let far : AreFarOneWay red_point white_point = omega arith in
    let back : AreFarOneWay white_point red_point = law red_point white_point far in
    omega (arith, back)

-- from black or white to black or white
abbrev any_grey : Tint
any_grey = record { lo = black; hi = white }

pub possible_is_not_sure : PossibleIsNotSure
possible_is_not_sure law =
    rise-not_fall white black (law any_grey any_grey white black (is_of white (omega arith) (omega arith) (omega arith)) (is_of black (omega arith) (omega arith) (omega arith)) black-to_white) black-to_white where
      is_of : (c : Rgb) → c.r ≤ 255 → c.g ≤ 255 → c.b ≤ 255 → IsOf any_grey c
      is_of c r g b = record {
        red_least = omega arith;
        red_most = r;
        green_least = omega arith;
        green_most = g;
        blue_least = omega arith;
        blue_most = b;
      }
