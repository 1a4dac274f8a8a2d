-- The relative luminance of a colour: of black and of white, how large it may be, and that it grows with each channel.
use Rattle.std.proofs.Common.{◌≡◌, ◌*◌, ◌^◌, ◌<◌, ◌≤◌, refl, arith}
use Rattle.page_model.specs.declared.colour.Rgb.{Rgb}
use Rattle.page_model.specs.Light.{luma_of}
use Rattle.page_model.specs.Red.{white}
use Rattle.srgb_luma.proofs.LinearLemmas.{linear_of-low, linear_of-edge, linear_of_le}
use Rattle.srgb_luma.proofs.GrowthLemmas.{linear_of-mono, linear_of-strict}

-- no light at all
abbrev pub black : Rgb
black = record { r = 0; g = 0; b = 0 }

pub luma_of-black : luma_of black ≡ 0
luma_of-black = let none = linear_of-low 0 (omega arith) in omega arith

pub luma_of-white : luma_of white ≡ 10000 * 2 ^ 32
luma_of-white = let full = linear_of-edge 255 (2 ^ 32) (omega arith) (omega arith) refl refl in omega arith

-- white has the most
pub luma_of_le : (c : Rgb) → luma_of c ≤ 10000 * 2 ^ 32
luma_of_le c =
    let red = linear_of_le c.r in
    let green = linear_of_le c.g in
    let blue = linear_of_le c.b in
    omega arith

-- where no channel falls, luminance does not
pub luma_of-mono : (c d : Rgb) → c.r ≤ d.r → c.g ≤ d.g → c.b ≤ d.b → luma_of c ≤ luma_of d
luma_of-mono c d r g b =
    let red = linear_of-mono c.r d.r r in
    let green = linear_of-mono c.g d.g g in
    let blue = linear_of-mono c.b d.b b in
    omega arith

-- and it grows where one channel does: the channels of a colour are below 256
pub luma_of-red : (c d : Rgb) → c.r < d.r → d.r < 256 → c.g ≤ d.g → c.b ≤ d.b → luma_of c < luma_of d
luma_of-red c d r within g b =
    let red = linear_of-strict c.r d.r r within in
    let green = linear_of-mono c.g d.g g in
    let blue = linear_of-mono c.b d.b b in
    omega arith

pub luma_of-green : (c d : Rgb) → c.r ≤ d.r → c.g < d.g → d.g < 256 → c.b ≤ d.b → luma_of c < luma_of d
luma_of-green c d r g within b =
    let red = linear_of-mono c.r d.r r in
    let green = linear_of-strict c.g d.g g within in
    let blue = linear_of-mono c.b d.b b in
    omega arith

pub luma_of-blue : (c d : Rgb) → c.r ≤ d.r → c.g ≤ d.g → c.b < d.b → d.b < 256 → luma_of c < luma_of d
luma_of-blue c d r g b within =
    let red = linear_of-mono c.r d.r r in
    let green = linear_of-mono c.g d.g g in
    let blue = linear_of-strict c.b d.b b within in
    omega arith
