-- Linear light and relative luminance of a colour, and rises and falls of luminance. The curve is that of WCAG 2.2's
-- relative luminance, in whole parts of 2^32 and rounded down (the rounding is the project's own); a rise and a fall are the
-- opposing changes of its general flash: a tenth of the luminance of white, where the darker is below 0.8 of it.
use Rattle.std.specs.Prelude.{ℕ, Bool, ◌+◌, ◌*◌, ◌/◌, ◌^◌, ◌<◌, ◌≤◌, nat_le, if◌then◌else◌}
use Rattle.page_model.specs.declared.colour.Rgb.{Rgb}
use Rattle.page_model.specs.Least.{greatest_up_to}

-- n / 2^32 is at most ((c / 255 + 0.055) / 1.055) ^ 2.4, in whole numbers
abbrev pub is_below_curve : ℕ → ℕ → Bool
is_below_curve c n = nat_le (n ^ 5 * 10761 ^ 12) ((40 * c + 561) ^ 12 * 2 ^ 160)

-- the linear light of a channel, in parts of 2^32: c / 255 / 12.92 up to 10, and above it the curve
unfoldable pub linear_of : ℕ → ℕ
linear_of c = if nat_le c 10 then c * 5 * 2 ^ 32 / 16473 else greatest_up_to (2 ^ 32) (is_below_curve c)

-- the relative luminance of a colour, in parts of 10000 * 2^32
abbrev pub luma_of : Rgb → ℕ
luma_of c = 2126 * linear_of c.r + 7152 * linear_of c.g + 722 * linear_of c.b

-- from the first colour to the second, the luminance rises by a tenth or more, and the first is below 0.8
pub record IsRise (a b : Rgb) : Type 0 where
  pub by_a_tenth : luma_of a + 1000 * 2 ^ 32 ≤ luma_of b
  pub from_below : luma_of a < 8000 * 2 ^ 32

-- a fall is a rise read backwards
abbrev pub IsFall : Rgb → Rgb → Type 0
IsFall a b = IsRise b a
