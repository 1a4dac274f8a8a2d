-- How a tint is spelled: `rrggbb`, or `rrggbb-rrggbb` where its two colours differ, in lower case.
use Rattle.std.specs.Prelude.{ℕ, ◌+◌, ◌/◌, ◌%◌, ◌&&◌, ◌==◌, List, [], ◌∷◌, ◌++◌, Bool, nat_lt, if◌then◌else◌}
use Rattle.page_model.specs.declared.colour.Rgb.{Rgb}
use Rattle.page_model.specs.declared.colour.Tint.{Tint}

-- the hexadecimal digit of a number below 16: 48 is `0` and 97 is `a`
abbrev pub hex_digit : ℕ → ℕ
hex_digit d = if nat_lt d 10 then 48 + d else 87 + d

-- a channel, from 0 to 255, as two digits
abbrev pub channel_text : ℕ → List ℕ
channel_text n = hex_digit (n / 16) ∷ hex_digit (n % 16) ∷ []

-- a colour as `rrggbb`
abbrev pub colour_text : Rgb → List ℕ
colour_text c = channel_text c.r ++ (channel_text c.g ++ channel_text c.b)

-- both colours of the tint are equal
abbrev pub is_single : Tint → Bool
is_single t = t.lo.r == t.hi.r && t.lo.g == t.hi.g && t.lo.b == t.hi.b

-- a tint: its one colour, or the lower one, a hyphen and the upper one
unfoldable pub tint_text : Tint → List ℕ
tint_text t = if is_single t then colour_text t.lo else colour_text t.lo ++ 45 ∷ colour_text t.hi
