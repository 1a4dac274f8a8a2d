-- Which words write which colour.
use Rattle.std.specs.Prelude.{◌≡◌, ◌<◌, ◌+◌, ◌*◌, ℕ, List, [], ◌∷◌}
use Rattle.std.specs.Char.{digit_value}
use Rattle.page_model.specs.declared.colour.Rgb.{Rgb}

-- two hexadecimal digits, each of either case, write a number
pub record IsHexPair (high low n : ℕ) : Type 0 where
  pub high_digit : digit_value high < 16
  pub low_digit : digit_value low < 16
  pub value : n ≡ 16 * digit_value high + digit_value low

-- six of them write a colour, two for each channel, with nothing before and nothing behind
abbrev pub SpellsColour : List ℕ → Rgb → Type 0
SpellsColour (r1 ∷ r2 ∷ g1 ∷ g2 ∷ b1 ∷ b2 ∷ []) c = IsHexPair r1 r2 c.r × (IsHexPair g1 g2 c.g × IsHexPair b1 b2 c.b)
SpellsColour other c = ⊥
