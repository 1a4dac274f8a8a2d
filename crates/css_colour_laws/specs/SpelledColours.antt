-- Colours: CSS Color Module Level 4, as a profile. An alpha is in parts of 255,000.
use Rattle.std.specs.Prelude.{ℕ, true, ◌≡◌, ◌⊎◌, ◌<◌, ◌+◌, ◌*◌, List, [], ◌∷◌, codes, min}
use Rattle.std.specs.Char.{digit_value}
use Rattle.page_model.specs.declared.colour.Rgba.{Rgba}
use Rattle.style_tokens.specs.declared.token.CssKind.TheVariants.{Comma, Function, Hash, Number, RightParen}
use Rattle.css_words.specs.Keywords.{is_keyword}
use Rattle.css_colours.specs.ColourNames.{colour_names}
use Rattle.css_words.specs.Words.{Word}
use Rattle.css_word_laws.specs.SpelledNumbers.{IsShare, word}
use Rattle.css_word_laws.specs.SpelledWords.{IsWhole, SpellsKeyword}

-- two hexadecimal digits, of either case, and the number that they write
pub record IsPair (high low n : ℕ) : Type 0 where
  pub high_digit : digit_value high < 16
  pub low_digit : digit_value low < 16
  pub value : n ≡ 16 * digit_value high + digit_value low

-- the alpha that two digits write, of which 255 is a full one
pub record IsFade (high low a : ℕ) : Type 0 where
  pub n : ℕ
  pub pair : IsPair high low n
  pub value : a ≡ 1000 * n

-- the alpha behind three digits: one digit more, which counts twice, or none
abbrev pub IsShortAlpha : List ℕ → ℕ → Type 0
IsShortAlpha [] a = a ≡ 255000
IsShortAlpha (digit ∷ []) a = IsFade digit digit a
IsShortAlpha (digit ∷ other ∷ more) a = ⊥

-- a mark and three digits, each of which counts twice, with an alpha or none
pub record IsShortHash (words : List Word) (c : Rgba) : Type 0 where
  pub mark : ℕ
  pub r : ℕ
  pub g : ℕ
  pub b : ℕ
  pub behind : List ℕ
  pub alone : words ≡ word Hash (mark ∷ r ∷ g ∷ b ∷ behind) ∷ []
  pub red : IsPair r r c.r
  pub green : IsPair g g c.g
  pub blue : IsPair b b c.b
  pub alpha : IsShortAlpha behind c.a

-- the alpha behind six digits: two digits more, or none
abbrev pub IsLongAlpha : List ℕ → ℕ → Type 0
IsLongAlpha [] a = a ≡ 255000
IsLongAlpha (high ∷ []) a = ⊥
IsLongAlpha (high ∷ low ∷ []) a = IsFade high low a
IsLongAlpha (high ∷ low ∷ other ∷ more) a = ⊥

-- a mark and six digits, with an alpha or none
pub record IsLongHash (words : List Word) (c : Rgba) : Type 0 where
  pub mark : ℕ
  pub r1 : ℕ
  pub r2 : ℕ
  pub g1 : ℕ
  pub g2 : ℕ
  pub b1 : ℕ
  pub b2 : ℕ
  pub behind : List ℕ
  pub alone : words ≡ word Hash (mark ∷ r1 ∷ r2 ∷ g1 ∷ g2 ∷ b1 ∷ b2 ∷ behind) ∷ []
  pub red : IsPair r1 r2 c.r
  pub green : IsPair g1 g2 c.g
  pub blue : IsPair b1 b2 c.b
  pub alpha : IsLongAlpha behind c.a

-- `)` alone, where the alpha is full
pub record IsFullEnd (words : List Word) (a : ℕ) : Type 0 where
  pub end : List ℕ
  pub joined : words ≡ word RightParen end ∷ []
  pub full : a ≡ 255000

-- a comma, the alpha as a number that is held to 0 and 1, and `)`
pub record IsFadedEnd (words : List Word) (a : ℕ) : Type 0 where
  pub comma : List ℕ
  pub share : List ℕ
  pub end : List ℕ
  pub n : ℕ
  pub joined : words ≡ word Comma comma ∷ word Number share ∷ word RightParen end ∷ []
  pub is_share : IsShare share n
  pub value : a ≡ 255 * n

-- `rgb(` or `rgba(`, three whole numbers with commas between, each held to 255, and an alpha or none
pub record IsRgb (words : List Word) (c : Rgba) : Type 0 where
  pub name : List ℕ
  pub r : List ℕ
  pub g : List ℕ
  pub b : List ℕ
  pub first : List ℕ
  pub second : List ℕ
  pub behind : List Word
  pub red : ℕ
  pub green : ℕ
  pub blue : ℕ
  pub alpha : ℕ
  pub joined : words ≡ word Function name ∷ word Number r ∷ word Comma first ∷ word Number g ∷ word Comma second ∷ word Number b ∷ behind
  pub called : (is_keyword (codes "rgb(") name ≡ true) ⊎ (is_keyword (codes "rgba(") name ≡ true)
  pub is_red : IsWhole r red
  pub is_green : IsWhole g green
  pub is_blue : IsWhole b blue
  pub is_end : IsFullEnd behind alpha ⊎ IsFadedEnd behind alpha
  pub value : c ≡ record { r = min red 255; g = min green 255; b = min blue 255; a = alpha }

abbrev pub SpellsColour : List Word → Rgba → Type 0
SpellsColour words c = IsShortHash words c ⊎ (IsLongHash words c ⊎ (SpellsKeyword colour_names words c ⊎ IsRgb words c))
