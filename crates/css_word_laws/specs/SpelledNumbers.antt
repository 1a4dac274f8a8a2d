-- Numbers of style text, put together from their parts: CSS Values and Units Module Level 3, as a profile.
use Rattle.std.specs.Prelude.{ℕ, ℤ, pos, neg_ℤ, true, ◌≡◌, ◌<◌, ◌≤◌, ◌+◌, ◌-◌, ◌*◌, ◌^◌, List, [], ◌∷◌, ◌++◌, length, min}
use Rattle.std.specs.List.{list_all}
use Rattle.text_tokens.specs.Classes.{is_digit}
use Rattle.style_tokens.specs.declared.token.CssKind.{CssKind}
use Rattle.style_tokens.specs.declared.token.CssKind.TheVariants.{Number}
use Rattle.css_words.specs.Keywords.{is_keyword}
use Rattle.css_words.specs.Words.{Word}

-- the sign of a number, or none
pub data Sign : Type 0 where
  bare : Sign
  plus : Sign
  minus : Sign

abbrev pub sign_bytes : Sign → List ℕ
sign_bytes bare = []
sign_bytes plus = 43 ∷ []
sign_bytes minus = 45 ∷ []

-- a point and the digits behind it; nothing, where there are none
abbrev pub pointed : List ℕ → List ℕ
pointed [] = []
pointed (digit ∷ more) = 46 ∷ digit ∷ more

-- the bytes are a number: a sign or none, digits, a point with digits or none, and a unit
pub record IsNumber (sign : Sign) (whole fraction unit bytes : List ℕ) : Type 0 where
  pub whole_digits : list_all is_digit whole ≡ true
  pub fraction_digits : list_all is_digit fraction ≡ true
  pub some : 0 < length whole + length fraction
  pub joined : bytes ≡ sign_bytes sign ++ (whole ++ (pointed fraction ++ unit))

-- the number that digits write: each counts ten times as much as the one behind it
abbrev pub tens : List ℕ → ℕ
tens [] = 0
tens (digit ∷ more) = (digit - 48) * 10 ^ length more + tens more

-- the size of a number in parts of ten to the places: it has nine digits at most before the point, and no more decimals
-- than places
pub record IsSize (places : ℕ) (whole fraction : List ℕ) (size : ℕ) : Type 0 where
  pub few : length whole ≤ 9
  pub decimals : length fraction ≤ places
  pub value : size * 10 ^ length fraction ≡ tens (whole ++ fraction) * 10 ^ places

-- thousandths, held to 0 and 1
abbrev pub IsHeld : Sign → ℕ → ℕ → Type 0
IsHeld minus size n = n ≡ 0
IsHeld other size n = n ≡ min size 1000

-- the bytes are a number without unit and with three decimals at most, and this is it in thousandths, held to 0 and 1
pub record IsShare (bytes : List ℕ) (n : ℕ) : Type 0 where
  pub sign : Sign
  pub whole : List ℕ
  pub fraction : List ℕ
  pub size : ℕ
  pub number : IsNumber sign whole fraction [] bytes
  pub is_size : IsSize 3 whole fraction size
  pub held : IsHeld sign size n

-- a word of a kind
abbrev pub word : CssKind → List ℕ → Word
word kind bytes = record { kind = kind; bytes = bytes }

-- the words are one number with this unit, in any case, and this is its sign and its size
pub record IsMeasure (unit : List ℕ) (places : ℕ) (words : List Word) (sign : Sign) (size : ℕ) : Type 0 where
  pub whole : List ℕ
  pub fraction : List ℕ
  pub written : List ℕ
  pub bytes : List ℕ
  pub alone : words ≡ word Number bytes ∷ []
  pub number : IsNumber sign whole fraction written bytes
  pub has_unit : is_keyword unit written ≡ true
  pub is_size : IsSize places whole fraction size

-- the words are one number of value 0 with this unit, with any number of decimals
pub record IsNought (unit : List ℕ) (words : List Word) : Type 0 where
  pub sign : Sign
  pub whole : List ℕ
  pub fraction : List ℕ
  pub written : List ℕ
  pub bytes : List ℕ
  pub alone : words ≡ word Number bytes ∷ []
  pub number : IsNumber sign whole fraction written bytes
  pub has_unit : is_keyword unit written ≡ true
  pub few : length whole ≤ 9
  pub value : tens (whole ++ fraction) ≡ 0

-- a sign and a size as one number
abbrev pub with_sign : Sign → ℕ → ℤ
with_sign bare size = pos size
with_sign plus size = pos size
with_sign minus size = neg_ℤ (pos size)
