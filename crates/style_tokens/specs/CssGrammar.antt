-- How the tokens of a style text are spelled, each by itself: CSS Syntax Module Level 3, as a profile.
use Rattle.std.specs.Prelude.{ℕ, ◌≡◌, true, false, Bool, ◌==◌, ◌&&◌, ◌||◌, List, [], ◌∷◌, ◌++◌}
use Rattle.std.specs.List.{list_all}
use Rattle.text_tokens.specs.Classes.{is_white, is_digit, is_name_start, is_name_byte}
use Rattle.style_tokens.specs.declared.token.CssKind.{CssKind}
use Rattle.style_tokens.specs.declared.token.CssKind.TheVariants.{Ident, Function, AtWord, Hash, Number, Colon, Semicolon, Comma, LeftBrace, RightBrace, RightParen, Bang, Dot}

-- an identifier without its `-`: a letter or `_`, then letters, digits, `_` and `-`
pub data IsBare : List ℕ → Type 0 where
  name : (first : ℕ) (more : List ℕ) → is_name_start first ≡ true → list_all is_name_byte more ≡ true → IsBare (first ∷ more)

-- an identifier: an optional `-`, and such a name
pub data IsIdent : List ℕ → Type 0 where
  bare : (word : List ℕ) → IsBare word → IsIdent word
  dashed : (word : List ℕ) → IsBare word → IsIdent (45 ∷ word)

-- one digit or more
pub data AreDigits : List ℕ → Type 0 where
  digits : (first : ℕ) (more : List ℕ) → is_digit first ≡ true → list_all is_digit more ≡ true → AreDigits (first ∷ more)

-- a sign or none
pub data IsSign : List ℕ → Type 0 where
  unsigned : IsSign []
  plus : IsSign (43 ∷ [])
  minus : IsSign (45 ∷ [])

-- digits, or digits with a point between them, or a point and digits
pub data IsDecimal : List ℕ → Type 0 where
  whole : (front : List ℕ) → AreDigits front → IsDecimal front
  pointed : (front behind : List ℕ) → AreDigits front → AreDigits behind → IsDecimal (front ++ 46 ∷ behind)
  fraction : (behind : List ℕ) → AreDigits behind → IsDecimal (46 ∷ behind)

-- `%`, an identifier or nothing
pub data IsUnit : List ℕ → Type 0 where
  none : IsUnit []
  percent : IsUnit (37 ∷ [])
  unit : (name : List ℕ) → IsIdent name → IsUnit name

-- a word spells a token of a kind
pub data Spells : CssKind → List ℕ → Type 0 where
  ident : (name : List ℕ) → IsIdent name → Spells Ident name
  function : (name : List ℕ) → IsIdent name → Spells Function (name ++ 40 ∷ [])
  at_word : (name : List ℕ) → IsIdent name → Spells AtWord (64 ∷ name)
  hash : (first : ℕ) (more : List ℕ) → is_name_byte first ≡ true → list_all is_name_byte more ≡ true → Spells Hash (35 ∷ first ∷ more)
  number : (sign decimal unit : List ℕ) → IsSign sign → IsDecimal decimal → IsUnit unit → Spells Number (sign ++ (decimal ++ unit))
  colon : Spells Colon (58 ∷ [])
  semicolon : Spells Semicolon (59 ∷ [])
  comma : Spells Comma (44 ∷ [])
  left_brace : Spells LeftBrace (123 ∷ [])
  right_brace : Spells RightBrace (125 ∷ [])
  right_paren : Spells RightParen (41 ∷ [])
  bang : Spells Bang (33 ∷ [])
  dot : Spells Dot (46 ∷ [])

-- these bytes hold a `*/`
abbrev pub holds_close : List ℕ → Bool
holds_close [] = false
holds_close (a ∷ []) = false
holds_close (a ∷ (b ∷ rest)) = (a == 42 && b == 47) || holds_close (b ∷ rest)

-- a gap stands at the front, and leaves a rest: a byte of white space, or a comment, which is `/*`, bytes without `*/`, and `*/`
pub data Gap : List ℕ → List ℕ → Type 0 where
  white : (byte : ℕ) (rest : List ℕ) → is_white byte ≡ true → Gap (byte ∷ rest) rest
  comment : (inner rest : List ℕ) → holds_close inner ≡ false → Gap (47 ∷ 42 ∷ (inner ++ 42 ∷ 47 ∷ rest)) rest
