-- Which bytes spell which page, and where other bytes cease to.
use Rattle.std.specs.Prelude.{◌≡◌, ℕ, Bool, ◌⊎◌, ◌<◌, ◌≤◌, ◌==◌, ◌||◌, List, length, map, Some, None, position, IsUtf8, nat_le}
use Rattle.std.specs.Str.{IsValidUpTo}
use Rattle.page_model.specs.declared.element.PageText.{PageText}
use Rattle.text_tokens.specs.Classes.{is_within}
use Rattle.page_tokens.specs.HtmlText.{Word, IsText, IsStuck}
use Rattle.page_reader.specs.PageSymbols.{symbol_of}
use Rattle.page_reader.specs.PageGrammar.{SpellPage, StopAt, start_of}
use Rattle.page_reader.specs.PageElements.{elements_of}
use Rattle.page_reader.specs.declared.fault.PageFault.{PageFault}
use Rattle.page_reader.specs.declared.fault.PageFault.TheVariants.{BadText, TooMany, NoMemory}

-- a control byte that a page may not hold: all but tab, line feed, form feed and carriage return
abbrev pub is_control : ℕ → Bool
is_control byte = nat_le byte 8 || byte == 11 || is_within 14 31 byte || byte == 127

-- the bytes spell this page: they are UTF-8 without control bytes, they are tokens, these are a page's, and its elements and the place
-- of its style text are those
pub record Spells (text : List ℕ) (page : PageText) : Type 0 where
  pub utf8 : IsUtf8 text
  pub no_control : position is_control text ≡ None
  pub words : List Word
  pub tokens : IsText text words
  pub grammar : SpellPage (map symbol_of words) page.sheet
  pub elements : page.elements ≡ elements_of (length text) words

-- a place ends the longest front of whole UTF-8 characters
abbrev pub IsNotUtf8At : List ℕ → ℕ → Type 0
IsNotUtf8At text place = IsValidUpTo text place

-- the first control byte stands there
pub record IsControlAt (text : List ℕ) (place : ℕ) : Type 0 where
  pub utf8 : IsUtf8 text
  pub first : position is_control text ≡ Some place

-- no token begins there
pub record IsNoTokenAt (text : List ℕ) (place : ℕ) : Type 0 where
  pub utf8 : IsUtf8 text
  pub no_control : position is_control text ≡ None
  pub stuck : IsStuck text place

-- the first token stands there that no page has behind those before it, or the text ends there too early
pub record IsNoPageAt (text : List ℕ) (place : ℕ) : Type 0 where
  pub utf8 : IsUtf8 text
  pub no_control : position is_control text ≡ None
  pub words : List Word
  pub tokens : IsText text words
  pub count : ℕ
  pub stop : StopAt (map symbol_of words) count
  pub place_is : place ≡ start_of (length text) words count

-- the place where bytes that spell no page cease to: the first of these causes that there is
abbrev pub IsBadAt : List ℕ → ℕ → Type 0
IsBadAt text place = IsNotUtf8At text place ⊎ IsControlAt text place ⊎ IsNoTokenAt text place ⊎ IsNoPageAt text place

-- the bytes spell this page and no other
pub record SpellsOnly (text : List ℕ) (page : PageText) : Type 0 where
  pub spelled : Spells text page
  pub only : (other : PageText) → Spells text other → other ≡ page

-- the bytes spell no page, and cease to at this place and no other
pub record SpellsNone (text : List ℕ) (place : ℕ) : Type 0 where
  pub bad : IsBadAt text place
  pub none : (page : PageText) → Spells text page → ⊥
  pub only : (other : ℕ) → IsBadAt text other → other ≡ place

-- the bytes spell a page of more than 64 boxes
pub record SpellsMany (text : List ℕ) : Type 0 where
  pub page : PageText
  pub spelled : SpellsOnly text page
  pub many : 65 < length page.elements

-- the bytes spell this page, which has a body and at most 64 boxes, and no other
pub record IsRead (text : List ℕ) (page : PageText) : Type 0 where
  pub spelled : SpellsOnly text page
  pub few : length page.elements ≤ 65

-- why bytes aren't read as a page
abbrev pub IsPageFault : List ℕ → PageFault → Type 0
IsPageFault text (BadText place) = SpellsNone text place
IsPageFault text TooMany = SpellsMany text
IsPageFault text NoMemory = Unit {0}
