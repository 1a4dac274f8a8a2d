-- What the words of a declaration's value spell, and whether they are past a limit: CSS Cascading Level 3 has what a
-- shorthand sets.
use Rattle.std.specs.Prelude.{◌≡◌, List, [], ◌∷◌, Result, Ok, Err}
use Rattle.page_model.specs.declared.rule.Longhand.{Longhand}
use Rattle.css_words.specs.declared.fault.ValueFault.{ValueFault}
use Rattle.css_words.specs.declared.fault.ValueFault.TheVariants.{BadValue, OverLimit, NoMemory}
use Rattle.css_columns.specs.declared.item.Shorthand.{Shorthand}
use Rattle.css_values.specs.declared.types.Property.{Property}
use Rattle.css_values.specs.declared.types.Property.TheVariants.{Animation}
use Rattle.css_columns.specs.Columns.{columns}
use Rattle.css_words.specs.Words.{Word}
use Rattle.css_value_laws.specs.SpelledLists.{IsList, IsPastList}
use Rattle.css_declaration_laws.specs.SpelledLonghands.{SpellsLonghand, PastLonghand}
use Rattle.css_declaration_laws.specs.SpelledShorthand.{SpellsItem, PastItem}

-- the shorthand sets eight longhands, each with its part of each item
pub record SpellsShorthand (words : List Word) (all : List Longhand) : Type 0 where
  pub items : List Shorthand
  pub spelled : IsList SpellsItem words items
  pub value : columns items ≡ all

-- another property sets one
pub record SpellsOne (property : Property) (words : List Word) (all : List Longhand) : Type 0 where
  pub longhand : Longhand
  pub spelled : SpellsLonghand property words longhand
  pub value : longhand ∷ [] ≡ all

-- the words spell these longhands for a property
abbrev pub Spells : Property → List Word → List Longhand → Type 0
Spells Animation words all = SpellsShorthand words all
Spells other words all = SpellsOne other words all

-- they spell a value past its limit
abbrev pub SpellsPast : Property → List Word → Type 0
SpellsPast Animation words = IsPastList SpellsItem PastItem words
SpellsPast other words = PastLonghand other words

-- the words spell no value
pub record SpellsNone (property : Property) (words : List Word) : Type 0 where
  pub no_value : (all : List Longhand) → Spells property words all → ⊥
  pub no_past : SpellsPast property words → ⊥

-- the answer is what the words spell, unless memory was refused
abbrev pub Answers : Property → List Word → Result (List Longhand) ValueFault → Type 0
Answers property words (Ok all) = Spells property words all
Answers property words (Err OverLimit) = SpellsPast property words
Answers property words (Err BadValue) = SpellsNone property words
Answers property words (Err NoMemory) = Unit {0}
