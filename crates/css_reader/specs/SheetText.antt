-- The style sheet of a part of a file, and its first fault.
use Rattle.std.specs.Prelude.{ℕ, List, [], Result, Ok, Err, ◌⊎◌, ◌≡◌}
use Rattle.page_model.specs.declared.place.Place.{Place}
use Rattle.style_tokens.specs.declared.token.CssToken.{CssToken}
use Rattle.style_tokens.specs.CssTokens.{AreTokens}
use Rattle.css_declarations.specs.declared.fault.SheetFault.{SheetFault}
use Rattle.css_declarations.specs.DeclarationFaults.{IsTold}
use Rattle.css_declarations.specs.InlineText.{IsTokenFault, part_of}
use Rattle.css_reader.specs.SheetGrammar.{Item, Items, sheet_of}
use Rattle.css_reader.specs.SheetState.{SheetState}

-- the part of the file spells this sheet
pub record SpellsSheet (text : List ℕ) (part : Place) (sheet : SheetState) : Type 0 where
  pub tokens : List CssToken
  pub are_tokens : AreTokens part.to (part_of text part) tokens
  pub items : List Item
  pub are_items : Items text part.to [] tokens (Ok (items, []))
  pub sheet_is : sheet ≡ sheet_of items

-- this is the first fault of what its tokens spell
pub record IsItemsFault (text : List ℕ) (part : Place) (fault : SheetFault) : Type 0 where
  pub tokens : List CssToken
  pub are_tokens : AreTokens part.to (part_of text part) tokens
  pub first : Items text part.to [] tokens (Err fault)

abbrev pub IsSheetFault : List ℕ → Place → SheetFault → Type 0
IsSheetFault text part fault = IsTokenFault text part fault ⊎ IsItemsFault text part fault

-- what there is to be read: the sheet, or the first fault
abbrev pub IsSheet : List ℕ → Place → Result SheetState SheetFault → Type 0
IsSheet text part (Ok sheet) = SpellsSheet text part sheet
IsSheet text part (Err fault) = IsSheetFault text part fault

-- what a reader may answer
abbrev pub IsSheetRead : List ℕ → Place → Result SheetState SheetFault → Type 0
IsSheetRead text part (Ok sheet) = SpellsSheet text part sheet
IsSheetRead text part (Err fault) = IsTold (IsSheetFault text part) fault
