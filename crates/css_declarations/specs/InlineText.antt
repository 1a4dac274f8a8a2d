-- The declarations of a style attribute: CSS Style Attributes, as a profile.
use Rattle.std.specs.Prelude.{ℕ, List, [], Result, Ok, Err, slice_range, ◌⊎◌, ◌≡◌}
use Rattle.page_model.specs.declared.place.Place.{Place}
use Rattle.page_model.specs.declared.rule.Decl.{Decl}
use Rattle.style_tokens.specs.declared.token.CssToken.{CssToken}
use Rattle.style_tokens.specs.CssTokens.{AreTokens, IsBadAt}
use Rattle.css_declarations.specs.declared.context.Context.TheVariants.{Inline}
use Rattle.css_declarations.specs.declared.fault.SheetFault.{SheetFault}
use Rattle.css_declarations.specs.declared.fault.SheetFault.TheVariants.{BadSheet}
use Rattle.css_declarations.specs.DeclarationGrammar.{AreDeclarations}
use Rattle.css_declarations.specs.DeclarationFaults.{DeclarationsFault, IsTold}

-- the bytes of a part of a file
abbrev pub part_of : List ℕ → Place → List ℕ
part_of text part = slice_range text part.from part.to

-- the part of the file spells these declarations
pub record SpellsInline (text : List ℕ) (part : Place) (decls : List Decl) : Type 0 where
  pub tokens : List CssToken
  pub are_tokens : AreTokens part.to (part_of text part) tokens
  pub are_declarations : AreDeclarations Inline text tokens decls []

-- this is its first fault: of the tokens, or of what they spell
pub record IsTokenFault (text : List ℕ) (part : Place) (fault : SheetFault) : Type 0 where
  pub place : ℕ
  pub bad : IsBadAt part.to (part_of text part) place
  pub fault_is : fault ≡ BadSheet place

pub record IsDeclarationsFault (text : List ℕ) (part : Place) (fault : SheetFault) : Type 0 where
  pub tokens : List CssToken
  pub are_tokens : AreTokens part.to (part_of text part) tokens
  pub first : DeclarationsFault Inline text part.to tokens fault

abbrev pub IsInlineFault : List ℕ → Place → SheetFault → Type 0
IsInlineFault text part fault = IsTokenFault text part fault ⊎ IsDeclarationsFault text part fault

-- what there is to be read: the declarations, or the first fault
abbrev pub IsInline : List ℕ → Place → Result (List Decl) SheetFault → Type 0
IsInline text part (Ok decls) = SpellsInline text part decls
IsInline text part (Err fault) = IsInlineFault text part fault

-- what a reader may answer
abbrev pub IsInlineRead : List ℕ → Place → Result (List Decl) SheetFault → Type 0
IsInlineRead text part (Ok decls) = SpellsInline text part decls
IsInlineRead text part (Err fault) = IsTold (IsInlineFault text part) fault
