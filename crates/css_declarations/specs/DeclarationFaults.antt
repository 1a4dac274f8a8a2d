-- The first fault of declarations: good ones stand before it, and it is at the front of what is left. A name is judged before
-- its colon, and a value before what follows it.
use Rattle.std.specs.Prelude.{ℕ, Bool, true, false, ◌≡◌, List, [], ◌∷◌, ◌++◌, codes, Some, None, Result, Ok, Err}
use Rattle.page_model.specs.declared.rule.Decl.{Decl}
use Rattle.page_model.specs.declared.rule.Longhand.{Longhand}
use Rattle.style_tokens.specs.declared.token.CssToken.{CssToken}
use Rattle.css_words.specs.declared.fault.ValueFault.TheVariants as value_faults
use Rattle.css_values.specs.declared.types.Property.{Property}
use Rattle.css_declarations.specs.declared.context.Context.{Context}
use Rattle.css_declarations.specs.declared.fault.SheetFault.{SheetFault}
use Rattle.css_declarations.specs.declared.fault.SheetFault.TheVariants.{BadSheet, UnknownProperty, BadValue, BadKeyframes, OverLimit, NoMemory}
use Rattle.css_declarations.specs.DeclarationGrammar.{AreDeclarations, AreUnits, IsMark, IsName, IsValued, is_allowed, is_block, is_closed, is_ended, property_of}
use Rattle.css_declarations.specs.TokenKinds.{begins, is_ident, is_colon, is_semicolon, is_bang, is_word, place_of}

-- an `important` is at the front
abbrev pub begins_important : List ℕ → List CssToken → Bool
begins_important text [] = false
begins_important text (token ∷ rest) = is_word (codes "important") text token

-- a declaration breaks off with this fault, in a text that ends at this byte of the file
pub data DeclarationFault (context : Context) (text : List ℕ) (end : ℕ) : List CssToken → SheetFault → Type 0 where
  no_name : (tokens : List CssToken) → begins is_ident tokens ≡ false → begins is_semicolon tokens ≡ false → is_closed context tokens ≡ false
      → DeclarationFault context text end tokens (BadSheet (place_of end tokens))
  unknown : (name : CssToken) (rest : List CssToken) → is_ident name.kind ≡ true → property_of text name ≡ None
      → DeclarationFault context text end (name ∷ rest) (UnknownProperty name.place.from)
  not_animatable : (name : CssToken) (rest : List CssToken) (property : Property) → is_ident name.kind ≡ true → property_of text name ≡ Some property
      → is_allowed context property ≡ false → DeclarationFault context text end (name ∷ rest) (BadKeyframes name.place.from)
  no_colon : (name : CssToken) (rest : List CssToken) (property : Property) → IsName context text name property → begins is_colon rest ≡ false
      → DeclarationFault context text end (name ∷ rest) (BadSheet (place_of end rest))
  bad_value : (name colon : CssToken) (behind rest : List CssToken) → IsValued context text (name ∷ (colon ∷ behind)) (Err value_faults.BadValue) rest
      → DeclarationFault context text end (name ∷ (colon ∷ behind)) (BadValue (place_of end behind))
  over_limit : (name colon : CssToken) (behind rest : List CssToken) → IsValued context text (name ∷ (colon ∷ behind)) (Err value_faults.OverLimit) rest
      → DeclarationFault context text end (name ∷ (colon ∷ behind)) (OverLimit (place_of end behind))
  bang_in_block : (tokens : List CssToken) (longhands : List Longhand) (bang : CssToken) (rest : List CssToken)
      → IsValued context text tokens (Ok longhands) (bang ∷ rest) → is_bang bang.kind ≡ true → is_block context ≡ true
      → DeclarationFault context text end tokens (BadKeyframes bang.place.from)
  not_important : (tokens : List CssToken) (longhands : List Longhand) (bang : CssToken) (rest : List CssToken)
      → IsValued context text tokens (Ok longhands) (bang ∷ rest) → is_bang bang.kind ≡ true → is_block context ≡ false
      → begins_important text rest ≡ false → DeclarationFault context text end tokens (BadSheet (place_of end rest))
  not_ended : (tokens behind : List CssToken) (longhands : List Longhand) (important : Bool) (rest : List CssToken)
      → IsValued context text tokens (Ok longhands) behind → IsMark context text behind important rest → is_ended context rest ≡ false
      → DeclarationFault context text end tokens (BadSheet (place_of end rest))

-- good units, and then a fault
pub record DeclarationsFault (context : Context) (text : List ℕ) (end : ℕ) (tokens : List CssToken) (fault : SheetFault) : Type 0 where
  pub units : List (List Decl)
  pub rest : List CssToken
  pub before : AreUnits context text tokens units rest
  pub here : DeclarationFault context text end rest fault

-- a fault that is told is this; nothing is said of want of memory
abbrev pub IsTold : (SheetFault → Type 0) → SheetFault → Type 0
IsTold Is NoMemory = Unit {0}
IsTold Is (BadSheet place) = Is (BadSheet place)
IsTold Is (UnknownProperty place) = Is (UnknownProperty place)
IsTold Is (BadValue place) = Is (BadValue place)
IsTold Is (BadKeyframes place) = Is (BadKeyframes place)
IsTold Is (OverLimit place) = Is (OverLimit place)

-- declarations were added to others and these tokens are left, or this is the first fault
pub record AreAdded (context : Context) (text : List ℕ) (tokens : List CssToken) (old new : List Decl) (rest : List CssToken) : Type 0 where
  pub decls : List Decl
  pub are : AreDeclarations context text tokens decls rest
  pub new_is : new ≡ old ++ decls

abbrev pub AddsDeclarations : Context → List ℕ → ℕ → List CssToken → List Decl → List Decl → Result (List CssToken) SheetFault → Type 0
AddsDeclarations context text end tokens old new (Ok rest) = AreAdded context text tokens old new rest
AddsDeclarations context text end tokens old new (Err fault) = IsTold (DeclarationsFault context text end tokens) fault
