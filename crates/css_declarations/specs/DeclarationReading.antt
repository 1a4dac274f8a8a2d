-- Declarations read from the left, with one look ahead.
use Rattle.std.specs.Prelude.{ℕ, Bool, true, false, ◌≡◌, List, [], ◌∷◌, ◌++◌, map, codes, Option, Some, None, Result, Ok, Err, suc, if◌then◌else◌}
use Rattle.page_model.specs.declared.rule.Decl.{Decl}
use Rattle.page_model.specs.declared.rule.Longhand.{Longhand}
use Rattle.style_tokens.specs.declared.token.CssToken.{CssToken}
use Rattle.css_words.specs.declared.fault.ValueFault.{ValueFault}
use Rattle.css_words.specs.declared.fault.ValueFault.TheVariants as value_faults
use Rattle.css_values.specs.declared.types.Property.{Property}
use Rattle.css_words.specs.Words.{words}
use Rattle.css_declarations.specs.declared.context.Context.{Context}
use Rattle.css_declarations.specs.declared.fault.SheetFault.{SheetFault}
use Rattle.css_declarations.specs.declared.fault.SheetFault.TheVariants.{BadSheet, UnknownProperty, BadValue, BadKeyframes, OverLimit, NoMemory}
use Rattle.css_declarations.specs.DeclarationGrammar.{decl_of, ends_value, is_allowed, is_block, is_ended, property_of, value_in}
use Rattle.css_declarations.specs.TokenKinds.{is_ident, is_colon, is_semicolon, is_bang, is_word, place_of}

-- what comes after a good step
abbrev pub after : {A B : Type 0} → Result A SheetFault → (A → Result B SheetFault) → Result B SheetFault
after (Ok x) step = step x
after (Err fault) step = Err fault

-- a good step seen otherwise
abbrev pub shown : {A B : Type 0} → (A → B) → Result A SheetFault → Result B SheetFault
shown f (Ok x) = Ok (f x)
shown f (Err fault) = Err fault

-- the answer is this value or fault, unless memory was refused
abbrev pub Tells : {A : Type 0} → Result A SheetFault → Result A SheetFault → Type 0
Tells (Ok value) read = read ≡ Ok value
Tells (Err NoMemory) read = Unit {0}
Tells (Err (BadSheet place)) read = read ≡ Err (BadSheet place)
Tells (Err (UnknownProperty place)) read = read ≡ Err (UnknownProperty place)
Tells (Err (BadValue place)) read = read ≡ Err (BadValue place)
Tells (Err (BadKeyframes place)) read = read ≡ Err (BadKeyframes place)
Tells (Err (OverLimit place)) read = read ≡ Err (OverLimit place)

-- a property that was found, or none
abbrev pub judged_name : Context → ℕ → List CssToken → Option Property → Result (Property × List CssToken) SheetFault
judged_name context place rest None = Err (UnknownProperty place)
judged_name context place rest (Some property) = if is_allowed context property then Ok (property, rest) else Err (BadKeyframes place)

unfoldable pub name_at : Context → List ℕ → ℕ → List CssToken → Result (Property × List CssToken) SheetFault
name_at context text end [] = Err (BadSheet end)
name_at context text end (token ∷ rest) =
    if is_ident token.kind then judged_name context token.place.from rest (property_of text token) else Err (BadSheet token.place.from)

unfoldable pub colon_at : ℕ → List CssToken → Result (List CssToken) SheetFault
colon_at end [] = Err (BadSheet end)
colon_at end (token ∷ rest) = if is_colon token.kind then Ok rest else Err (BadSheet token.place.from)

-- the tokens of a value, how many they are, and what is left behind them
abbrev pub value_length : List CssToken → ℕ
value_length [] = 0
value_length (token ∷ rest) = if ends_value token.kind then 0 else suc (value_length rest)

abbrev pub value_front : List CssToken → List CssToken
value_front [] = []
value_front (token ∷ rest) = if ends_value token.kind then [] else token ∷ value_front rest

abbrev pub value_rest : List CssToken → List CssToken
value_rest [] = []
value_rest (token ∷ rest) = if ends_value token.kind then token ∷ rest else value_rest rest

-- a fault of a value at a place
abbrev pub fault_at : ℕ → ValueFault → SheetFault
fault_at place value_faults.BadValue = BadValue place
fault_at place value_faults.OverLimit = OverLimit place
fault_at place value_faults.NoMemory = NoMemory

abbrev pub placed : {A : Type 0} → ℕ → Result A ValueFault → Result A SheetFault
placed place (Ok value) = Ok value
placed place (Err fault) = Err (fault_at place fault)

unfoldable pub value_at : Context → List ℕ → ℕ → Property → List CssToken → Result (List Longhand) SheetFault
value_at context text end property tokens = placed (place_of end tokens) (value_in context property (words text (value_front tokens)))

unfoldable pub important_at : List ℕ → ℕ → List CssToken → Result (Bool × List CssToken) SheetFault
important_at text end [] = Err (BadSheet end)
important_at text end (token ∷ rest) = if is_word (codes "important") text token then Ok (true, rest) else Err (BadSheet token.place.from)

unfoldable pub mark_at : Context → List ℕ → ℕ → List CssToken → Result (Bool × List CssToken) SheetFault
mark_at context text end [] = Ok (false, [])
mark_at context text end (token ∷ rest) =
    if is_bang token.kind then (if is_block context then Err (BadKeyframes token.place.from) else important_at text end rest)
    else Ok (false, token ∷ rest)

unfoldable pub ended_at : Context → ℕ → List CssToken → Result (List CssToken) SheetFault
ended_at context end tokens = if is_ended context tokens then Ok tokens else Err (BadSheet (place_of end tokens))

-- behind the value of a declaration
unfoldable pub marked_at : Context → List ℕ → ℕ → List CssToken → Result (Bool × List CssToken) SheetFault
marked_at context text end tokens =
    after (mark_at context text end tokens) (λ mark. after (ended_at context end mark.1) (λ rest. Ok (mark.0, rest)))

-- the property of a declaration, behind its colon
unfoldable pub named_at : Context → List ℕ → ℕ → List CssToken → Result (Property × List CssToken) SheetFault
named_at context text end tokens =
    after (name_at context text end tokens) (λ named. after (colon_at end named.1) (λ rest. Ok (named.0, rest)))

unfoldable pub declaration_at : Context → List ℕ → ℕ → List CssToken → Result (List Decl × List CssToken) SheetFault
declaration_at context text end tokens =
    after (named_at context text end tokens) (λ named. after (value_at context text end named.0 named.1)
    (λ longhands. after (marked_at context text end (value_rest named.1))
    (λ mark. Ok (map (decl_of mark.0 (place_of end tokens)) longhands, mark.1))))

-- a `;` or a declaration
unfoldable pub unit_at : Context → List ℕ → ℕ → List CssToken → Result (List Decl × List CssToken) SheetFault
unit_at context text end [] = declaration_at context text end []
unit_at context text end (token ∷ rest) = if is_semicolon token.kind then Ok ([], rest) else declaration_at context text end (token ∷ rest)

-- declarations were added to others, and this is left
abbrev pub Adds : List Decl → List Decl → Result (List CssToken) SheetFault → Result (List Decl × List CssToken) SheetFault → Type 0
Adds old new (Ok rest) read = (decls : List Decl) × ((read ≡ Ok (decls, rest)) × (new ≡ old ++ decls))
Adds old new (Err NoMemory) read = Unit {0}
Adds old new (Err (BadSheet place)) read = read ≡ Err (BadSheet place)
Adds old new (Err (UnknownProperty place)) read = read ≡ Err (UnknownProperty place)
Adds old new (Err (BadValue place)) read = read ≡ Err (BadValue place)
Adds old new (Err (BadKeyframes place)) read = read ≡ Err (BadKeyframes place)
Adds old new (Err (OverLimit place)) read = read ≡ Err (OverLimit place)
