-- What is read is spelled, and each fault that is told is there.
use Rattle.std.proofs.Common.{◌≡◌, ℕ, Bool, true, false, cond, List, [], ◌∷◌, map, Option, Some, None, Result, Ok, Err, refl, sym, ap, ◌∙◌, subst}
use Rattle.page_model.specs.declared.rule.Decl.{Decl}
use Rattle.page_model.specs.declared.rule.Longhand.{Longhand}
use Rattle.style_tokens.specs.declared.token.CssToken.{CssToken}
use Rattle.css_words.specs.declared.fault.ValueFault.{ValueFault}
use Rattle.css_words.specs.declared.fault.ValueFault.TheVariants as value_faults
use Rattle.css_values.specs.declared.types.Property.{Property}
use Rattle.css_words.specs.Words.{words}
use Rattle.std.specs.Prelude.{codes}
use Rattle.css_declarations.specs.declared.context.Context.{Context}
use Rattle.css_declarations.specs.declared.fault.SheetFault.{SheetFault}
use Rattle.css_declarations.specs.declared.fault.SheetFault.TheVariants.{BadSheet, UnknownProperty, BadValue, BadKeyframes, OverLimit, NoMemory}
use Rattle.css_declarations.specs.DeclarationGrammar.{IsDeclaration, IsMark, IsName, IsUnit, IsValued, decl_of, is_allowed, is_block, is_closed, is_ended, property_of, value_in}
use Rattle.css_declarations.specs.DeclarationGrammar.IsMark.{unmarked, marked}
use Rattle.css_declarations.specs.DeclarationGrammar.IsUnit.{semicolon, declaration}
use Rattle.css_declarations.specs.DeclarationFaults.{DeclarationFault, IsTold}
use Rattle.css_declarations.specs.DeclarationFaults.DeclarationFault.{no_name, unknown, not_animatable, no_colon, bad_value, over_limit, bang_in_block, not_important, not_ended}
use Rattle.css_declarations.specs.DeclarationReading.{after, placed, name_at, judged_name, colon_at, named_at, value_at, value_front, value_rest, mark_at, important_at, ended_at, marked_at, declaration_at, unit_at}
use Rattle.css_declarations.specs.TokenKinds.{begins, is_ident, is_colon, is_semicolon, is_bang, is_word, place_of}
use Rattle.css_declarations.proofs.ValueLemmas.{value_split, value_in_front, value_stops}

-- a name and its colon
pub record IsNamed (context : Context) (text : List ℕ) (tokens : List CssToken) (named : Property × List CssToken) : Type 0 where
  pub name : CssToken
  pub colon : CssToken
  pub split : tokens ≡ name ∷ (colon ∷ named.1)
  pub is_name : IsName context text name named.0
  pub colon_is : is_colon colon.kind ≡ true

abbrev Named : Context → List ℕ → ℕ → List CssToken → Result (Property × List CssToken) SheetFault → Type 0
Named context text end tokens (Ok named) = IsNamed context text tokens named
Named context text end tokens (Err fault) = DeclarationFault context text end tokens fault

colon_taken : (context : Context) (text : List ℕ) (end : ℕ) (name : CssToken) (property : Property) (rest : List CssToken) → IsName context text name property
    → Named context text end (name ∷ rest) (after (colon_at end rest) (λ left. Ok (property, left)))
unfolding colon_at
colon_taken context text end name property [] is = no_colon name [] property is refl
colon_taken context text end name property (colon ∷ rest) is = test (is_colon colon.kind) refl where
  test : (b : Bool) → is_colon colon.kind ≡ b
      → Named context text end (name ∷ (colon ∷ rest)) (after (cond b (Ok rest) (Err (BadSheet colon.place.from))) (λ left. Ok (property, left)))
  test true e = record { name = name; colon = colon; split = refl; is_name = is; colon_is = e }
  test false e = no_colon name (colon ∷ rest) property is e

named_taken : (context : Context) (text : List ℕ) (end : ℕ) (tokens : List CssToken) → begins is_semicolon tokens ≡ false → is_closed context tokens ≡ false
    → Named context text end tokens (named_at context text end tokens)
unfolding named_at name_at
named_taken context text end [] semi unclosed = no_name [] refl semi unclosed
named_taken context text end (name ∷ rest) semi unclosed = test (is_ident name.kind) refl where
  allowed : (property : Property) → is_ident name.kind ≡ true → property_of text name ≡ Some property → (b : Bool) → is_allowed context property ≡ b
      → Named context text end (name ∷ rest) (after {A = Property × List CssToken} (cond b (Ok (property, rest)) (Err (BadKeyframes name.place.from))) (λ named. after (colon_at end named.1) (λ left. Ok (named.0, left))))
  allowed property identifier names true e = colon_taken context text end name property rest (record { identifier = identifier; names = names; allowed = e })
  allowed property identifier names false e = not_animatable name rest property identifier names e

  judged : is_ident name.kind ≡ true → (found : Option Property) → property_of text name ≡ found
      → Named context text end (name ∷ rest) (after {A = Property × List CssToken} (judged_name context name.place.from rest found) (λ named. after (colon_at end named.1) (λ left. Ok (named.0, left))))
  judged identifier None e = unknown name rest identifier e
  judged identifier (Some property) e = allowed property identifier e (is_allowed context property) refl

  test : (b : Bool) → is_ident name.kind ≡ b
      → Named context text end (name ∷ rest) (after {A = Property × List CssToken} (cond b (judged_name context name.place.from rest (property_of text name)) (Err (BadSheet name.place.from))) (λ named. after (colon_at end named.1) (λ left. Ok (named.0, left))))
  test true e = judged e (property_of text name) refl
  test false e = no_name (name ∷ rest) e semi unclosed

-- behind a value
pub record IsEnd (context : Context) (text : List ℕ) (tokens : List CssToken) (mark : Bool × List CssToken) : Type 0 where
  pub is_mark : IsMark context text tokens mark.0 mark.1
  pub ended : is_ended context mark.1 ≡ true

abbrev Marked : Context → List ℕ → ℕ → List CssToken → List CssToken → Result (Bool × List CssToken) SheetFault → Type 0
Marked context text end tokens behind (Ok mark) = IsEnd context text behind mark
Marked context text end tokens behind (Err fault) = DeclarationFault context text end tokens fault

ended_taken : (context : Context) (text : List ℕ) (end : ℕ) (tokens behind rest : List CssToken) (longhands : List Longhand) (important : Bool)
    → IsValued context text tokens (Ok longhands) behind → IsMark context text behind important rest
    → Marked context text end tokens behind (after (ended_at context end rest) (λ left. Ok (important, left)))
unfolding ended_at
ended_taken context text end tokens behind rest longhands important valued mark = test (is_ended context rest) refl where
  test : (b : Bool) → is_ended context rest ≡ b
      → Marked context text end tokens behind (after (cond b (Ok rest) (Err (BadSheet (place_of end rest)))) (λ left. Ok (important, left)))
  test true e = record { is_mark = mark; ended = e }
  test false e = not_ended tokens behind longhands important rest valued mark e

important_taken : (context : Context) (text : List ℕ) (end : ℕ) (tokens : List CssToken) (bang : CssToken) (rest : List CssToken) (longhands : List Longhand)
    → IsValued context text tokens (Ok longhands) (bang ∷ rest) → is_bang bang.kind ≡ true → is_block context ≡ false
    → Marked context text end tokens (bang ∷ rest) (after {A = Bool × List CssToken} (important_at text end rest) (λ mark. after (ended_at context end mark.1) (λ left. Ok (mark.0, left))))
unfolding important_at
important_taken context text end tokens bang [] longhands valued is unclosed = not_important tokens longhands bang [] valued is unclosed refl
important_taken context text end tokens bang (word ∷ rest) longhands valued is unclosed = test (is_word (codes "important") text word) refl where
  test : (b : Bool) → is_word (codes "important") text word ≡ b
      → Marked context text end tokens (bang ∷ (word ∷ rest)) (after {A = Bool × List CssToken} (cond b (Ok (true, rest)) (Err (BadSheet word.place.from))) (λ mark. after (ended_at context end mark.1) (λ left. Ok (mark.0, left))))
  test true e = ended_taken context text end tokens (bang ∷ (word ∷ rest)) rest longhands true valued (marked bang word rest unclosed is e)
  test false e = not_important tokens longhands bang (word ∷ rest) valued is unclosed e

marked_taken : (context : Context) (text : List ℕ) (end : ℕ) (tokens behind : List CssToken) (longhands : List Longhand)
    → IsValued context text tokens (Ok longhands) behind → Marked context text end tokens behind (marked_at context text end behind)
unfolding marked_at mark_at
marked_taken context text end tokens [] longhands valued = ended_taken context text end tokens [] [] longhands false valued (unmarked [] refl)
marked_taken context text end tokens (bang ∷ rest) longhands valued = test (is_bang bang.kind) refl where
  block : is_bang bang.kind ≡ true → (b : Bool) → is_block context ≡ b
      → Marked context text end tokens (bang ∷ rest) (after {A = Bool × List CssToken} (cond b (Err (BadKeyframes bang.place.from)) (important_at text end rest)) (λ mark. after (ended_at context end mark.1) (λ left. Ok (mark.0, left))))
  block is true e = bang_in_block tokens longhands bang rest valued is e
  block is false e = important_taken context text end tokens bang rest longhands valued is e

  test : (b : Bool) → is_bang bang.kind ≡ b
      → Marked context text end tokens (bang ∷ rest) (after {A = Bool × List CssToken} (cond b (cond (is_block context) (Err (BadKeyframes bang.place.from)) (important_at text end rest)) (Ok (false, bang ∷ rest))) (λ mark. after (ended_at context end mark.1) (λ left. Ok (mark.0, left))))
  test true e = block e (is_block context) refl
  test false e = ended_taken context text end tokens (bang ∷ rest) (bang ∷ rest) longhands false valued (unmarked (bang ∷ rest) e)

-- a declaration
abbrev pub Declared : Context → List ℕ → ℕ → List CssToken → Result (List Decl × List CssToken) SheetFault → Type 0
Declared context text end tokens (Ok read) = IsDeclaration context text tokens read.0 read.1
Declared context text end tokens (Err fault) = IsTold (DeclarationFault context text end tokens) fault

told : (Is : SheetFault → Type 0) (fault : SheetFault) → Is fault → IsTold Is fault
told Is NoMemory is = tt
told Is (BadSheet place) is = is
told Is (UnknownProperty place) is = is
told Is (BadValue place) is = is
told Is (BadKeyframes place) is = is
told Is (OverLimit place) is = is

abbrev decls_at : ℕ → List CssToken → List Longhand → Bool × List CssToken → Result (List Decl × List CssToken) SheetFault
decls_at end tokens longhands mark = Ok (map (decl_of mark.0 (place_of end tokens)) longhands, mark.1)

finished : (context : Context) (text : List ℕ) (end : ℕ) (tokens behind : List CssToken) (longhands : List Longhand) (valued : IsValued context text tokens (Ok longhands) behind)
    (mark : Result (Bool × List CssToken) SheetFault) → Marked context text end tokens behind mark → Declared context text end tokens (after mark (decls_at end tokens longhands))
finished context text end tokens behind longhands valued (Err fault) is = told (DeclarationFault context text end tokens) fault is
finished context text end tokens behind longhands valued (Ok mark) is = record {
  longhands = longhands;
  behind = behind;
  important = mark.0;
  valued = valued;
  mark = is.is_mark;
  ended = is.ended;
  decls_are = ap (λ t. map (decl_of mark.0 (place_of end t)) longhands) valued.split;
}

value_taken : (context : Context) (text : List ℕ) (end : ℕ) (tokens : List CssToken) (named : Property × List CssToken) → IsNamed context text tokens named
    → Declared context text end tokens (after (value_at context text end named.0 named.1) (λ longhands. after (marked_at context text end (value_rest named.1)) (decls_at end tokens longhands)))
unfolding value_at
value_taken context text end tokens named is = test (value_in context named.0 (words text (value_front named.1))) refl where
  valued : (spelled : Result (List Longhand) ValueFault) → value_in context named.0 (words text (value_front named.1)) ≡ spelled → (whole : List CssToken) → whole ≡ is.name ∷ (is.colon ∷ named.1)
      → IsValued context text whole spelled (value_rest named.1)
  valued spelled e whole split = record {
    name = is.name;
    colon = is.colon;
    value = value_front named.1;
    property = named.0;
    split = split ∙ ap (λ r. is.name ∷ (is.colon ∷ r)) (value_split named.1);
    named = is.is_name;
    colon_is = is.colon_is;
    in_value = value_in_front named.1;
    stops = value_stops named.1;
    spells = e;
  }

  test : (spelled : Result (List Longhand) ValueFault) → value_in context named.0 (words text (value_front named.1)) ≡ spelled
      → Declared context text end tokens (after (placed (place_of end named.1) spelled) (λ longhands. after (marked_at context text end (value_rest named.1)) (decls_at end tokens longhands)))
  test (Ok longhands) e =
      let good = valued (Ok longhands) e tokens is.split in
      finished context text end tokens (value_rest named.1) longhands good (marked_at context text end (value_rest named.1)) (marked_taken context text end tokens (value_rest named.1) longhands good)
  test (Err value_faults.BadValue) e =
      subst (λ t. DeclarationFault context text end t (BadValue (place_of end named.1))) (sym is.split)
      (bad_value is.name is.colon named.1 (value_rest named.1) (valued (Err value_faults.BadValue) e (is.name ∷ (is.colon ∷ named.1)) refl))
  test (Err value_faults.OverLimit) e =
      subst (λ t. DeclarationFault context text end t (OverLimit (place_of end named.1))) (sym is.split)
      (over_limit is.name is.colon named.1 (value_rest named.1) (valued (Err value_faults.OverLimit) e (is.name ∷ (is.colon ∷ named.1)) refl))
  test (Err value_faults.NoMemory) e = tt

declaration_taken : (context : Context) (text : List ℕ) (end : ℕ) (tokens : List CssToken) → begins is_semicolon tokens ≡ false → is_closed context tokens ≡ false
    → Declared context text end tokens (declaration_at context text end tokens)
unfolding declaration_at
declaration_taken context text end tokens semi unclosed = test (named_at context text end tokens) (named_taken context text end tokens semi unclosed) where
  test : (named : Result (Property × List CssToken) SheetFault) → Named context text end tokens named
      → Declared context text end tokens (after named (λ read. after (value_at context text end read.0 read.1) (λ longhands. after (marked_at context text end (value_rest read.1)) (decls_at end tokens longhands))))
  test (Ok named) is = value_taken context text end tokens named is
  test (Err fault) is = told (DeclarationFault context text end tokens) fault is

-- a unit
abbrev pub UnitRead : Context → List ℕ → ℕ → List CssToken → Result (List Decl × List CssToken) SheetFault → Type 0
UnitRead context text end tokens (Ok read) = IsUnit context text tokens read.0 read.1
UnitRead context text end tokens (Err fault) = IsTold (DeclarationFault context text end tokens) fault

unit_of : (context : Context) (text : List ℕ) (end : ℕ) (tokens : List CssToken) (read : Result (List Decl × List CssToken) SheetFault) → Declared context text end tokens read
    → UnitRead context text end tokens read
unit_of context text end tokens (Ok read) is = declaration tokens read.0 read.1 is
unit_of context text end tokens (Err fault) is = is

pub unit_takes : (context : Context) (text : List ℕ) (end : ℕ) (tokens : List CssToken) → is_closed context tokens ≡ false
    → UnitRead context text end tokens (unit_at context text end tokens)
unfolding unit_at
unit_takes context text end [] unclosed = unit_of context text end [] (declaration_at context text end []) (declaration_taken context text end [] refl unclosed)
unit_takes context text end (token ∷ rest) unclosed = test (is_semicolon token.kind) refl where
  test : (b : Bool) → is_semicolon token.kind ≡ b → UnitRead context text end (token ∷ rest) (cond b (Ok ([], rest)) (declaration_at context text end (token ∷ rest)))
  test true e = semicolon token rest e
  test false e = unit_of context text end (token ∷ rest) (declaration_at context text end (token ∷ rest)) (declaration_taken context text end (token ∷ rest) e unclosed)
