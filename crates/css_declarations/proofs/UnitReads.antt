-- What is spelled is read, and so is each fault: so there is one reading at most.
use Rattle.std.proofs.Common.{◌≡◌, ℕ, Bool, true, false, List, [], ◌∷◌, ◌++◌, map, Result, Ok, Err, refl, sym, ap, ◌∙◌, subst}
use Rattle.page_model.specs.declared.rule.Decl.{Decl}
use Rattle.page_model.specs.declared.rule.Longhand.{Longhand}
use Rattle.style_tokens.specs.declared.token.CssKind.{CssKind}
use Rattle.style_tokens.specs.declared.token.CssKind.TheVariants.{Ident, Semicolon}
use Rattle.style_tokens.specs.declared.token.CssToken.{CssToken}
use Rattle.css_words.specs.declared.fault.ValueFault.{ValueFault}
use Rattle.css_words.specs.declared.fault.ValueFault.TheVariants as value_faults
use Rattle.css_values.specs.declared.types.Property.{Property}
use Rattle.css_words.specs.Words.{words}
use Rattle.css_declarations.specs.declared.context.Context.{Context}
use Rattle.css_declarations.specs.declared.context.Context.TheVariants.{Inline, Rule, Block}
use Rattle.css_declarations.specs.declared.fault.SheetFault.{SheetFault}
use Rattle.css_declarations.specs.declared.fault.SheetFault.TheVariants.{BadSheet, BadKeyframes}
use Rattle.css_declarations.specs.DeclarationGrammar.{AreDeclarations, IsMark, IsName, IsUnit, IsValued, decl_of, is_block, is_closed, is_ended, joined, value_in}
use Rattle.css_declarations.specs.DeclarationGrammar.IsMark.{unmarked, marked}
use Rattle.css_declarations.specs.DeclarationGrammar.IsUnit.{semicolon, declaration}
use Rattle.css_declarations.specs.DeclarationFaults.{DeclarationFault, DeclarationsFault, begins_important}
use Rattle.css_declarations.specs.DeclarationFaults.DeclarationFault.{no_name, unknown, not_animatable, no_colon, bad_value, over_limit, bang_in_block, not_important, not_ended}
use Rattle.css_declarations.specs.DeclarationReading.{after, placed, name_at, colon_at, named_at, value_at, value_front, value_rest, mark_at, important_at, ended_at, marked_at, declaration_at, unit_at}
use Rattle.css_declarations.specs.TokenKinds.{is_ident, is_colon, is_semicolon, is_right_brace, is_bang, place_of}
use Rattle.css_declarations.proofs.RunLemmas.{AreTold, Ended, UpTo, one_run}
use Rattle.css_declarations.proofs.ValueLemmas.{front_again, rest_again}

-- kinds that aren't another
ident_is_no_semicolon : (kind : CssKind) → is_ident kind ≡ true → is_semicolon kind ≡ false
ident_is_no_semicolon Ident is = refl
ident_is_no_semicolon other is = absurd (cc)

ident_is_no_brace : (kind : CssKind) → is_ident kind ≡ true → is_right_brace kind ≡ false
ident_is_no_brace Ident is = refl
ident_is_no_brace other is = absurd (cc)

semicolon_is_no_brace : (kind : CssKind) → is_semicolon kind ≡ true → is_right_brace kind ≡ false
semicolon_is_no_brace Semicolon is = refl
semicolon_is_no_brace other is = absurd (cc)

not_closed : (context : Context) (token : CssToken) (rest : List CssToken) → is_right_brace token.kind ≡ false → is_closed context (token ∷ rest) ≡ false
not_closed Inline token rest is = refl
not_closed Rule token rest is = is
not_closed Block token rest is = is

abbrev decls_at : ℕ → List CssToken → List Longhand → Bool × List CssToken → Result (List Decl × List CssToken) SheetFault
decls_at end tokens longhands mark = Ok (map (decl_of mark.0 (place_of end tokens)) longhands, mark.1)

-- a declaration up to its value
value_read : (context : Context) (text : List ℕ) (end : ℕ) (name colon : CssToken) (value rest : List CssToken) (property : Property) (spelled : Result (List Longhand) ValueFault)
    → IsName context text name property → is_colon colon.kind ≡ true → value_front (value ++ rest) ≡ value → value_rest (value ++ rest) ≡ rest → value_in context property (words text value) ≡ spelled
    → declaration_at context text end (name ∷ (colon ∷ (value ++ rest)))
    ≡ after (placed (place_of end (value ++ rest)) spelled) (λ longhands. after (marked_at context text end rest) (decls_at end (name ∷ (colon ∷ (value ++ rest))) longhands))
unfolding declaration_at named_at name_at colon_at value_at
value_read context text end name colon value rest property spelled is colon_is front behind spells =
    rw (is.identifier, is.names, is.allowed, colon_is, front, behind, spells) refl

valued_read : (context : Context) (text : List ℕ) (end : ℕ) (tokens : List CssToken) (spelled : Result (List Longhand) ValueFault) (rest : List CssToken) (v : IsValued context text tokens spelled rest)
    → declaration_at context text end tokens
    ≡ after (placed (place_of end (v.value ++ rest)) spelled) (λ longhands. after (marked_at context text end rest) (decls_at end tokens longhands))
valued_read context text end tokens spelled rest v =
    subst (λ t. declaration_at context text end t ≡ after (placed (place_of end (v.value ++ rest)) spelled) (λ longhands. after (marked_at context text end rest) (decls_at end t longhands))) (sym v.split)
    (value_read context text end v.name v.colon v.value rest v.property spelled v.named v.colon_is
    (front_again v.value rest v.in_value v.stops) (rest_again v.value rest v.in_value v.stops) v.spells)

-- what stands behind a value
mark_read : (context : Context) (text : List ℕ) (end : ℕ) (tokens : List CssToken) (important : Bool) (rest : List CssToken) → IsMark context text tokens important rest
    → mark_at context text end tokens ≡ Ok (important, rest)
unfolding mark_at important_at
mark_read context text end tokens important rest (unmarked [] is) = refl
mark_read context text end tokens important rest (unmarked (token ∷ more) is) = rw is refl
mark_read context text end tokens important rest (marked bang word _ unblocked is is_important) = rw (is, unblocked, is_important) refl

end_read : (context : Context) (text : List ℕ) (end : ℕ) (tokens : List CssToken) (important : Bool) (rest : List CssToken) → IsMark context text tokens important rest → is_ended context rest ≡ true
    → marked_at context text end tokens ≡ Ok (important, rest)
unfolding marked_at ended_at
end_read context text end tokens important rest mark ended = let e = mark_read context text end tokens important rest mark in rw (e, ended) refl

no_end_read : (context : Context) (text : List ℕ) (end : ℕ) (tokens : List CssToken) (important : Bool) (rest : List CssToken) → IsMark context text tokens important rest → is_ended context rest ≡ false
    → marked_at context text end tokens ≡ Err (BadSheet (place_of end rest))
unfolding marked_at ended_at
no_end_read context text end tokens important rest mark ended = let e = mark_read context text end tokens important rest mark in rw (e, ended) refl

no_bang_read : (context : Context) (text : List ℕ) (end : ℕ) (bang : CssToken) (rest : List CssToken) → is_bang bang.kind ≡ true → is_block context ≡ true
    → marked_at context text end (bang ∷ rest) ≡ Err (BadKeyframes bang.place.from)
unfolding marked_at mark_at
no_bang_read context text end bang rest is block = rw (is, block) refl

no_important_read : (context : Context) (text : List ℕ) (end : ℕ) (bang : CssToken) (rest : List CssToken) → is_bang bang.kind ≡ true → is_block context ≡ false → begins_important text rest ≡ false
    → marked_at context text end (bang ∷ rest) ≡ Err (BadSheet (place_of end rest))
unfolding marked_at mark_at important_at
no_important_read context text end bang [] is block not = rw (is, block) refl
no_important_read context text end bang (word ∷ rest) is block not = rw (is, block, not) refl

-- a declaration at the front is no `;`
by_declaration : (context : Context) (text : List ℕ) (end : ℕ) (name : CssToken) (rest : List CssToken) → is_ident name.kind ≡ true
    → unit_at context text end (name ∷ rest) ≡ declaration_at context text end (name ∷ rest)
unfolding unit_at
by_declaration context text end name rest is = let e = ident_is_no_semicolon name.kind is in rw e refl

by_valued : (context : Context) (text : List ℕ) (end : ℕ) (tokens : List CssToken) (spelled : Result (List Longhand) ValueFault) (rest : List CssToken) → IsValued context text tokens spelled rest
    → unit_at context text end tokens ≡ declaration_at context text end tokens
by_valued context text end tokens spelled rest v =
    subst (λ t. unit_at context text end t ≡ declaration_at context text end t) (sym v.split) (by_declaration context text end v.name (v.colon ∷ (v.value ++ rest)) v.named.identifier)

-- what is read, where a value is good
good_read : (context : Context) (text : List ℕ) (end : ℕ) (tokens : List CssToken) (longhands : List Longhand) (rest : List CssToken) (mark : Result (Bool × List CssToken) SheetFault)
    → IsValued context text tokens (Ok longhands) rest → marked_at context text end rest ≡ mark → unit_at context text end tokens ≡ after mark (decls_at end tokens longhands)
good_read context text end tokens longhands rest mark v is =
    by_valued context text end tokens (Ok longhands) rest v ∙ valued_read context text end tokens (Ok longhands) rest v ∙ ap (λ m. after m (decls_at end tokens longhands)) is

pub unit_reads : (context : Context) (text : List ℕ) (end : ℕ) (tokens : List CssToken) (decls : List Decl) (rest : List CssToken) → IsUnit context text tokens decls rest
    → unit_at context text end tokens ≡ Ok (decls, rest)
unfolding unit_at
unit_reads context text end tokens decls rest (semicolon token _ is) = rw is refl
unit_reads context text end tokens decls rest (declaration _ _ _ is) =
    good_read context text end tokens is.longhands is.behind (Ok (is.important, rest)) is.valued (end_read context text end is.behind is.important rest is.mark is.ended)
    ∙ ap (λ t. Ok (map (decl_of is.important (place_of end t)) is.longhands, rest)) is.valued.split
    ∙ ap (λ d. Ok (d, rest)) (sym is.decls_are)

-- a fault of a value
abbrev behind_two : List CssToken → List CssToken
behind_two [] = []
behind_two (a ∷ []) = []
behind_two (a ∷ (b ∷ rest)) = rest

value_fault_read : (context : Context) (text : List ℕ) (end : ℕ) (name colon : CssToken) (behind rest : List CssToken) (fault : ValueFault)
    → IsValued context text (name ∷ (colon ∷ behind)) (Err fault) rest → unit_at context text end (name ∷ (colon ∷ behind)) ≡ placed (place_of end behind) (Err fault)
value_fault_read context text end name colon behind rest fault v =
    by_valued context text end (name ∷ (colon ∷ behind)) (Err fault) rest v ∙ valued_read context text end (name ∷ (colon ∷ behind)) (Err fault) rest v
    ∙ ap (λ r. placed {A = List Decl × List CssToken} (place_of end r) (Err fault)) (sym (ap behind_two v.split))

pub fault_reads : (context : Context) (text : List ℕ) (end : ℕ) (tokens : List CssToken) (fault : SheetFault) → DeclarationFault context text end tokens fault
    → unit_at context text end tokens ≡ Err fault
unfolding unit_at declaration_at named_at name_at colon_at
fault_reads context text end tokens fault (no_name [] is semi unclosed) = refl
fault_reads context text end tokens fault (no_name (token ∷ rest) is semi unclosed) = rw (semi, is) refl
fault_reads context text end tokens fault (unknown name rest is none) = let e = ident_is_no_semicolon name.kind is in rw (e, is, none) refl
fault_reads context text end tokens fault (not_animatable name rest property is some not) = let e = ident_is_no_semicolon name.kind is in rw (e, is, some, not) refl
fault_reads context text end tokens fault (no_colon name [] property is colon) =
    let e = ident_is_no_semicolon name.kind is.identifier in rw (e, is.identifier, is.names, is.allowed) refl
fault_reads context text end tokens fault (no_colon name (other ∷ rest) property is colon) =
    let e = ident_is_no_semicolon name.kind is.identifier in rw (e, is.identifier, is.names, is.allowed, colon) refl
fault_reads context text end tokens fault (bad_value name colon behind rest v) = value_fault_read context text end name colon behind rest value_faults.BadValue v
fault_reads context text end tokens fault (over_limit name colon behind rest v) = value_fault_read context text end name colon behind rest value_faults.OverLimit v
fault_reads context text end tokens fault (bang_in_block _ longhands bang rest v is block) =
    good_read context text end tokens longhands (bang ∷ rest) (Err (BadKeyframes bang.place.from)) v (no_bang_read context text end bang rest is block)
fault_reads context text end tokens fault (not_important _ longhands bang rest v is block not) =
    good_read context text end tokens longhands (bang ∷ rest) (Err (BadSheet (place_of end rest))) v (no_important_read context text end bang rest is block not)
fault_reads context text end tokens fault (not_ended _ behind longhands important rest v mark not) =
    good_read context text end tokens longhands behind (Err (BadSheet (place_of end rest))) v (no_end_read context text end behind important rest mark not)

-- neither is where declarations are closed
ident_unclosed : (context : Context) (name : CssToken) (rest : List CssToken) → is_ident name.kind ≡ true → is_closed context (name ∷ rest) ≡ false
ident_unclosed context name rest is = not_closed context name rest (ident_is_no_brace name.kind is)

valued_unclosed : (context : Context) (text : List ℕ) (tokens : List CssToken) (spelled : Result (List Longhand) ValueFault) (rest : List CssToken) → IsValued context text tokens spelled rest
    → is_closed context tokens ≡ false
valued_unclosed context text tokens spelled rest v =
    subst (λ t. is_closed context t ≡ false) (sym v.split) (ident_unclosed context v.name (v.colon ∷ (v.value ++ rest)) v.named.identifier)

unit_unclosed : (context : Context) (text : List ℕ) (tokens : List CssToken) (decls : List Decl) (rest : List CssToken) → IsUnit context text tokens decls rest → is_closed context tokens ≡ false
unit_unclosed context text tokens decls rest (semicolon token _ is) = not_closed context token rest (semicolon_is_no_brace token.kind is)
unit_unclosed context text tokens decls rest (declaration _ _ _ is) = valued_unclosed context text tokens (Ok is.longhands) is.behind is.valued

fault_unclosed : (context : Context) (text : List ℕ) (end : ℕ) (tokens : List CssToken) (fault : SheetFault) → DeclarationFault context text end tokens fault → is_closed context tokens ≡ false
fault_unclosed context text end tokens fault (no_name _ is semi unclosed) = unclosed
fault_unclosed context text end tokens fault (unknown name rest is none) = ident_unclosed context name rest is
fault_unclosed context text end tokens fault (not_animatable name rest property is some not) = ident_unclosed context name rest is
fault_unclosed context text end tokens fault (no_colon name rest property is colon) = ident_unclosed context name rest is.identifier
fault_unclosed context text end tokens fault (bad_value name colon behind rest v) = valued_unclosed context text tokens (Err value_faults.BadValue) rest v
fault_unclosed context text end tokens fault (over_limit name colon behind rest v) = valued_unclosed context text tokens (Err value_faults.OverLimit) rest v
fault_unclosed context text end tokens fault (bang_in_block _ longhands bang rest v is block) = valued_unclosed context text tokens (Ok longhands) (bang ∷ rest) v
fault_unclosed context text end tokens fault (not_important _ longhands bang rest v is block not) = valued_unclosed context text tokens (Ok longhands) (bang ∷ rest) v
fault_unclosed context text end tokens fault (not_ended _ behind longhands important rest v mark not) = valued_unclosed context text tokens (Ok longhands) behind v

-- so one thing is there at most
abbrev DeclarationEnd : Context → List ℕ → ℕ → List (List Decl) → List CssToken → Result (Unit {0}) SheetFault → Type 0
DeclarationEnd context text end units rest (Ok done) = is_closed context rest ≡ true
DeclarationEnd context text end units rest (Err fault) = DeclarationFault context text end rest fault

first_of : List Decl → Result (List Decl × List CssToken) SheetFault → List Decl
first_of other (Ok read) = read.0
first_of other (Err fault) = other

rest_of : List CssToken → Result (List Decl × List CssToken) SheetFault → List CssToken
rest_of other (Ok read) = read.1
rest_of other (Err fault) = other

declarations_told : (context : Context) (text : List ℕ) (end : ℕ) → AreTold (λ before. IsUnit context text) (DeclarationEnd context text end)
unfolding first_of rest_of
declarations_told context text end = record {
  one_unit = λ units tokens a b rest more is also.
      let same = sym (unit_reads context text end tokens b more also) ∙ unit_reads context text end tokens a rest is in
      (ap (first_of a) same, ap (rest_of rest) same);
  one_end = one_end;
  apart = apart;
} where
  one_end : (units : List (List Decl)) (tokens : List CssToken) (says others : Result (Unit {0}) SheetFault) → DeclarationEnd context text end units tokens says
      → DeclarationEnd context text end units tokens others → others ≡ says
  one_end units tokens (Ok done) (Ok also) is other = refl
  one_end units tokens (Ok done) (Err fault) is other = let no = fault_unclosed context text end tokens fault other in absurd (cc)
  one_end units tokens (Err fault) (Ok done) is other = let no = fault_unclosed context text end tokens fault is in absurd (cc)
  one_end units tokens (Err fault) (Err second) is other =
      let e = fault_reads context text end tokens fault is in let f = fault_reads context text end tokens second other in cc

  apart : (units : List (List Decl)) (tokens : List CssToken) (a : List Decl) (rest : List CssToken) (says : Result (Unit {0}) SheetFault) → IsUnit context text tokens a rest
      → DeclarationEnd context text end units tokens says → ⊥
  apart units tokens a rest (Ok done) is closed = let no = unit_unclosed context text tokens a rest is in cc
  apart units tokens a rest (Err fault) is other =
      let e = unit_reads context text end tokens a rest is in let f = fault_reads context text end tokens fault other in cc

-- declarations or a fault, as an end behind units
closed_ended : (context : Context) (text : List ℕ) (end : ℕ) (tokens : List CssToken) (decls : List Decl) (rest : List CssToken) (are : AreDeclarations context text tokens decls rest)
    → UpTo (λ before. IsUnit context text) (DeclarationEnd context text end) tokens (record { units = are.units; rest = rest; says = Ok tt })
closed_ended context text end tokens decls rest are = record { run = are.are_units; ends = are.closed }

fault_ended : (context : Context) (text : List ℕ) (end : ℕ) (tokens : List CssToken) (fault : SheetFault) (is : DeclarationsFault context text end tokens fault)
    → UpTo (λ before. IsUnit context text) (DeclarationEnd context text end) tokens (record { units = is.units; rest = is.rest; says = Err fault })
fault_ended context text end tokens fault is = record { run = is.before; ends = is.here }

-- the same tokens are the same declarations
pub one_list : (context : Context) (text : List ℕ) (tokens : List CssToken) (decls others : List Decl) (rest more : List CssToken) → AreDeclarations context text tokens decls rest
    → AreDeclarations context text tokens others more → (others ≡ decls) × (more ≡ rest)
one_list context text tokens decls others rest more is also =
    let same = one_run (λ before. IsUnit context text) (DeclarationEnd context text 0) (declarations_told context text 0) tokens
    (record { units = is.units; rest = rest; says = Ok tt }) (record { units = also.units; rest = more; says = Ok tt })
    (closed_ended context text 0 tokens decls rest is) (closed_ended context text 0 tokens others more also) in (
      also.decls_are ∙ ap (λ (e : Ended (List Decl) (Result (Unit {0}) SheetFault)). joined e.units) same ∙ sym is.decls_are,
      ap (λ (e : Ended (List Decl) (Result (Unit {0}) SheetFault)). e.rest) same,
    )

pub one_fault : (context : Context) (text : List ℕ) (end : ℕ) (tokens : List CssToken) (fault other : SheetFault) → DeclarationsFault context text end tokens fault
    → DeclarationsFault context text end tokens other → other ≡ fault
one_fault context text end tokens fault other is also =
    let same = one_run (λ before. IsUnit context text) (DeclarationEnd context text end) (declarations_told context text end) tokens
    (record { units = is.units; rest = is.rest; says = Err fault }) (record { units = also.units; rest = also.rest; says = Err other })
    (fault_ended context text end tokens fault is) (fault_ended context text end tokens other also) in
    let e = ap (λ (e : Ended (List Decl) (Result (Unit {0}) SheetFault)). e.says) same in cc

pub good_is_not_faulty : (context : Context) (text : List ℕ) (end : ℕ) (tokens : List CssToken) (decls : List Decl) (rest : List CssToken) (fault : SheetFault)
    → AreDeclarations context text tokens decls rest → DeclarationsFault context text end tokens fault → ⊥
good_is_not_faulty context text end tokens decls rest fault is also =
    let same = one_run (λ before. IsUnit context text) (DeclarationEnd context text end) (declarations_told context text end) tokens
    (record { units = is.units; rest = rest; says = Ok tt }) (record { units = also.units; rest = also.rest; says = Err fault })
    (closed_ended context text end tokens decls rest is) (fault_ended context text end tokens fault also) in
    let e = ap (λ (e : Ended (List Decl) (Result (Unit {0}) SheetFault)). e.says) same in cc
