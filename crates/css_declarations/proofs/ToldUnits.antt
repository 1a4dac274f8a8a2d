-- No unit is read as want of memory.
use Rattle.std.proofs.Common.{◌≡◌, ℕ, Bool, true, false, cond, List, [], ◌∷◌, map, codes, Option, Some, None, Result, Ok, Err, subst}
use Rattle.page_model.specs.declared.rule.Decl.{Decl}
use Rattle.page_model.specs.declared.rule.Longhand.{Longhand}
use Rattle.style_tokens.specs.declared.token.CssToken.{CssToken}
use Rattle.css_easings.specs.Easings.{easing_of}
use Rattle.css_words.specs.declared.fault.ValueFault.{ValueFault}
use Rattle.css_words.specs.declared.fault.ValueFault.TheVariants as value_faults
use Rattle.css_values.specs.declared.types.Property.{Property}
use Rattle.css_values.specs.ValueGrammar.{declaration_of}
use Rattle.css_values.proofs.JudgedLonghands.{declaration_told, easing_told}
use Rattle.css_values.proofs.ToldValues.{IsTold as IsValueTold, told_if as value_if, told_mapped}
use Rattle.css_words.specs.Words.{Word, mapped, words}
use Rattle.css_declarations.specs.declared.context.Context.{Context}
use Rattle.css_declarations.specs.declared.fault.SheetFault.{SheetFault}
use Rattle.css_declarations.specs.declared.fault.SheetFault.TheVariants.{BadSheet, UnknownProperty, BadValue, BadKeyframes, OverLimit, NoMemory}
use Rattle.css_declarations.specs.DeclarationFaults.{DeclarationFault, DeclarationsFault, IsTold}
use Rattle.css_declarations.specs.DeclarationFaults.DeclarationFault.{no_name, unknown, not_animatable, no_colon, bad_value, over_limit, bang_in_block, not_important, not_ended}
use Rattle.css_declarations.specs.DeclarationGrammar.{decl_of, has_one_easing, is_allowed, is_block, is_ended, one_easing, property_of, value_in}
use Rattle.css_declarations.specs.DeclarationReading.{after, placed, name_at, judged_name, colon_at, named_at, value_at, value_front, value_rest, mark_at, important_at, ended_at, marked_at, declaration_at, unit_at}
use Rattle.css_declarations.specs.TokenKinds.{is_ident, is_colon, is_semicolon, is_bang, is_word, place_of}

-- an outcome is no want of memory
abbrev pub IsSure : {A : Type 0} → Result A SheetFault → Type 0
IsSure (Ok value) = Unit {0}
IsSure (Err NoMemory) = ⊥
IsSure (Err (BadSheet place)) = Unit {0}
IsSure (Err (UnknownProperty place)) = Unit {0}
IsSure (Err (BadValue place)) = Unit {0}
IsSure (Err (BadKeyframes place)) = Unit {0}
IsSure (Err (OverLimit place)) = Unit {0}

pub sure_if : {A : Type 0} (b : Bool) (p q : Result A SheetFault) → IsSure p → IsSure q → IsSure (cond b p q)
sure_if true p q first second = first
sure_if false p q first second = second

pub sure_after : {A B : Type 0} (first : Result A SheetFault) (step : A → Result B SheetFault) → IsSure first → ((x : A) → IsSure (step x)) → IsSure (after first step)
sure_after (Ok value) step first next = next value
sure_after (Err NoMemory) step first next = first
sure_after (Err (BadSheet place)) step first next = tt
sure_after (Err (UnknownProperty place)) step first next = tt
sure_after (Err (BadValue place)) step first next = tt
sure_after (Err (BadKeyframes place)) step first next = tt
sure_after (Err (OverLimit place)) step first next = tt

-- so what is told of it is so
pub surely_so : (A : Type 0) (P : SheetFault → Type 0) (fault : SheetFault) → IsSure {A = A} (Err fault) → IsTold P fault → P fault
surely_so A P NoMemory sure told = absurd sure
surely_so A P (BadSheet place) sure told = told
surely_so A P (UnknownProperty place) sure told = told
surely_so A P (BadValue place) sure told = told
surely_so A P (BadKeyframes place) sure told = told
surely_so A P (OverLimit place) sure told = told

-- the parts of a declaration
judged_sure : (context : Context) (place : ℕ) (rest : List CssToken) (found : Option Property) → IsSure (judged_name context place rest found)
judged_sure context place rest None = tt
judged_sure context place rest (Some property) = sure_if (is_allowed context property) (Ok (property, rest)) (Err (BadKeyframes place)) tt tt

name_sure : (context : Context) (text : List ℕ) (end : ℕ) (tokens : List CssToken) → IsSure (name_at context text end tokens)
unfolding name_at
name_sure context text end [] = tt
name_sure context text end (token ∷ rest) =
    sure_if (is_ident token.kind) (judged_name context token.place.from rest (property_of text token)) (Err (BadSheet token.place.from))
    (judged_sure context token.place.from rest (property_of text token)) tt

colon_sure : (end : ℕ) (tokens : List CssToken) → IsSure (colon_at end tokens)
unfolding colon_at
colon_sure end [] = tt
colon_sure end (token ∷ rest) = sure_if (is_colon token.kind) (Ok rest) (Err (BadSheet token.place.from)) tt tt

named_sure : (context : Context) (text : List ℕ) (end : ℕ) (tokens : List CssToken) → IsSure (named_at context text end tokens)
unfolding named_at
named_sure context text end tokens =
    sure_after (name_at context text end tokens) (λ named. after (colon_at end named.1) (λ rest. Ok (named.0, rest))) (name_sure context text end tokens)
    (λ named. sure_after (colon_at end named.1) (λ rest. Ok (named.0, rest)) (colon_sure end named.1) (λ rest. tt))

value_in_told : (context : Context) (property : Property) (words : List Word) → IsValueTold (value_in context property words)
unfolding value_in
value_in_told context property words =
    value_if (has_one_easing context property) (mapped one_easing (easing_of words)) (declaration_of property words)
    (told_mapped one_easing (easing_of words) (easing_told words)) (declaration_told property words)

placed_sure : {A : Type 0} (place : ℕ) (spelled : Result A ValueFault) → IsValueTold spelled → IsSure (placed place spelled)
placed_sure place (Ok value) told = tt
placed_sure place (Err value_faults.BadValue) told = tt
placed_sure place (Err value_faults.OverLimit) told = tt
placed_sure place (Err value_faults.NoMemory) told = told

value_sure : (context : Context) (text : List ℕ) (end : ℕ) (property : Property) (tokens : List CssToken) → IsSure (value_at context text end property tokens)
unfolding value_at
value_sure context text end property tokens =
    placed_sure (place_of end tokens) (value_in context property (words text (value_front tokens))) (value_in_told context property (words text (value_front tokens)))

important_sure : (text : List ℕ) (end : ℕ) (tokens : List CssToken) → IsSure (important_at text end tokens)
unfolding important_at
important_sure text end [] = tt
important_sure text end (token ∷ rest) = sure_if (is_word (codes "important") text token) (Ok (true, rest)) (Err (BadSheet token.place.from)) tt tt

mark_sure : (context : Context) (text : List ℕ) (end : ℕ) (tokens : List CssToken) → IsSure (mark_at context text end tokens)
unfolding mark_at
mark_sure context text end [] = tt
mark_sure context text end (token ∷ rest) =
    sure_if (is_bang token.kind) (cond (is_block context) (Err (BadKeyframes token.place.from)) (important_at text end rest)) (Ok (false, token ∷ rest))
    (sure_if (is_block context) (Err (BadKeyframes token.place.from)) (important_at text end rest) tt (important_sure text end rest)) tt

ended_sure : (context : Context) (end : ℕ) (tokens : List CssToken) → IsSure (ended_at context end tokens)
unfolding ended_at
ended_sure context end tokens = sure_if (is_ended context tokens) (Ok tokens) (Err (BadSheet (place_of end tokens))) tt tt

marked_sure : (context : Context) (text : List ℕ) (end : ℕ) (tokens : List CssToken) → IsSure (marked_at context text end tokens)
unfolding marked_at
marked_sure context text end tokens =
    sure_after (mark_at context text end tokens) (λ mark. after (ended_at context end mark.1) (λ rest. Ok (mark.0, rest))) (mark_sure context text end tokens)
    (λ mark. sure_after (ended_at context end mark.1) (λ rest. Ok (mark.0, rest)) (ended_sure context end mark.1) (λ rest. tt))

abbrev decls_at : ℕ → List CssToken → List Longhand → Bool × List CssToken → Result (List Decl × List CssToken) SheetFault
decls_at end tokens longhands mark = Ok (map (decl_of mark.0 (place_of end tokens)) longhands, mark.1)

declaration_sure : (context : Context) (text : List ℕ) (end : ℕ) (tokens : List CssToken) → IsSure (declaration_at context text end tokens)
unfolding declaration_at
declaration_sure context text end tokens =
    sure_after (named_at context text end tokens)
    (λ named. after (value_at context text end named.0 named.1) (λ longhands. after (marked_at context text end (value_rest named.1)) (decls_at end tokens longhands)))
    (named_sure context text end tokens)
    (λ named. sure_after (value_at context text end named.0 named.1) (λ longhands. after (marked_at context text end (value_rest named.1)) (decls_at end tokens longhands))
    (value_sure context text end named.0 named.1)
    (λ longhands. sure_after (marked_at context text end (value_rest named.1)) (decls_at end tokens longhands) (marked_sure context text end (value_rest named.1)) (λ mark. tt)))

pub unit_sure : (context : Context) (text : List ℕ) (end : ℕ) (tokens : List CssToken) → IsSure (unit_at context text end tokens)
unfolding unit_at
unit_sure context text end [] = declaration_sure context text end []
unit_sure context text end (token ∷ rest) =
    sure_if (is_semicolon token.kind) (Ok ([], rest)) (declaration_at context text end (token ∷ rest)) tt (declaration_sure context text end (token ∷ rest))

-- nor is want of memory a fault of declarations
no_memory_here : (context : Context) (text : List ℕ) (end : ℕ) (tokens : List CssToken) (fault : SheetFault) → DeclarationFault context text end tokens fault → fault ≡ NoMemory → ⊥
no_memory_here context text end tokens fault (no_name _ is semi unclosed) e = cc
no_memory_here context text end tokens fault (unknown name rest is none) e = cc
no_memory_here context text end tokens fault (not_animatable name rest property is some not) e = cc
no_memory_here context text end tokens fault (no_colon name rest property is colon) e = cc
no_memory_here context text end tokens fault (bad_value name colon behind rest v) e = cc
no_memory_here context text end tokens fault (over_limit name colon behind rest v) e = cc
no_memory_here context text end tokens fault (bang_in_block _ longhands bang rest v is block) e = cc
no_memory_here context text end tokens fault (not_important _ longhands bang rest v is block not) e = cc
no_memory_here context text end tokens fault (not_ended _ behind longhands important rest v mark not) e = cc

pub no_memory_told : (context : Context) (text : List ℕ) (end : ℕ) (tokens : List CssToken) (fault : SheetFault) → DeclarationsFault context text end tokens fault → fault ≡ NoMemory → ⊥
no_memory_told context text end tokens fault first e = no_memory_here context text end first.rest fault first.here e
