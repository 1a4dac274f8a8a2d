-- Declarations that were read one by one.
use Rattle.std.proofs.Common.{◌≡◌, ℕ, ◌+◌, ◌<◌, ◌≤◌, Bool, true, false, List, [], ◌∷◌, ◌++◌, length, Result, Ok, Err, refl, sym, ap, ◌∙◌, subst, arith, append_assoc, length-append, append-nil}
use Rattle.page_model.specs.declared.rule.Decl.{Decl}
use Rattle.style_tokens.specs.declared.token.CssToken.{CssToken}
use Rattle.css_declarations.specs.declared.context.Context.{Context}
use Rattle.css_declarations.specs.declared.fault.SheetFault.{SheetFault}
use Rattle.css_declarations.specs.declared.fault.SheetFault.TheVariants.{BadSheet, UnknownProperty, BadValue, BadKeyframes, OverLimit, NoMemory}
use Rattle.css_declarations.specs.DeclarationGrammar.{AreUnits, AreDeclarations, IsUnit, IsMark, is_closed, joined}
use Rattle.css_declarations.specs.DeclarationGrammar.IsUnit.{semicolon, declaration}
use Rattle.css_declarations.specs.DeclarationGrammar.IsMark.{unmarked, marked}
use Rattle.css_declarations.specs.DeclarationFaults.{AddsDeclarations, DeclarationFault, DeclarationsFault}
use Rattle.css_declarations.specs.DeclarationReading.{Adds, unit_at}
use Rattle.css_declarations.specs.TokenRuns.Run.{none, more}
use Rattle.css_declarations.proofs.UnitTakes.{UnitRead, unit_takes}

-- a unit takes a token or more
mark_shorter : (context : Context) (text : List ℕ) (tokens : List CssToken) (important : Bool) (rest : List CssToken) → IsMark context text tokens important rest → length rest ≤ length tokens
mark_shorter context text tokens important rest (unmarked _ is) = omega arith
mark_shorter context text tokens important rest (marked bang word _ a b c) = omega arith

pub unit_shorter : (context : Context) (text : List ℕ) (tokens : List CssToken) (decls : List Decl) (rest : List CssToken) → IsUnit context text tokens decls rest → length rest < length tokens
unit_shorter context text tokens decls rest (semicolon token _ is) = omega arith
unit_shorter context text tokens decls rest (declaration _ _ _ is) =
    let marked : length rest ≤ length is.behind = mark_shorter context text is.behind is.important rest is.mark in
    let split : length tokens ≡ length (is.valued.name ∷ (is.valued.colon ∷ (is.valued.value ++ is.behind))) = ap length is.valued.split in
    let all : length (is.valued.value ++ is.behind) ≡ length is.valued.value + length is.behind = length-append is.valued.value is.behind in
    omega arith

-- declarations so far
pub record AreSoFar (context : Context) (text : List ℕ) (tokens : List CssToken) (old new : List Decl) (rest : List CssToken) : Type 0 where
  pub units : List (List Decl)
  pub are_units : AreUnits context text tokens units rest
  pub new_is : new ≡ old ++ joined units

pub none_yet : (context : Context) (text : List ℕ) (tokens : List CssToken) (old : List Decl) → AreSoFar context text tokens old old tokens
none_yet context text tokens old = record { units = []; are_units = none; new_is = sym (append-nil old) }

pub joined_more : (units : List (List Decl)) (decls : List Decl) → joined (units ++ (decls ∷ [])) ≡ joined units ++ decls
joined_more [] decls = append-nil decls
joined_more (unit ∷ units) decls = ap (λ r. unit ++ r) (joined_more units decls) ∙ sym (append_assoc unit (joined units) decls)

-- one unit more
pub one_more : (context : Context) (text : List ℕ) (tokens middle rest : List CssToken) (old new newer decls : List Decl) → AreSoFar context text tokens old new middle
    → IsUnit context text middle decls rest → newer ≡ new ++ decls → AreSoFar context text tokens old newer rest
one_more context text tokens middle rest old new newer decls so is e = record {
  units = so.units ++ (decls ∷ []);
  are_units = more so.units middle decls rest so.are_units is;
  new_is = e ∙ ap (λ n. n ++ decls) so.new_is ∙ append_assoc old (joined so.units) decls ∙ ap (λ r. old ++ r) (sym (joined_more so.units decls));
}

-- a unit that was read
pub read_unit : (context : Context) (text : List ℕ) (end : ℕ) (tokens : List CssToken) (read : Result (List Decl × List CssToken) SheetFault) → is_closed context tokens ≡ false
    → unit_at context text end tokens ≡ read → UnitRead context text end tokens read
read_unit context text end tokens read unclosed e = subst (UnitRead context text end tokens) e (unit_takes context text end tokens unclosed)

pub unit_added : (context : Context) (text : List ℕ) (end : ℕ) (tokens middle rest : List CssToken) (old new newer : List Decl) → AreSoFar context text tokens old new middle
    → is_closed context middle ≡ false → Adds new newer (Ok rest) (unit_at context text end middle) → AreSoFar context text tokens old newer rest
unit_added context text end tokens middle rest old new newer so unclosed added =
    one_more context text tokens middle rest old new newer added.0 so (read_unit context text end middle (Ok (added.0, rest)) unclosed added.1.0) added.1.1

pub unit_leaves : (context : Context) (text : List ℕ) (end : ℕ) (middle rest : List CssToken) (new newer : List Decl)
    → is_closed context middle ≡ false → Adds new newer (Ok rest) (unit_at context text end middle) → length rest < length middle
unit_leaves context text end middle rest new newer unclosed added =
    unit_shorter context text middle added.0 rest (read_unit context text end middle (Ok (added.0, rest)) unclosed added.1.0)

pub closed_here : (context : Context) (text : List ℕ) (end : ℕ) (tokens rest : List CssToken) (old new : List Decl) → AreSoFar context text tokens old new rest
    → is_closed context rest ≡ true → AddsDeclarations context text end tokens old new (Ok rest)
closed_here context text end tokens rest old new so closed = record {
  decls = joined so.units;
  are = record { units = so.units; are_units = so.are_units; decls_are = refl; closed = closed };
  new_is = so.new_is;
}

pub faulty : (context : Context) (text : List ℕ) (end : ℕ) (tokens middle : List CssToken) (old new : List Decl) (fault : SheetFault) → AreSoFar context text tokens old new middle
    → DeclarationFault context text end middle fault → DeclarationsFault context text end tokens fault
faulty context text end tokens middle old new fault so is = record { units = so.units; rest = middle; before = so.are_units; here = is }

pub fault_here : (context : Context) (text : List ℕ) (end : ℕ) (tokens middle : List CssToken) (old new newer : List Decl) (fault : SheetFault) → AreSoFar context text tokens old new middle
    → is_closed context middle ≡ false → Adds new newer (Err fault) (unit_at context text end middle) → AddsDeclarations context text end tokens old newer (Err fault)
fault_here context text end tokens middle old new newer NoMemory so unclosed read = tt
fault_here context text end tokens middle old new newer (BadSheet place) so unclosed read =
    faulty context text end tokens middle old new (BadSheet place) so (read_unit context text end middle (Err (BadSheet place)) unclosed read)
fault_here context text end tokens middle old new newer (UnknownProperty place) so unclosed read =
    faulty context text end tokens middle old new (UnknownProperty place) so (read_unit context text end middle (Err (UnknownProperty place)) unclosed read)
fault_here context text end tokens middle old new newer (BadValue place) so unclosed read =
    faulty context text end tokens middle old new (BadValue place) so (read_unit context text end middle (Err (BadValue place)) unclosed read)
fault_here context text end tokens middle old new newer (BadKeyframes place) so unclosed read =
    faulty context text end tokens middle old new (BadKeyframes place) so (read_unit context text end middle (Err (BadKeyframes place)) unclosed read)
fault_here context text end tokens middle old new newer (OverLimit place) so unclosed read =
    faulty context text end tokens middle old new (OverLimit place) so (read_unit context text end middle (Err (OverLimit place)) unclosed read)

-- what is left of declarations is no longer than they are
run_keeps : (context : Context) (text : List ℕ) (tokens : List CssToken) (units : List (List Decl)) (rest : List CssToken) → AreUnits context text tokens units rest → length rest ≤ length tokens
run_keeps context text tokens units rest none = omega arith
run_keeps context text tokens units rest (more before middle unit _ run is) =
    let less : length rest < length middle = unit_shorter context text middle unit rest is in
    let kept : length middle ≤ length tokens = run_keeps context text tokens before middle run in
    omega arith

pub declarations_keep : (context : Context) (text : List ℕ) (tokens : List CssToken) (decls : List Decl) (rest : List CssToken) → AreDeclarations context text tokens decls rest → length rest ≤ length tokens
declarations_keep context text tokens decls rest are = run_keeps context text tokens are.units rest are.are_units
