-- Declarations are read, or have a first fault: they are gone through as far as they go.
use Rattle.std.proofs.Common.{◌≡◌, ℕ, zero, suc, ◌<◌, Bool, true, false, List, [], ◌∷◌, ◌++◌, length, Result, Ok, Err, refl, subst, inl, inr, ◌⊎◌, arith}
use Rattle.page_model.specs.declared.place.Place.{Place}
use Rattle.page_model.specs.declared.rule.Decl.{Decl}
use Rattle.style_tokens.specs.declared.token.CssToken.{CssToken}
use Rattle.style_tokens.specs.CssTokens.{AreTokens}
use Rattle.style_tokens.proofs.CssJudged.{IsScanned, text_scanned}
use Rattle.css_declarations.specs.declared.context.Context.{Context}
use Rattle.css_declarations.specs.declared.context.Context.TheVariants.{Inline}
use Rattle.css_declarations.specs.declared.fault.SheetFault.{SheetFault}
use Rattle.css_declarations.specs.declared.fault.SheetFault.TheVariants.{BadSheet, NoMemory}
use Rattle.css_declarations.specs.DeclarationGrammar.{AreDeclarations, is_closed}
use Rattle.css_declarations.specs.DeclarationFaults.{DeclarationFault, DeclarationsFault}
use Rattle.css_declarations.specs.DeclarationReading.{unit_at}
use Rattle.css_declarations.specs.InlineText.{IsInline, IsInlineFault, part_of}
use Rattle.css_declarations.proofs.InlineLemmas.{all_spelled}
use Rattle.css_declarations.proofs.ListLemmas.{AreSoFar, closed_here, faulty, none_yet, one_more, read_unit, unit_shorter}
use Rattle.css_declarations.proofs.ToldUnits.{IsSure, no_memory_told, surely_so, unit_sure}

-- declarations, or their first fault
abbrev pub AreJudged : Context → List ℕ → ℕ → List CssToken → Result (List Decl × List CssToken) SheetFault → Type 0
AreJudged context text end tokens (Ok read) = AreDeclarations context text tokens read.0 read.1
AreJudged context text end tokens (Err fault) = DeclarationsFault context text end tokens fault

abbrev pub HaveOutcome : Context → List ℕ → ℕ → List CssToken → Type 0
HaveOutcome context text end tokens = (outcome : Result (List Decl × List CssToken) SheetFault) × AreJudged context text end tokens outcome

-- one step behind some units, with what is told behind more of them
step : (context : Context) (text : List ℕ) (end : ℕ) (tokens middle : List CssToken) (new : List Decl) → AreSoFar context text tokens [] new middle
    → ((newer : List Decl) (rest : List CssToken) → AreSoFar context text tokens [] newer rest → length rest < length middle → HaveOutcome context text end tokens)
    → HaveOutcome context text end tokens
step context text end tokens middle new so onward = by_closed (is_closed context middle) refl where
  by_unit : is_closed context middle ≡ false → (read : Result (List Decl × List CssToken) SheetFault) → unit_at context text end middle ≡ read → HaveOutcome context text end tokens
  by_unit unclosed (Ok read) e =
      let is = read_unit context text end middle (Ok read) unclosed e in
      onward (new ++ read.0) read.1 (one_more context text tokens middle read.1 [] new (new ++ read.0) read.0 so is refl) (unit_shorter context text middle read.0 read.1 is)
  by_unit unclosed (Err fault) e =
      let is = surely_so (List Decl × List CssToken) (DeclarationFault context text end middle) fault (subst IsSure e (unit_sure context text end middle))
      (read_unit context text end middle (Err fault) unclosed e) in
      (Err fault, faulty context text end tokens middle [] new fault so is)

  by_closed : (b : Bool) → is_closed context middle ≡ b → HaveOutcome context text end tokens
  by_closed true closed = let added = closed_here context text end tokens middle [] new so closed in (Ok (added.decls, middle), added.are)
  by_closed false unclosed = by_unit unclosed (unit_at context text end middle) refl

judged_within : (most : ℕ) (context : Context) (text : List ℕ) (end : ℕ) (tokens middle : List CssToken) (new : List Decl) → AreSoFar context text tokens [] new middle → length middle < most
    → HaveOutcome context text end tokens
judged_within zero context text end tokens middle new so less = absurd (omega arith)
judged_within (suc most) context text end tokens middle new so less =
    step context text end tokens middle new so (λ newer rest more shorter. judged_within most context text end tokens rest newer more (omega arith))

pub declarations_judged : (context : Context) (text : List ℕ) (end : ℕ) (tokens : List CssToken) → HaveOutcome context text end tokens
declarations_judged context text end tokens = judged_within (suc (length tokens)) context text end tokens tokens [] (none_yet context text tokens []) (omega arith)

-- an inline style
tokens_judged : (text : List ℕ) (part : Place) (tokens : List CssToken) → AreTokens part.to (part_of text part) tokens
    → (outcome : Result (List Decl × List CssToken) SheetFault) → AreJudged Inline text part.to tokens outcome → (judged : Result (List Decl) SheetFault) × IsInline text part judged
tokens_judged text part tokens is (Ok read) are = (Ok read.0, all_spelled text part tokens read.1 read.0 is are)
tokens_judged text part tokens is (Err fault) first = (Err fault, inr (record { tokens = tokens; are_tokens = is; first = first }))

scan_judged : (text : List ℕ) (part : Place) → IsScanned part.to (part_of text part) → (judged : Result (List Decl) SheetFault) × IsInline text part judged
scan_judged text part (inl scan) = let are = declarations_judged Inline text part.to scan.0 in tokens_judged text part scan.0 scan.1 are.0 are.1
scan_judged text part (inr bad) = (Err (BadSheet bad.0), inl (record { place = bad.0; bad = bad.1; fault_is = refl }))

pub inline_judged : (text : List ℕ) (part : Place) → (judged : Result (List Decl) SheetFault) × IsInline text part judged
inline_judged text part = scan_judged text part (text_scanned part.to (part_of text part))

-- want of memory is no fault of a text
no_memory : (text : List ℕ) (part : Place) → IsInlineFault text part NoMemory → ⊥
no_memory text part (inl bad) = let e = bad.fault_is in cc
no_memory text part (inr first) = no_memory_told Inline text part.to first.tokens NoMemory first.first refl

pub inline_never_memory : (text : List ℕ) (part : Place) → IsInline text part (Err NoMemory) → ⊥
inline_never_memory text part is = no_memory text part is
