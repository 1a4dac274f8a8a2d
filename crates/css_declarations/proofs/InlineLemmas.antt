-- The reading of an inline style.
use Rattle.std.proofs.Common.{◌≡◌, ℕ, ◌-◌, ◌≤◌, List, [], ◌∷◌, ◌++◌, Result, Ok, Err, refl, sym, ap, ◌∙◌, subst, inl, inr, true, length, take, drop, arith, length-take}
use Rattle.page_model.specs.declared.place.Place.{Place}
use Rattle.page_model.specs.declared.rule.Decl.{Decl}
use Rattle.text_tokens.specs.declared.fault.ScanFault.TheVariants.{BadToken}
use Rattle.style_tokens.specs.declared.token.CssToken.{CssToken}
use Rattle.style_tokens.specs.CssTokens.{AreTokens, IsBadAt}
use Rattle.style_tokens.proofs.CssUnique.{scan_gives, scan_tells}
use Rattle.css_declarations.specs.declared.context.Context.TheVariants.{Inline}
use Rattle.css_declarations.specs.declared.fault.SheetFault.{SheetFault}
use Rattle.css_declarations.specs.declared.fault.SheetFault.TheVariants.{BadSheet, UnknownProperty, BadValue, BadKeyframes, OverLimit, NoMemory}
use Rattle.css_declarations.specs.InlineText.{SpellsInline, IsInlineFault, IsInline, IsInlineRead, part_of}
use Rattle.css_declarations.specs.DeclarationGrammar.{AreDeclarations, is_closed}
use Rattle.css_declarations.specs.DeclarationFaults.{AreAdded, DeclarationFault, DeclarationsFault, IsTold}
use Rattle.css_declarations.specs.DeclarationFaults.DeclarationFault.{no_name, unknown, not_animatable, no_colon, bad_value, over_limit, bang_in_block, not_important, not_ended}
use Rattle.css_declarations.specs.DeclarationReading.{Tells}
use Rattle.std.specs.Prelude.{IfOk}
use Rattle.css_declarations.specs.ReadyDecls.{AreReadyDecls}
use Rattle.css_declarations.proofs.PlaceLemmas.{are_ready, declarations_placed, tokens_rise}
use Rattle.css_declarations.proofs.UnitReads.{one_list, one_fault, good_is_not_faulty}

-- tokens are one list, or break off at one place
pub one_tokens : (end : ℕ) (bytes : List ℕ) (tokens others : List CssToken) → AreTokens end bytes tokens → AreTokens end bytes others → others ≡ tokens
one_tokens end bytes tokens others is also = sym (scan_gives end bytes (Ok tokens) others is also)

pub tokens_not_bad : (end : ℕ) (bytes : List ℕ) (tokens : List CssToken) (place : ℕ) → AreTokens end bytes tokens → IsBadAt end bytes place → ⊥
tokens_not_bad end bytes tokens place is bad = scan_tells end bytes (Ok tokens) place is bad

pub one_bad_token : (end : ℕ) (bytes : List ℕ) (place other : ℕ) → IsBadAt end bytes place → IsBadAt end bytes other → other ≡ place
one_bad_token end bytes place other is also = sym (scan_tells end bytes (Err (BadToken place)) other is also)

-- an inline style has one reading
one_spelled : (text : List ℕ) (part : Place) (decls others : List Decl) → SpellsInline text part decls → SpellsInline text part others → others ≡ decls
one_spelled text part decls others is also =
    let same = one_tokens part.to (part_of text part) is.tokens also.tokens is.are_tokens also.are_tokens in
    (one_list Inline text is.tokens decls others [] [] is.are_declarations (subst (λ t. AreDeclarations Inline text t others []) same also.are_declarations)).0

not_both : (text : List ℕ) (part : Place) (decls : List Decl) (fault : SheetFault) → SpellsInline text part decls → IsInlineFault text part fault → ⊥
not_both text part decls fault is (inl bad) = tokens_not_bad part.to (part_of text part) is.tokens bad.place is.are_tokens bad.bad
not_both text part decls fault is (inr also) =
    let same = one_tokens part.to (part_of text part) is.tokens also.tokens is.are_tokens also.are_tokens in
    good_is_not_faulty Inline text part.to is.tokens decls [] fault is.are_declarations (subst (λ t. DeclarationsFault Inline text part.to t fault) same also.first)

one_inline_fault : (text : List ℕ) (part : Place) (fault other : SheetFault) → IsInlineFault text part fault → IsInlineFault text part other → other ≡ fault
one_inline_fault text part fault other (inl is) (inl also) =
    also.fault_is ∙ ap (λ p. BadSheet p) (one_bad_token part.to (part_of text part) is.place also.place is.bad also.bad) ∙ sym is.fault_is
one_inline_fault text part fault other (inl is) (inr also) = absurd (tokens_not_bad part.to (part_of text part) also.tokens is.place also.are_tokens is.bad)
one_inline_fault text part fault other (inr is) (inl also) = absurd (tokens_not_bad part.to (part_of text part) is.tokens also.place is.are_tokens also.bad)
one_inline_fault text part fault other (inr is) (inr also) =
    let same = one_tokens part.to (part_of text part) is.tokens also.tokens is.are_tokens also.are_tokens in
    one_fault Inline text part.to is.tokens fault other is.first (subst (λ t. DeclarationsFault Inline text part.to t other) same also.first)

pub one_inline : (text : List ℕ) (part : Place) (outcome other : Result (List Decl) SheetFault) → IsInline text part outcome → IsInline text part other → other ≡ outcome
one_inline text part (Ok decls) (Ok others) is also = ap (λ d. Ok d) (one_spelled text part decls others is also)
one_inline text part (Ok decls) (Err fault) is also = absurd (not_both text part decls fault is also)
one_inline text part (Err fault) (Ok decls) is also = absurd (not_both text part decls fault also is)
one_inline text part (Err fault) (Err other) is also = ap (λ f. Err f) (one_inline_fault text part fault other is also)

-- so what there is to be read is answered, unless memory is refused
pub inline_told : (text : List ℕ) (part : Place) (result other : Result (List Decl) SheetFault) → IsInlineRead text part result → IsInline text part other → Tells result other
inline_told text part (Ok decls) other is also = one_inline text part (Ok decls) other is also
inline_told text part (Err NoMemory) other is also = tt
inline_told text part (Err (BadSheet place)) other is also = one_inline text part (Err (BadSheet place)) other is also
inline_told text part (Err (UnknownProperty place)) other is also = one_inline text part (Err (UnknownProperty place)) other is also
inline_told text part (Err (BadValue place)) other is also = one_inline text part (Err (BadValue place)) other is also
inline_told text part (Err (BadKeyframes place)) other is also = one_inline text part (Err (BadKeyframes place)) other is also
inline_told text part (Err (OverLimit place)) other is also = one_inline text part (Err (OverLimit place)) other is also

-- what is read of tokens
closed_inline : (rest : List CssToken) → is_closed Inline rest ≡ true → rest ≡ []
closed_inline [] closed = refl
closed_inline (token ∷ rest) closed = absurd (cc)

pub all_spelled : (text : List ℕ) (part : Place) (tokens rest : List CssToken) (decls : List Decl) → AreTokens part.to (part_of text part) tokens → AreDeclarations Inline text tokens decls rest
    → SpellsInline text part decls
all_spelled text part tokens rest decls is are = record {
  tokens = tokens;
  are_tokens = is;
  are_declarations = subst (λ r. AreDeclarations Inline text tokens decls r) (closed_inline rest are.closed) are;
}

pub inline_read : (text : List ℕ) (part : Place) (tokens rest : List CssToken) (old decls : List Decl) → AreTokens part.to (part_of text part) tokens → old ≡ []
    → AreAdded Inline text tokens old decls rest → SpellsInline text part decls
inline_read text part tokens rest old decls is empty added =
    subst (SpellsInline text part) (sym (added.new_is ∙ ap (λ o. o ++ added.decls) empty)) (all_spelled text part tokens rest added.decls is added.are)

pub inline_faulty : (text : List ℕ) (part : Place) (tokens : List CssToken) (fault : SheetFault) → AreTokens part.to (part_of text part) tokens
    → IsTold (DeclarationsFault Inline text part.to tokens) fault → IsTold (IsInlineFault text part) fault
inline_faulty text part tokens NoMemory is first = tt
inline_faulty text part tokens (BadSheet place) is first = inr (record { tokens = tokens; are_tokens = is; first = first })
inline_faulty text part tokens (UnknownProperty place) is first = inr (record { tokens = tokens; are_tokens = is; first = first })
inline_faulty text part tokens (BadValue place) is first = inr (record { tokens = tokens; are_tokens = is; first = first })
inline_faulty text part tokens (BadKeyframes place) is first = inr (record { tokens = tokens; are_tokens = is; first = first })
inline_faulty text part tokens (OverLimit place) is first = inr (record { tokens = tokens; are_tokens = is; first = first })

-- what is read is as the cascade needs it
take_within : (n : ℕ) (bytes : List ℕ) → length (take n bytes) ≤ n
take_within n bytes = omega (arith, length-take n bytes)

pub part_fits : (text : List ℕ) (part : Place) → length (part_of text part) ≤ part.to
part_fits text part = let fits : length (part_of text part) ≤ part.to - part.from = take_within (part.to - part.from) (drop part.from text) in omega arith

spelled_ready : (text : List ℕ) (part : Place) (decls : List Decl) → SpellsInline text part decls → AreReadyDecls decls
spelled_ready text part decls is =
    let placed = declarations_placed Inline text is.tokens decls [] is.are_declarations in
    are_ready decls placed.values (placed.apart (tokens_rise part.to (part_of text part) is.tokens is.are_tokens (part_fits text part)))

pub inline_ready : (text : List ℕ) (part : Place) (result : Result (List Decl) SheetFault) → IsInlineRead text part result → IfOk result AreReadyDecls
inline_ready text part (Ok decls) is = spelled_ready text part decls is
inline_ready text part (Err fault) is = tt

-- an inline style has no keyframes that could be bad
no_keyframes_here : (text : List ℕ) (end : ℕ) (tokens : List CssToken) (fault : SheetFault) → DeclarationFault Inline text end tokens fault → (place : ℕ) → fault ≡ BadKeyframes place → ⊥
no_keyframes_here text end tokens fault (no_name _ is semi unclosed) place e = cc
no_keyframes_here text end tokens fault (unknown name rest is none) place e = cc
no_keyframes_here text end tokens fault (not_animatable name rest property is some not) place e = cc
no_keyframes_here text end tokens fault (no_colon name rest property is colon) place e = cc
no_keyframes_here text end tokens fault (bad_value name colon behind rest v) place e = cc
no_keyframes_here text end tokens fault (over_limit name colon behind rest v) place e = cc
no_keyframes_here text end tokens fault (bang_in_block _ longhands bang rest v is block) place e = cc
no_keyframes_here text end tokens fault (not_important _ longhands bang rest v is block not) place e = cc
no_keyframes_here text end tokens fault (not_ended _ behind longhands important rest v mark not) place e = cc

no_keyframes_told : (text : List ℕ) (part : Place) (place : ℕ) → IsInlineFault text part (BadKeyframes place) → ⊥
no_keyframes_told text part place (inl bad) = let e = bad.fault_is in cc
no_keyframes_told text part place (inr first) = no_keyframes_here text part.to first.first.rest (BadKeyframes place) first.first.here place refl

pub no_keyframes : (text : List ℕ) (part : Place) (result : Result (List Decl) SheetFault) → IsInlineRead text part result → (place : ℕ) → result ≡ Err (BadKeyframes place) → ⊥
no_keyframes text part result is place e = no_keyframes_told text part place (subst (IsInlineRead text part) e is)
