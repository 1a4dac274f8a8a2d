-- Declarations are told by their tokens and the next one, and a `BadSheet` among them by the tokens up to its place.
use Rattle.std.proofs.Common.{◌≡◌, ℕ, Bool, true, false, List, [], ◌∷◌, ◌++◌, map, Ok, refl, sym, ap, ◌∙◌, subst, inl, inr}
use Rattle.page_model.specs.declared.rule.Decl.{Decl}
use Rattle.page_model.specs.declared.rule.Longhand.{Longhand}
use Rattle.style_tokens.specs.declared.token.CssToken.{CssToken}
use Rattle.css_declarations.specs.declared.context.Context.{Context}
use Rattle.css_declarations.specs.declared.fault.SheetFault.{SheetFault}
use Rattle.css_declarations.specs.declared.fault.SheetFault.TheVariants.{BadSheet}
use Rattle.css_declarations.specs.DeclarationFaults.{DeclarationFault, DeclarationsFault, begins_important}
use Rattle.css_declarations.specs.DeclarationFaults.DeclarationFault.{no_name, unknown, not_animatable, no_colon, bad_value, over_limit, bang_in_block, not_important, not_ended}
use Rattle.css_declarations.specs.DeclarationGrammar.{AreDeclarations, AreUnits, IsDeclaration, IsMark, IsUnit, IsValued, decl_of, is_block, is_closed, is_ended, stops_value}
use Rattle.css_declarations.specs.DeclarationGrammar.IsMark.{unmarked, marked}
use Rattle.css_declarations.specs.DeclarationGrammar.IsUnit.{semicolon, declaration}
use Rattle.css_declarations.specs.TokenKinds.{begins, is_bang}
use Rattle.css_declarations.specs.TokenRuns.Run.{none, more}
use Rattle.css_declarations.proofs.StuckTokens.{AreAlike, IsStable, IsStuck, Sticks, stable_as, stable_then, sticks_as, stuck_as, stuck_next, stuck_then}

-- what is asked of the first token alone holds of texts that begin alike
pub alike_so : (P : List CssToken → Bool) → ((token : CssToken) (left right : List CssToken) → P (token ∷ left) ≡ P (token ∷ right)) → (tokens others : List CssToken) → AreAlike tokens others → (b : Bool)
    → P tokens ≡ b → P others ≡ b
alike_so P first tokens others begin b is = ap P begin.second ∙ sym (first begin.head begin.left begin.right) ∙ sym (ap P begin.first) ∙ is

-- a name, its colon and its value
named_again : (context : Context) (text : List ℕ) (tokens behind others : List CssToken) (longhands : List Longhand) (v : IsValued context text tokens (Ok longhands) behind) → stops_value others ≡ true
    → IsValued context text (v.name ∷ (v.colon ∷ (v.value ++ others))) (Ok longhands) others
named_again context text tokens behind others longhands v stops = record {
  name = v.name;
  colon = v.colon;
  value = v.value;
  property = v.property;
  split = refl;
  named = v.named;
  colon_is = v.colon_is;
  in_value = v.in_value;
  stops = stops;
  spells = v.spells;
}

-- a value of a name at this token
abbrev Valued : Context → List ℕ → List Longhand → CssToken → List CssToken → List CssToken → Type 0
Valued context text longhands name tokens behind = (v : IsValued context text tokens (Ok longhands) behind) × (v.name ≡ name)

valued_stable : (context : Context) (text : List ℕ) (tokens behind : List CssToken) (longhands : List Longhand) (v : IsValued context text tokens (Ok longhands) behind)
    → IsStable (Valued context text longhands v.name) tokens behind
unfolding named_again
valued_stable context text tokens behind longhands v = record {
  front = v.name ∷ (v.colon ∷ v.value);
  split = v.split;
  again = λ others begin. (named_again context text tokens behind others longhands v (alike_so stops_value (λ t l r. refl) behind others begin true v.stops), refl);
}

-- with what stands behind it
mark_stable : (context : Context) (text : List ℕ) (behind : List CssToken) (important : Bool) (rest : List CssToken) → IsMark context text behind important rest
    → IsStable (λ m r. IsMark context text m important r) behind rest
mark_stable context text behind important rest (unmarked _ is) = record {
  front = [];
  split = refl;
  again = λ others begin. unmarked others (alike_so (begins is_bang) (λ t l r. refl) rest others begin false is);
}
mark_stable context text behind important rest (marked bang word _ unblocked is is_important) = record {
  front = bang ∷ (word ∷ []);
  split = refl;
  again = λ others begin. marked bang word others unblocked is is_important;
}

abbrev Marked : Context → List ℕ → List Longhand → CssToken → Bool → List CssToken → List CssToken → Type 0
Marked context text longhands name important tokens rest = (behind : List CssToken) × ((Valued context text longhands name tokens behind) × (IsMark context text behind important rest))

marked_stable : (context : Context) (text : List ℕ) (tokens behind rest : List CssToken) (longhands : List Longhand) (important : Bool) (v : IsValued context text tokens (Ok longhands) behind)
    → IsMark context text behind important rest → IsStable (Marked context text longhands v.name important) tokens rest
marked_stable context text tokens behind rest longhands important v mark =
    stable_then (Valued context text longhands v.name) (λ m r. IsMark context text m important r) (Marked context text longhands v.name important) (λ x m r valued is. (m, (valued, is)))
    tokens behind rest (valued_stable context text tokens behind longhands v) (mark_stable context text behind important rest mark)

-- declarations
declaration_stable : (context : Context) (text : List ℕ) (tokens : List CssToken) (decls : List Decl) (rest : List CssToken) → IsDeclaration context text tokens decls rest
    → IsStable (λ x r. IsDeclaration context text x decls r) tokens rest
declaration_stable context text tokens decls rest is =
    stable_as (Marked context text is.longhands is.valued.name is.important) (λ x r. IsDeclaration context text x decls r) tokens rest
    (λ x r begin follow m. record {
      longhands = is.longhands;
      behind = m.0;
      important = is.important;
      valued = m.1.0.0;
      mark = m.1.1;
      ended = alike_so (is_ended context) (λ t l s. refl) rest r follow true is.ended;
      decls_are = is.decls_are ∙ ap (λ (name : CssToken). map (decl_of is.important name.place.from) is.longhands) (sym m.1.0.1);
    })
    (marked_stable context text tokens is.behind rest is.longhands is.important is.valued is.mark)

unit_stable : (context : Context) (text : List ℕ) (tokens : List CssToken) (decls : List Decl) (rest : List CssToken) → IsUnit context text tokens decls rest
    → IsStable (λ x r. IsUnit context text x decls r) tokens rest
unit_stable context text tokens decls rest (semicolon token _ is) = record { front = token ∷ []; split = refl; again = λ others begin. semicolon token others is }
unit_stable context text tokens decls rest (declaration _ _ _ is) =
    stable_as (λ x r. IsDeclaration context text x decls r) (λ x r. IsUnit context text x decls r) tokens rest (λ x r begin follow d. declaration x decls r d)
    (declaration_stable context text tokens decls rest is)

units_stable : (context : Context) (text : List ℕ) (tokens : List CssToken) (units : List (List Decl)) (rest : List CssToken) → AreUnits context text tokens units rest
    → IsStable (λ x r. AreUnits context text x units r) tokens rest
units_stable context text tokens units rest none = record { front = []; split = refl; again = λ others begin. none }
units_stable context text tokens units rest (more before middle unit _ run is) =
    stable_then (λ x m. AreUnits context text x before m) (λ m r. IsUnit context text m unit r) (λ x r. AreUnits context text x (before ++ (unit ∷ [])) r) (λ x m r one two. more before m unit r one two)
    tokens middle rest (units_stable context text tokens before middle run) (unit_stable context text middle unit rest is)

pub declarations_stable : (context : Context) (text : List ℕ) (tokens : List CssToken) (decls : List Decl) (rest : List CssToken) → AreDeclarations context text tokens decls rest
    → IsStable (λ x r. AreDeclarations context text x decls r) tokens rest
declarations_stable context text tokens decls rest are =
    stable_as (λ x r. AreUnits context text x are.units r) (λ x r. AreDeclarations context text x decls r) tokens rest
    (λ x r begin follow units. record {
      units = are.units;
      are_units = units;
      decls_are = are.decls_are;
      closed = alike_so (is_closed context) (λ t l s. refl) rest r follow true are.closed;
    })
    (units_stable context text tokens are.units rest are.are_units)

-- and their faults
not_important_stuck : (context : Context) (text : List ℕ) (end : ℕ) (tokens : List CssToken) (longhands : List Longhand) (bang word : CssToken) (rest : List CssToken)
    → IsValued context text tokens (Ok longhands) (bang ∷ (word ∷ rest)) → is_bang bang.kind ≡ true → is_block context ≡ false → begins_important text (word ∷ rest) ≡ false
    → IsStuck (λ x. DeclarationFault context text end x (BadSheet word.place.from)) tokens word.place.from
not_important_stuck context text end tokens longhands bang word rest v is unblocked not =
    stuck_as (λ x. (more : List CssToken) × Valued context text longhands v.name x (bang ∷ (word ∷ more))) (λ x. DeclarationFault context text end x (BadSheet word.place.from)) tokens word.place.from
    (λ x begin m. not_important x longhands bang (word ∷ m.0) m.1.0 is unblocked not)
    (stuck_next (λ x r. Valued context text longhands v.name x (bang ∷ r)) tokens word rest
    (stable_then (Valued context text longhands v.name) (λ m r. m ≡ bang ∷ r) (λ x r. Valued context text longhands v.name x (bang ∷ r))
    (λ x m r valued same. subst (Valued context text longhands v.name x) same valued) tokens (bang ∷ (word ∷ rest)) (word ∷ rest)
    (valued_stable context text tokens (bang ∷ (word ∷ rest)) longhands v)
    (record { front = bang ∷ []; split = refl; again = λ others begin. refl })))

not_ended_stuck : (context : Context) (text : List ℕ) (end : ℕ) (tokens behind : List CssToken) (longhands : List Longhand) (important : Bool) (token : CssToken) (rest : List CssToken)
    → IsValued context text tokens (Ok longhands) behind → IsMark context text behind important (token ∷ rest) → is_ended context (token ∷ rest) ≡ false
    → IsStuck (λ x. DeclarationFault context text end x (BadSheet token.place.from)) tokens token.place.from
not_ended_stuck context text end tokens behind longhands important token rest v mark not =
    stuck_as (λ x. (more : List CssToken) × Marked context text longhands v.name important x (token ∷ more)) (λ x. DeclarationFault context text end x (BadSheet token.place.from)) tokens token.place.from
    (λ x begin m. not_ended x m.1.0 longhands important (token ∷ m.0) m.1.1.0.0 m.1.1.1 not)
    (stuck_next (Marked context text longhands v.name important) tokens token rest (marked_stable context text tokens behind (token ∷ rest) longhands important v mark))

fault_sticks : (context : Context) (text : List ℕ) (end : ℕ) (tokens : List CssToken) (fault : SheetFault) → DeclarationFault context text end tokens fault
    → Sticks end (λ f x. DeclarationFault context text end x f) tokens fault
fault_sticks context text end tokens fault (no_name [] is semi unclosed) = inr refl
fault_sticks context text end tokens fault (no_name (token ∷ rest) is semi unclosed) =
    inl (record { front = []; token = token; rest = rest; split = refl; place_is = refl; again = λ more. no_name (token ∷ more) is semi unclosed })
fault_sticks context text end tokens fault (unknown name rest is nowhere) = tt
fault_sticks context text end tokens fault (not_animatable name rest property is some not) = tt
fault_sticks context text end tokens fault (no_colon name [] property is colon) = inr refl
fault_sticks context text end tokens fault (no_colon name (token ∷ rest) property is colon) =
    inl (record { front = name ∷ []; token = token; rest = rest; split = refl; place_is = refl; again = λ more. no_colon name (token ∷ more) property is colon })
fault_sticks context text end tokens fault (bad_value name colon behind rest v) = tt
fault_sticks context text end tokens fault (over_limit name colon behind rest v) = tt
fault_sticks context text end tokens fault (bang_in_block _ longhands bang rest v is block) = tt
fault_sticks context text end tokens fault (not_important _ longhands bang [] v is block not) = inr refl
fault_sticks context text end tokens fault (not_important _ longhands bang (word ∷ rest) v is block not) = inl (not_important_stuck context text end tokens longhands bang word rest v is block not)
fault_sticks context text end tokens fault (not_ended _ behind longhands important [] v mark not) = inr refl
fault_sticks context text end tokens fault (not_ended _ behind longhands important (token ∷ rest) v mark not) =
    inl (not_ended_stuck context text end tokens behind longhands important token rest v mark not)

pub declarations_stick : (context : Context) (text : List ℕ) (end : ℕ) (tokens : List CssToken) (fault : SheetFault) → DeclarationsFault context text end tokens fault
    → Sticks end (λ f x. DeclarationsFault context text end x f) tokens fault
declarations_stick context text end tokens fault first =
    sticks_as end (λ f x. DeclarationFault context text end x f) (λ f x. DeclarationsFault context text end x f) first.rest tokens fault
    (λ f place. stuck_then (λ x m. AreUnits context text x first.units m) (λ m. DeclarationFault context text end m f) (λ x. DeclarationsFault context text end x f)
    (λ x m one two. record { units = first.units; rest = m; before = one; here = two }) tokens first.rest place (units_stable context text tokens first.units first.rest first.before))
    (fault_sticks context text end first.rest fault first.here)
