-- Things in braces, and rules.
use Rattle.std.proofs.Common.{refl, ◌≡◌, ℕ, ◌<◌, ◌≤◌, Bool, true, false, cond, List, [], ◌∷◌, ◌++◌, length, Ok, Err, sym, ap, ◌∙◌, subst, arith}
use Rattle.page_model.specs.declared.rule.Compound.{Compound}
use Rattle.page_model.specs.declared.rule.Decl.{Decl}
use Rattle.style_tokens.specs.declared.token.CssToken.{CssToken}
use Rattle.css_declarations.specs.declared.context.Context.{Context}
use Rattle.css_declarations.specs.declared.context.Context.TheVariants.{Rule}
use Rattle.style_tokens.specs.declared.token.CssKind.{CssKind}
use Rattle.css_declarations.specs.declared.fault.SheetFault.{SheetFault}
use Rattle.css_declarations.specs.declared.fault.SheetFault.TheVariants.{BadSheet}
use Rattle.css_declarations.specs.DeclarationFaults.{AreAdded, IsTold}
use Rattle.css_declarations.specs.TokenKinds.{is_left_brace, is_right_brace}
use Rattle.css_selectors.specs.Readings.{Read, Exactly, Then, Braced, Declares, token_at}
use Rattle.css_selectors.specs.Readings.Then.{broken, later, whole}
use Rattle.css_selectors.specs.SelectorGrammar.{Selectors}
use Rattle.css_reader.specs.SheetGrammar.{IsRule, rule_of}
use Rattle.css_declarations.proofs.PlaceLemmas.{declarations_placed}
use Rattle.css_selectors.proofs.ReadingLemmas.{IsAtMost, Keeps, rest_is_less, then_keeps, told_as, told_if}

-- braces
pub not_opened : {A : Type 0} (end : ℕ) (Inner : List CssToken → Read A → Type 0) (tokens : List CssToken) (fault : SheetFault) → Err fault ≡ token_at is_left_brace end tokens
    → IsTold (λ (f : SheetFault). Braced end Inner tokens (Err f)) fault
not_opened end Inner tokens fault is = told_if (λ (f : SheetFault). Braced end Inner tokens (Err f)) fault (broken fault is)

pub inner_broken : {A : Type 0} (end : ℕ) (Inner : List CssToken → Read A → Type 0) (tokens middle : List CssToken) (brace : CssToken) → Ok (brace, middle) ≡ token_at is_left_brace end tokens
    → (fault : SheetFault) → IsTold (λ (f : SheetFault). Inner middle (Err f)) fault → IsTold (λ (f : SheetFault). Braced end Inner tokens (Err f)) fault
inner_broken end Inner tokens middle brace opened fault is =
    told_as (λ (f : SheetFault). Inner middle (Err f)) (λ (f : SheetFault). Braced end Inner tokens (Err f)) (λ f told. later brace middle f opened (broken f told)) fault is

pub not_closed : {A : Type 0} (end : ℕ) (Inner : List CssToken → Read A → Type 0) (tokens middle rest : List CssToken) (brace : CssToken) (inner : A) → Ok (brace, middle) ≡ token_at is_left_brace end tokens
    → Inner middle (Ok (inner, rest)) → (fault : SheetFault) → Err fault ≡ token_at is_right_brace end rest → IsTold (λ (f : SheetFault). Braced end Inner tokens (Err f)) fault
not_closed end Inner tokens middle rest brace inner opened is fault closed =
    told_if (λ (f : SheetFault). Braced end Inner tokens (Err f)) fault (later brace middle fault opened (later inner rest fault is closed))

pub in_braces : {A : Type 0} (end : ℕ) (Inner : List CssToken → Read A → Type 0) (tokens middle rest behind : List CssToken) (brace close : CssToken) (inner : A)
    → Ok (brace, middle) ≡ token_at is_left_brace end tokens → Inner middle (Ok (inner, rest)) → Ok (close, behind) ≡ token_at is_right_brace end rest
    → Braced end Inner tokens (Ok (inner, behind))
in_braces end Inner tokens middle rest behind brace close inner opened is closed = whole brace middle inner behind opened (whole inner rest close behind is closed)

rest_in : {A : Type 0} → List CssToken → Read A → List CssToken
rest_in other (Ok read) = read.1
rest_in other (Err fault) = other

token_shorter : (is : CssKind → Bool) (end : ℕ) (tokens : List CssToken) (token : CssToken) (rest : List CssToken) → Ok (token, rest) ≡ token_at is end tokens → length rest < length tokens
unfolding token_at rest_in
token_shorter is end [] token rest e = absurd (cc)
token_shorter is end (one ∷ tokens) token rest e = test (is one.kind) e where
  test : (b : Bool) → ◌≡◌ {A = Read CssToken} (Ok (token, rest)) (cond b (Ok (one, tokens)) (Err (BadSheet one.place.from))) → length rest < length (one ∷ tokens)
  test true same = let l = ap length (ap (rest_in []) same) in omega arith
  test false same = absurd (cc)

pub token_keeps : (is : CssKind → Bool) (end : ℕ) → Keeps (Exactly (token_at is end))
unfolding token_at
token_keeps is end [] read e = subst (IsAtMost []) (sym e) tt
token_keeps is end (token ∷ rest) read e = subst (IsAtMost (token ∷ rest)) (sym e) (test (is token.kind)) where
  test : (b : Bool) → IsAtMost (token ∷ rest) (cond b (Ok (token, rest)) (Err (BadSheet token.place.from)))
  test true = record { front = token ∷ []; split = refl }
  test false = tt

pub braced_keeps : {A : Type 0} (end : ℕ) (Inner : List CssToken → Read A → Type 0) → Keeps Inner → Keeps (Braced end Inner)
braced_keeps {A} end Inner keeps =
    then_keeps (λ (brace : CssToken) (inner : A). inner) (Exactly (token_at is_left_brace end)) (λ brace. Then (λ (inner : A) (close : CssToken). inner) Inner (λ inner. Exactly (token_at is_right_brace end)))
    (token_keeps is_left_brace end)
    (λ brace. then_keeps (λ (inner : A) (close : CssToken). inner) Inner (λ inner. Exactly (token_at is_right_brace end)) keeps (λ inner. token_keeps is_right_brace end))

-- what stands in braces leaves less
pub braced_shorter : {A : Type 0} (end : ℕ) (Inner : List CssToken → Read A → Type 0) → Keeps Inner → (tokens : List CssToken) (read : Read A) → Braced end Inner tokens read
    → (found : A × List CssToken) → read ≡ Ok found → length found.1 < length tokens
unfolding rest_in
braced_shorter end Inner keeps tokens read (broken fault is) found e = absurd (cc)
braced_shorter end Inner keeps tokens read (later brace middle fault is also) found e = absurd (cc)
braced_shorter {A} end Inner keeps tokens read (whole brace middle inner rest is also) found e =
    let first : length middle < length tokens = token_shorter is_left_brace end tokens brace middle is in
    let second : length rest ≤ length middle = rest_is_less middle rest
    (then_keeps (λ (inner : A) (close : CssToken). inner) Inner (λ inner. Exactly (token_at is_right_brace end)) keeps (λ inner. token_keeps is_right_brace end) middle (Ok (inner, rest)) also) in
    let same : rest ≡ found.1 = ap (rest_in rest) e in let l = ap length same in omega arith

pub declares_keeps : (context : Context) (text : List ℕ) (end : ℕ) → Keeps (Declares context text end)
declares_keeps context text end tokens (Ok read) are = (declarations_placed context text tokens read.0 read.1 are).rest_is
declares_keeps context text end tokens (Err fault) is = tt

-- declarations that are all that there are
pub are_all : (context : Context) (text : List ℕ) (end : ℕ) (tokens rest : List CssToken) (old new : List Decl) → old ≡ [] → AreAdded context text tokens old new rest
    → Declares context text end tokens (Ok (new, rest))
are_all context text end tokens rest old new empty added =
    subst (λ d. Declares context text end tokens (Ok (d, rest))) (sym (added.new_is ∙ ap (λ o. o ++ added.decls) empty)) added.are

-- rules
pub no_selectors : (text : List ℕ) (end : ℕ) (tokens : List CssToken) (fault : SheetFault) → IsTold (λ (f : SheetFault). Selectors text end tokens (Err f)) fault
    → IsTold (λ (f : SheetFault). IsRule text end tokens (Err f)) fault
no_selectors text end tokens fault is =
    told_as (λ (f : SheetFault). Selectors text end tokens (Err f)) (λ (f : SheetFault). IsRule text end tokens (Err f)) (λ f told. broken f told) fault is

pub no_body : (text : List ℕ) (end : ℕ) (tokens middle : List CssToken) (selectors : List Compound) → Selectors text end tokens (Ok (selectors, middle)) → (fault : SheetFault)
    → IsTold (λ (f : SheetFault). Braced end (Declares Rule text end) middle (Err f)) fault → IsTold (λ (f : SheetFault). IsRule text end tokens (Err f)) fault
no_body text end tokens middle selectors are fault is =
    told_as (λ (f : SheetFault). Braced end (Declares Rule text end) middle (Err f)) (λ (f : SheetFault). IsRule text end tokens (Err f)) (λ f told. later selectors middle f are told) fault is

pub is_rule : (text : List ℕ) (end : ℕ) (tokens middle rest : List CssToken) (selectors : List Compound) (decls : List Decl) → Selectors text end tokens (Ok (selectors, middle))
    → Braced end (Declares Rule text end) middle (Ok (decls, rest)) → IsRule text end tokens (Ok (rule_of selectors decls, rest))
is_rule text end tokens middle rest selectors decls are body = whole selectors middle decls rest are body
