-- Readings of tokens. A reading says of some tokens what they begin with and what is left behind it, or the first fault of them.
use Rattle.std.specs.Prelude.{ℕ, Bool, true, false, ◌≡◌, not, List, [], ◌∷◌, ◌++◌, Result, Ok, Err, if◌then◌else◌}
use Rattle.style_tokens.specs.declared.token.CssKind.{CssKind}
use Rattle.style_tokens.specs.declared.token.CssKind.TheVariants.{Comma}
use Rattle.style_tokens.specs.declared.token.CssToken.{CssToken}
use Rattle.page_model.specs.declared.rule.Decl.{Decl}
use Rattle.css_declarations.specs.declared.context.Context.{Context}
use Rattle.css_declarations.specs.declared.fault.SheetFault.{SheetFault}
use Rattle.css_declarations.specs.declared.fault.SheetFault.TheVariants.{BadSheet}
use Rattle.css_declarations.specs.DeclarationGrammar.{AreDeclarations}
use Rattle.css_declarations.specs.DeclarationFaults.{DeclarationsFault, IsTold}
use Rattle.css_declarations.specs.TokenKinds.{begins, is_left_brace, is_right_brace}

abbrev pub Read : Type 0 → Type 0
Read A = Result (A × List CssToken) SheetFault

abbrev pub Reading : Type 0 → Type 1
Reading A = List CssToken → Read A → Type 0

-- what a function says
abbrev pub Exactly : {A : Type 0} → (List CssToken → Read A) → Reading A
Exactly read tokens outcome = outcome ≡ read tokens

-- one thing after another; where one of them breaks off, the whole does
pub data Then {A B C : Type 0} (into : A → B → C) (First : List CssToken → Read A → Type 0) (Next : A → List CssToken → Read B → Type 0) (tokens : List CssToken) : Read C → Type 0 where
  broken : (fault : SheetFault) → First tokens (Err fault) → Then into First Next tokens (Err fault)
  later : (a : A) (middle : List CssToken) (fault : SheetFault) → First tokens (Ok (a, middle)) → Next a middle (Err fault) → Then into First Next tokens (Err fault)
  whole : (a : A) (middle : List CssToken) (b : B) (rest : List CssToken) → First tokens (Ok (a, middle)) → Next a middle (Ok (b, rest))
      → Then into First Next tokens (Ok (into a b, rest))

-- units one after the other, with those before them, up to where they stop; what a unit may be, those before it tell
pub data Many {A : Type 0} (Unit : List A → List CssToken → Read A → Type 0) (stops : List A → List CssToken → Bool) : List A → List CssToken → Read (List A) → Type 0 where
  stopped : (units : List A) (tokens : List CssToken) → stops units tokens ≡ true → Many Unit stops units tokens (Ok (units, tokens))
  breaks : (units : List A) (tokens : List CssToken) (fault : SheetFault) → stops units tokens ≡ false → Unit units tokens (Err fault)
      → Many Unit stops units tokens (Err fault)
  more : (units : List A) (tokens : List CssToken) (unit : A) (middle : List CssToken) (outcome : Read (List A)) → stops units tokens ≡ false
      → Unit units tokens (Ok (unit, middle)) → Many Unit stops (units ++ (unit ∷ [])) middle outcome → Many Unit stops units tokens outcome

-- the same, seen as another thing
pub data Seen {A B : Type 0} (as_seen : A → B) (First : List CssToken → Read A → Type 0) (tokens : List CssToken) : Read B → Type 0 where
  unseen : (fault : SheetFault) → First tokens (Err fault) → Seen as_seen First tokens (Err fault)
  seen : (a : A) (rest : List CssToken) → First tokens (Ok (a, rest)) → Seen as_seen First tokens (Ok (as_seen a, rest))

abbrev pub is_comma : CssKind → Bool
is_comma Comma = true
is_comma other = false

-- behind the token at the front
abbrev pub behind_first : List CssToken → List CssToken
behind_first [] = []
behind_first (token ∷ rest) = rest

-- one thing or more, with commas between; what a further one may be, those before it tell
abbrev pub no_comma : {A : Type 0} → List A → List CssToken → Bool
no_comma before tokens = not (begins is_comma tokens)

abbrev pub last : {A B : Type 0} → A → B → B
last first second = second

abbrev pub first : {A B : Type 0} → A → B → A
first one second = one

abbrev pub Listed : {A : Type 0} → (List A → List CssToken → Read A → Type 0) → List CssToken → Read (List A) → Type 0
Listed Item = Then last (Item []) (λ one. Many (λ before tokens. Item before (behind_first tokens)) no_comma (one ∷ []))

-- a token of a kind
unfoldable pub token_at : (CssKind → Bool) → ℕ → List CssToken → Read CssToken
token_at is end [] = Err (BadSheet end)
token_at is end (token ∷ rest) = if is token.kind then Ok (token, rest) else Err (BadSheet token.place.from)

-- something in braces
abbrev pub Braced : {A : Type 0} → ℕ → (List CssToken → Read A → Type 0) → List CssToken → Read A → Type 0
Braced end Inner = Then last (Exactly (token_at is_left_brace end)) (λ brace. Then first Inner (λ inner. Exactly (token_at is_right_brace end)))

-- declarations
abbrev pub Declares : Context → List ℕ → ℕ → List CssToken → Read (List Decl) → Type 0
Declares context text end tokens (Ok read) = AreDeclarations context text tokens read.0 read.1
Declares context text end tokens (Err fault) = DeclarationsFault context text end tokens fault

-- it is put into something
pub record IsPut {A S : Type 0} (with : S → A → S) (Is : Read A → Type 0) (old new : S) (rest : List CssToken) : Type 0 where
  pub item : A
  pub is : Is (Ok (item, rest))
  pub new_is : new ≡ with old item

abbrev pub Puts : {A S : Type 0} → (S → A → S) → (Read A → Type 0) → S → S → Result (List CssToken) SheetFault → Type 0
Puts with Is old new (Ok rest) = IsPut with Is old new rest
Puts with Is old new (Err fault) = IsTold (λ f. Is (Err f)) fault

abbrev pub with_last : {A : Type 0} → List A → A → List A
with_last items item = items ++ (item ∷ [])

-- it is all that there is
abbrev pub Fills : {A : Type 0} → (Read A → Type 0) → A → Result (List CssToken) SheetFault → Type 0
Fills Is new (Ok rest) = Is (Ok (new, rest))
Fills Is new (Err fault) = IsTold (λ f. Is (Err f)) fault
