-- Functions of the tokens at the front look ahead by one token.
use Rattle.std.proofs.Common.{◌≡◌, ℕ, Bool, true, false, cond, List, [], ◌∷◌, ◌++◌, Result, Ok, Err, refl, sym, ap, ◌∙◌, subst, inl, inr}
use Rattle.style_tokens.specs.declared.token.CssToken.{CssToken}
use Rattle.css_declarations.specs.declared.fault.SheetFault.{SheetFault}
use Rattle.css_declarations.specs.declared.fault.SheetFault.TheVariants.{BadSheet, UnknownProperty, BadValue, BadKeyframes, OverLimit, NoMemory}
use Rattle.css_declarations.specs.DeclarationReading.{shown}
use Rattle.css_selectors.specs.Readings.{Read, Exactly}
use Rattle.css_selectors.proofs.StuckReadings.{LooksAhead, StableRead, StuckRead, prefix_stuck}

-- a function, by what it says of each list of tokens
pub exactly_looks : {A : Type 0} (end : ℕ) (found : List CssToken → Read A) → ((tokens : List CssToken) → StableRead (Exactly found) tokens (found tokens))
    → ((tokens : List CssToken) → StuckRead end (Exactly found) tokens (found tokens)) → LooksAhead end (Exactly found)
exactly_looks end found stable stuck = record {
  stable = λ tokens read is. subst (StableRead (Exactly found) tokens) (sym is) (stable tokens);
  stuck = λ tokens read is. subst (StuckRead end (Exactly found) tokens) (sym is) (stuck tokens);
}

-- where it goes on behind a token as another one
pub behind_stable : {A : Type 0} (found next : List CssToken → Read A) (token : CssToken) (rest : List CssToken) → ((more : List CssToken) → found (token ∷ more) ≡ next more) → (read : Read A)
    → StableRead (Exactly next) rest read → StableRead (Exactly found) (token ∷ rest) read
behind_stable found next token rest same (Err fault) is = tt
behind_stable found next token rest same (Ok read) is = record {
  front = token ∷ is.front;
  split = ap (λ r. token ∷ r) is.split;
  again = λ others begin. is.again others begin ∙ sym (same (is.front ++ others));
}

pub behind_stuck : {A : Type 0} (end : ℕ) (found next : List CssToken → Read A) (token : CssToken) (rest : List CssToken) → ((more : List CssToken) → found (token ∷ more) ≡ next more) → (read : Read A)
    → StuckRead end (Exactly next) rest read → StuckRead end (Exactly found) (token ∷ rest) read
behind_stuck end found next token rest same (Ok read) is = tt
behind_stuck {A} end found next token rest same (Err fault) is =
    prefix_stuck end (λ (f : SheetFault) (x : List CssToken). Exactly next x (Err f)) (λ (f : SheetFault) (x : List CssToken). Exactly found x (Err f)) token rest fault (λ f x one. one ∙ sym (same x)) is

-- where one token tells all
abbrev pub IsPlaced : {A : Type 0} → CssToken → Result A SheetFault → Type 0
IsPlaced token (Ok value) = Unit {0}
IsPlaced token (Err (BadSheet place)) = token.place.from ≡ place
IsPlaced token (Err (UnknownProperty place)) = Unit {0}
IsPlaced token (Err (BadValue place)) = Unit {0}
IsPlaced token (Err (BadKeyframes place)) = Unit {0}
IsPlaced token (Err (OverLimit place)) = Unit {0}
IsPlaced token (Err NoMemory) = Unit {0}

abbrev pub with_rest : {A : Type 0} → List CssToken → Result A SheetFault → Read A
with_rest rest answer = shown (λ value. (value, rest)) answer

pub told_stable : {A : Type 0} (found : List CssToken → Read A) (token : CssToken) (rest : List CssToken) (answer : Result A SheetFault)
    → ((more : List CssToken) → found (token ∷ more) ≡ with_rest more answer) → StableRead (Exactly found) (token ∷ rest) (with_rest rest answer)
told_stable found token rest (Err fault) same = tt
told_stable found token rest (Ok value) same = record { front = token ∷ []; split = refl; again = λ others begin. sym (same others) }

pub told_stuck : {A : Type 0} (end : ℕ) (found : List CssToken → Read A) (token : CssToken) (rest : List CssToken) (answer : Result A SheetFault) → IsPlaced token answer
    → ((more : List CssToken) → found (token ∷ more) ≡ with_rest more answer) → StuckRead end (Exactly found) (token ∷ rest) (with_rest rest answer)
told_stuck end found token rest (Ok value) placed same = tt
told_stuck end found token rest (Err (BadSheet place)) placed same =
    inl (record { front = []; token = token; rest = rest; split = refl; place_is = placed; again = λ more. sym (same more) })
told_stuck end found token rest (Err (UnknownProperty place)) placed same = tt
told_stuck end found token rest (Err (BadValue place)) placed same = tt
told_stuck end found token rest (Err (BadKeyframes place)) placed same = tt
told_stuck end found token rest (Err (OverLimit place)) placed same = tt
told_stuck end found token rest (Err NoMemory) placed same = tt

pub told_looks : {A : Type 0} (end : ℕ) (found : List CssToken → Read A) (answer : CssToken → Result A SheetFault) → found [] ≡ Err (BadSheet end)
    → ((token : CssToken) (more : List CssToken) → found (token ∷ more) ≡ with_rest more (answer token)) → ((token : CssToken) → IsPlaced token (answer token)) → LooksAhead end (Exactly found)
told_looks {A} end found answer ends same placed = exactly_looks end found stable stuck where
  stable : (tokens : List CssToken) → StableRead (Exactly found) tokens (found tokens)
  stable [] = subst (StableRead (Exactly found) []) (sym ends) tt
  stable (token ∷ rest) = subst (StableRead (Exactly found) (token ∷ rest)) (sym (same token rest)) (told_stable found token rest (answer token) (same token))

  stuck : (tokens : List CssToken) → StuckRead end (Exactly found) tokens (found tokens)
  stuck [] = subst (StuckRead end (Exactly found) []) (sym ends) (inr refl)
  stuck (token ∷ rest) = subst (StuckRead end (Exactly found) (token ∷ rest)) (sym (same token rest)) (told_stuck end found token rest (answer token) (placed token) (same token))

-- two tokens: behind one that passes a test another function goes on
pub next_looks : {A : Type 0} (end : ℕ) (found : List CssToken → Read A) (passes : CssToken → Bool) (next : CssToken → List CssToken → Read A) (answer : CssToken → Result A SheetFault)
    → found [] ≡ Err (BadSheet end)
    → ((token : CssToken) (more : List CssToken) → found (token ∷ more) ≡ cond (passes token) (next token more) (with_rest more (answer token)))
    → ((token : CssToken) → IsPlaced token (answer token)) → ((token : CssToken) → LooksAhead end (Exactly (next token))) → LooksAhead end (Exactly found)
next_looks {A} end found passes next answer ends same placed look = exactly_looks end found stable stuck where
  by_test : (token : CssToken) (b : Bool) → passes token ≡ b → (more : List CssToken) → found (token ∷ more) ≡ cond b (next token more) (with_rest more (answer token))
  by_test token b e more = same token more ∙ ap (λ t. cond t (next token more) (with_rest more (answer token))) e

  stable_by : (token : CssToken) (rest : List CssToken) (b : Bool) → passes token ≡ b → StableRead (Exactly found) (token ∷ rest) (found (token ∷ rest))
  stable_by token rest true e =
      subst (StableRead (Exactly found) (token ∷ rest)) (sym (by_test token true e rest))
      (behind_stable found (next token) token rest (by_test token true e) (next token rest) ((look token).stable rest (next token rest) refl))
  stable_by token rest false e = subst (StableRead (Exactly found) (token ∷ rest)) (sym (by_test token false e rest)) (told_stable found token rest (answer token) (by_test token false e))

  stuck_by : (token : CssToken) (rest : List CssToken) (b : Bool) → passes token ≡ b → StuckRead end (Exactly found) (token ∷ rest) (found (token ∷ rest))
  stuck_by token rest true e =
      subst (StuckRead end (Exactly found) (token ∷ rest)) (sym (by_test token true e rest))
      (behind_stuck end found (next token) token rest (by_test token true e) (next token rest) ((look token).stuck rest (next token rest) refl))
  stuck_by token rest false e =
      subst (StuckRead end (Exactly found) (token ∷ rest)) (sym (by_test token false e rest)) (told_stuck end found token rest (answer token) (placed token) (by_test token false e))

  stable : (tokens : List CssToken) → StableRead (Exactly found) tokens (found tokens)
  stable [] = subst (StableRead (Exactly found) []) (sym ends) tt
  stable (token ∷ rest) = stable_by token rest (passes token) refl

  stuck : (tokens : List CssToken) → StuckRead end (Exactly found) tokens (found tokens)
  stuck [] = subst (StuckRead end (Exactly found) []) (sym ends) (inr refl)
  stuck (token ∷ rest) = stuck_by token rest (passes token) refl

pub rest_if : {A : Type 0} (rest : List CssToken) (b : Bool) (p q : Result A SheetFault) → with_rest rest (cond b p q) ≡ cond b (with_rest rest p) (with_rest rest q)
rest_if rest true p q = refl
rest_if rest false p q = refl

pub placed_if : {A : Type 0} (token : CssToken) (b : Bool) (p q : Result A SheetFault) → IsPlaced token p → IsPlaced token q → IsPlaced token (cond b p q)
placed_if token true p q first second = first
placed_if token false p q first second = second
