-- What is read with one look ahead: the tokens before a place tell what stands there, whatever follows.
use Rattle.std.proofs.Common.{◌≡◌, ◌⊎◌, ℕ, List, [], ◌∷◌, ◌++◌, refl, sym, ap, ◌∙◌, subst, inl, inr, append_assoc}
use Rattle.style_tokens.specs.declared.token.CssToken.{CssToken}
use Rattle.css_declarations.specs.declared.fault.SheetFault.{SheetFault}
use Rattle.css_declarations.specs.declared.fault.SheetFault.TheVariants.{BadSheet, UnknownProperty, BadValue, BadKeyframes, OverLimit, NoMemory}

-- two texts begin with one token
pub record AreAlike (tokens others : List CssToken) : Type 0 where
  pub head : CssToken
  pub left : List CssToken
  pub right : List CssToken
  pub first : tokens ≡ head ∷ left
  pub second : others ≡ head ∷ right

pub alike : (token : CssToken) (left right : List CssToken) → AreAlike (token ∷ left) (token ∷ right)
alike token left right = record { head = token; left = left; right = right; first = refl; second = refl }

pub alike_behind : (front rest others : List CssToken) → AreAlike rest others → AreAlike (front ++ rest) (front ++ others)
alike_behind [] rest others is = is
alike_behind (token ∷ front) rest others is = alike token (front ++ rest) (front ++ others)

-- what holds of tokens and of what is left of them holds too where other tokens are left, if they begin alike
pub record IsStable (P : List CssToken → List CssToken → Type 0) (tokens rest : List CssToken) : Type 0 where
  pub front : List CssToken
  pub split : tokens ≡ front ++ rest
  pub again : (others : List CssToken) → AreAlike rest others → P (front ++ others) others

-- what holds of tokens is told by those up to the one at this place
pub record IsStuck (P : List CssToken → Type 0) (tokens : List CssToken) (place : ℕ) : Type 0 where
  pub front : List CssToken
  pub token : CssToken
  pub rest : List CssToken
  pub split : tokens ≡ front ++ token ∷ rest
  pub place_is : token.place.from ≡ place
  pub again : (more : List CssToken) → P (front ++ token ∷ more)

pub stable_alike : (P : List CssToken → List CssToken → Type 0) (tokens rest others : List CssToken) (is : IsStable P tokens rest) → AreAlike rest others → AreAlike tokens (is.front ++ others)
stable_alike P tokens rest others is begin = subst (λ t. AreAlike t (is.front ++ others)) (sym is.split) (alike_behind is.front rest others begin)

pub stuck_alike : (P : List CssToken → Type 0) (tokens : List CssToken) (place : ℕ) (is : IsStuck P tokens place) (more : List CssToken) → AreAlike tokens (is.front ++ is.token ∷ more)
stuck_alike P tokens place is more =
    subst (λ t. AreAlike t (is.front ++ is.token ∷ more)) (sym is.split) (alike_behind is.front (is.token ∷ is.rest) (is.token ∷ more) (alike is.token is.rest more))

pub stable_as : (P Q : List CssToken → List CssToken → Type 0) (tokens rest : List CssToken) → ((x r : List CssToken) → AreAlike tokens x → AreAlike rest r → P x r → Q x r) → IsStable P tokens rest → IsStable Q tokens rest
stable_as P Q tokens rest into is = record {
  front = is.front;
  split = is.split;
  again = λ others begin. into (is.front ++ others) others (stable_alike P tokens rest others is begin) begin (is.again others begin);
}

pub stuck_as : (P Q : List CssToken → Type 0) (tokens : List CssToken) (place : ℕ) → ((x : List CssToken) → AreAlike tokens x → P x → Q x) → IsStuck P tokens place → IsStuck Q tokens place
stuck_as P Q tokens place into is = record {
  front = is.front;
  token = is.token;
  rest = is.rest;
  split = is.split;
  place_is = is.place_is;
  again = λ more. into (is.front ++ is.token ∷ more) (stuck_alike P tokens place is more) (is.again more);
}

-- one after another
pub stable_then : (P R Q : List CssToken → List CssToken → Type 0) → ((x m r : List CssToken) → P x m → R m r → Q x r) → (tokens middle rest : List CssToken) → IsStable P tokens middle → IsStable R middle rest
    → IsStable Q tokens rest
stable_then P R Q both tokens middle rest first second = record {
  front = first.front ++ second.front;
  split = first.split ∙ ap (λ m. first.front ++ m) second.split ∙ sym (append_assoc first.front second.front rest);
  again = λ others begin.
      subst (λ x. Q x others) (sym (append_assoc first.front second.front others))
      (both (first.front ++ (second.front ++ others)) (second.front ++ others) others (first.again (second.front ++ others) (stable_alike R middle rest others second begin)) (second.again others begin));
}

pub stuck_then : (P : List CssToken → List CssToken → Type 0) (R Q : List CssToken → Type 0) → ((x m : List CssToken) → P x m → R m → Q x) → (tokens middle : List CssToken) (place : ℕ)
    → IsStable P tokens middle → IsStuck R middle place → IsStuck Q tokens place
stuck_then P R Q both tokens middle place first second = record {
  front = first.front ++ second.front;
  token = second.token;
  rest = second.rest;
  split = first.split ∙ ap (λ m. first.front ++ m) second.split ∙ sym (append_assoc first.front second.front (second.token ∷ second.rest));
  place_is = second.place_is;
  again = λ more.
      subst Q (sym (append_assoc first.front second.front (second.token ∷ more)))
      (both (first.front ++ (second.front ++ second.token ∷ more)) (second.front ++ second.token ∷ more)
      (first.again (second.front ++ second.token ∷ more) (stuck_alike R middle place second more)) (second.again more));
}

-- with the next token, what is stable is told by the tokens up to it
pub stuck_next : (P : List CssToken → List CssToken → Type 0) (tokens : List CssToken) (token : CssToken) (rest : List CssToken) → IsStable P tokens (token ∷ rest)
    → IsStuck (λ x. (more : List CssToken) × P x (token ∷ more)) tokens token.place.from
stuck_next P tokens token rest is = record {
  front = is.front;
  token = token;
  rest = rest;
  split = is.split;
  place_is = refl;
  again = λ more. (more, is.again (token ∷ more) (alike token rest more));
}

-- a `BadSheet` is told by the tokens up to its place, or stands at the end; nothing is said of other faults
abbrev pub Sticks : ℕ → (SheetFault → List CssToken → Type 0) → List CssToken → SheetFault → Type 0
Sticks end P tokens (BadSheet place) = IsStuck (P (BadSheet place)) tokens place ⊎ (place ≡ end)
Sticks end P tokens (UnknownProperty place) = Unit {0}
Sticks end P tokens (BadValue place) = Unit {0}
Sticks end P tokens (BadKeyframes place) = Unit {0}
Sticks end P tokens (OverLimit place) = Unit {0}
Sticks end P tokens NoMemory = Unit {0}

pub sticks_as : (end : ℕ) (P Q : SheetFault → List CssToken → Type 0) (tokens others : List CssToken) (fault : SheetFault)
    → ((f : SheetFault) (place : ℕ) → IsStuck (P f) tokens place → IsStuck (Q f) others place) → Sticks end P tokens fault → Sticks end Q others fault
sticks_as end P Q tokens others (BadSheet place) into (inl stuck) = inl (into (BadSheet place) place stuck)
sticks_as end P Q tokens others (BadSheet place) into (inr ends) = inr ends
sticks_as end P Q tokens others (UnknownProperty place) into is = tt
sticks_as end P Q tokens others (BadValue place) into is = tt
sticks_as end P Q tokens others (BadKeyframes place) into is = tt
sticks_as end P Q tokens others (OverLimit place) into is = tt
sticks_as end P Q tokens others NoMemory into is = tt
