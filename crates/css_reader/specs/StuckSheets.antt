-- Where no sheet goes on.
use Rattle.std.specs.Prelude.{ℕ, ◌≡◌, List, [], ◌∷◌, ◌++◌, Ok, Err}
use Rattle.style_tokens.specs.declared.token.CssToken.{CssToken}
use Rattle.css_declarations.specs.declared.fault.SheetFault.TheVariants.{BadSheet}
use Rattle.css_reader.specs.SheetGrammar.{Item, Items}

-- with the token at this place no sheet begins: whatever follows it, this fault is the first one, and no items are spelled
pub record IsStuckAt (text : List ℕ) (end : ℕ) (tokens : List CssToken) (place : ℕ) : Type 0 where
  pub front : List CssToken
  pub token : CssToken
  pub rest : List CssToken
  pub split : tokens ≡ front ++ token ∷ rest
  pub place_is : token.place.from ≡ place
  pub told : (more : List CssToken) → Items text end [] (front ++ token ∷ more) (Err (BadSheet place))
  pub none : (more : List CssToken) (items : List Item) → Items text end [] (front ++ token ∷ more) (Ok (items, [])) → ⊥
