-- Units one after the other at the front of a text. What a unit may be is told by the units before it and by the tokens from there on.
use Rattle.std.specs.Prelude.{List, [], ◌∷◌, ◌++◌}
use Rattle.style_tokens.specs.declared.token.CssToken.{CssToken}

-- the tokens begin with these units, and leave the rest
pub data Run {A : Type 0} (Is : List A → List CssToken → A → List CssToken → Type 0) (tokens : List CssToken) : List A → List CssToken → Type 0 where
  none : Run Is tokens [] tokens
  more : (units : List A) (middle : List CssToken) (unit : A) (rest : List CssToken) → Run Is tokens units middle → Is units middle unit rest
      → Run Is tokens (units ++ (unit ∷ [])) rest
