-- The tokens of a value, and those behind them.
use Rattle.std.proofs.Common.{◌≡◌, Bool, true, false, cond, not, List, [], ◌∷◌, ◌++◌, take, drop, refl, ap, arith}
use Rattle.std.specs.Prelude.{◌&&◌}
use Rattle.std.specs.List.{list_all}
use Rattle.style_tokens.specs.declared.token.CssToken.{CssToken}
use Rattle.css_declarations.specs.DeclarationGrammar.{ends_value, is_in_value, stops_value}
use Rattle.css_declarations.specs.DeclarationReading.{value_length, value_front, value_rest}

pub take_value : (tokens : List CssToken) → take (value_length tokens) tokens ≡ value_front tokens
take_value [] = refl
take_value (token ∷ rest) = grind (arith, take_value rest)

pub drop_value : (tokens : List CssToken) → drop (value_length tokens) tokens ≡ value_rest tokens
drop_value [] = refl
drop_value (token ∷ rest) = grind (arith, drop_value rest)

-- they are all, up to one that ends a value
pub value_split : (tokens : List CssToken) → tokens ≡ value_front tokens ++ value_rest tokens
value_split [] = refl
value_split (token ∷ rest) = test (ends_value token.kind) (value_split rest) where
  test : (b : Bool) → rest ≡ value_front rest ++ value_rest rest → token ∷ rest ≡ (cond b [] (token ∷ value_front rest)) ++ (cond b (token ∷ rest) (value_rest rest))
  test true inner = refl
  test false inner = ap (λ r. token ∷ r) inner

pub value_in_front : (tokens : List CssToken) → list_all is_in_value (value_front tokens) ≡ true
value_in_front [] = refl
value_in_front (token ∷ rest) = test (ends_value token.kind) refl (value_in_front rest) where
  test : (b : Bool) → ends_value token.kind ≡ b → list_all is_in_value (value_front rest) ≡ true → list_all is_in_value (cond b [] (token ∷ value_front rest)) ≡ true
  test true is inner = refl
  test false is inner = rw (is, inner) refl

pub value_stops : (tokens : List CssToken) → stops_value (value_rest tokens) ≡ true
value_stops [] = refl
value_stops (token ∷ rest) = test (ends_value token.kind) refl (value_stops rest) where
  test : (b : Bool) → ends_value token.kind ≡ b → stops_value (value_rest rest) ≡ true → stops_value (cond b (token ∷ rest) (value_rest rest)) ≡ true
  test true is inner = is
  test false is inner = inner

-- and are read again
pub front_again : (value rest : List CssToken) → list_all is_in_value value ≡ true → stops_value rest ≡ true → value_front (value ++ rest) ≡ value
front_again [] [] all stops = refl
front_again [] (token ∷ rest) all stops = rw stops refl
front_again (token ∷ value) rest all stops = test (ends_value token.kind) all (λ h. front_again value rest h stops) where
  test : (b : Bool) → (not b && list_all is_in_value value) ≡ true → (list_all is_in_value value ≡ true → value_front (value ++ rest) ≡ value)
      → cond b [] (token ∷ value_front (value ++ rest)) ≡ token ∷ value
  test true h inner = absurd (cc)
  test false h inner = ap (λ r. token ∷ r) (inner h)

pub rest_again : (value rest : List CssToken) → list_all is_in_value value ≡ true → stops_value rest ≡ true → value_rest (value ++ rest) ≡ rest
rest_again [] [] all stops = refl
rest_again [] (token ∷ rest) all stops = rw stops refl
rest_again (token ∷ value) rest all stops = test (ends_value token.kind) all (λ h. rest_again value rest h stops) where
  test : (b : Bool) → (not b && list_all is_in_value value) ≡ true → (list_all is_in_value value ≡ true → value_rest (value ++ rest) ≡ rest)
      → cond b (token ∷ (value ++ rest)) (value_rest (value ++ rest)) ≡ rest
  test true h inner = absurd (cc)
  test false h inner = inner h
