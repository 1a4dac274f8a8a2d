-- Selectors look ahead by one token.
use Rattle.std.proofs.Common.{◌≡◌, ℕ, Bool, true, false, cond, List, [], ◌∷◌, Option, Some, None, Result, Ok, Err, refl, sym, ap}
use Rattle.std.specs.Prelude.{◌&&◌, ◌==◌}
use Rattle.style_tokens.specs.declared.token.CssToken.{CssToken}
use Rattle.css_declarations.specs.declared.fault.SheetFault.{SheetFault}
use Rattle.css_declarations.specs.declared.fault.SheetFault.TheVariants.{BadSheet}
use Rattle.css_declarations.specs.TokenKinds.{is_ident, token_text}
use Rattle.css_declarations.proofs.StuckTokens.{AreAlike}
use Rattle.css_declarations.proofs.StuckUnits.{alike_so}
use Rattle.css_selectors.specs.Readings.{Exactly}
use Rattle.css_selectors.specs.SelectorGrammar.{Part, Parts, Selector, Selectors, class, class_at, compound_of, ends_behind, ends_compound, id, id_name, is_dot, is_id, is_tag, last_end, part, part_at, tag}
use Rattle.css_selectors.proofs.StuckReadings.{LooksAhead, listed_looks, many_look, seen_looks, units_look}
use Rattle.css_selectors.proofs.StuckFronts.{IsPlaced, next_looks, placed_if, rest_if, told_looks, with_rest}

class_looks : (text : List ℕ) (end : ℕ) (dot : CssToken) → LooksAhead end (Exactly (class_at text end dot))
unfolding class_at
class_looks text end dot =
    told_looks end (class_at text end dot)
    (λ name. cond (is_ident name.kind && (dot.place.to == name.place.from)) (Ok (part class (token_text text name) name.place.to)) (Err (BadSheet name.place.from))) refl
    (λ name more. sym (rest_if more (is_ident name.kind && (dot.place.to == name.place.from)) (Ok (part class (token_text text name) name.place.to)) (Err (BadSheet name.place.from))))
    (λ name. placed_if name (is_ident name.kind && (dot.place.to == name.place.from)) (Ok (part class (token_text text name) name.place.to)) (Err (BadSheet name.place.from)) tt refl)

plain_part : List ℕ → CssToken → Result Part SheetFault
plain_part text token =
    cond (is_id text token) (Ok (part id (id_name text token) token.place.to)) (cond (is_tag text token) (Ok (part tag (token_text text token) token.place.to)) (Err (BadSheet token.place.from)))

plain_with : (text : List ℕ) (token : CssToken) (more : List CssToken)
    → with_rest more (plain_part text token)
    ≡ cond (is_id text token) (Ok (part id (id_name text token) token.place.to, more)) (cond (is_tag text token) (Ok (part tag (token_text text token) token.place.to, more)) (Err (BadSheet token.place.from)))
unfolding plain_part
plain_with text token more = by_tests (is_id text token) (is_tag text token) where
  by_tests : (a b : Bool)
      → with_rest more (cond a (Ok (part id (id_name text token) token.place.to)) (cond b (Ok (part tag (token_text text token) token.place.to)) (Err (BadSheet token.place.from))))
      ≡ cond a (Ok (part id (id_name text token) token.place.to, more)) (cond b (Ok (part tag (token_text text token) token.place.to, more)) (Err (BadSheet token.place.from)))
  by_tests true b = refl
  by_tests false true = refl
  by_tests false false = refl

plain_placed : (text : List ℕ) (token : CssToken) → IsPlaced token (plain_part text token)
unfolding plain_part
plain_placed text token = placed_if token (is_id text token) (Ok (part id (id_name text token) token.place.to)) _ tt
    (placed_if token (is_tag text token) (Ok (part tag (token_text text token) token.place.to)) (Err (BadSheet token.place.from)) tt refl)

part_looks : (text : List ℕ) (end : ℕ) → LooksAhead end (Exactly (part_at text end))
unfolding part_at
part_looks text end =
    next_looks end (part_at text end) (λ token. is_dot token.kind) (class_at text end) (plain_part text) refl
    (λ token more. ap (λ r. cond (is_dot token.kind) (class_at text end token more) r) (sym (plain_with text token more))) (plain_placed text) (class_looks text end)

ends_ahead : (text : List ℕ) (parts : List Part) (tokens others : List CssToken) → AreAlike tokens others → ends_compound text parts others ≡ ends_compound text parts tokens
ends_ahead text parts tokens others begin = alike_so (ends_compound text parts) (λ t l r. by_end (last_end parts) t l r) tokens others begin (ends_compound text parts tokens) refl where
  by_end : (at_end : Option ℕ) (t : CssToken) (l r : List CssToken) → ends_behind text at_end (t ∷ l) ≡ ends_behind text at_end (t ∷ r)
  by_end None t l r = refl
  by_end (Some to) t l r = refl

pub selector_looks : (text : List ℕ) (end : ℕ) → LooksAhead end (Selector text end)
selector_looks text end =
    seen_looks end compound_of (Parts text end [])
    (many_look end (λ before. Exactly (part_at text end)) (ends_compound text)
    (units_look end (λ before. Exactly (part_at text end)) (ends_compound text) (λ parts tokens others begin. ends_ahead text parts tokens others begin) (λ before. part_looks text end)) [])

pub selectors_look : (text : List ℕ) (end : ℕ) → LooksAhead end (Selectors text end)
selectors_look text end = listed_looks end (λ before. Selector text end) (λ before. selector_looks text end)
