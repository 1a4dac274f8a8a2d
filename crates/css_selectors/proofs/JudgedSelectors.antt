-- Selectors: of all tokens it is said what they begin with, or which fault they have.
use Rattle.std.proofs.Common.{ℕ, List, [], ◌∷◌, Ok, Err}
use Rattle.std.specs.Prelude.{◌&&◌, ◌==◌}
use Rattle.style_tokens.specs.declared.token.CssToken.{CssToken}
use Rattle.css_declarations.specs.declared.fault.SheetFault.TheVariants.{BadSheet}
use Rattle.css_declarations.specs.TokenKinds.{is_ident, token_text}
use Rattle.css_declarations.proofs.ToldUnits.{IsSure, sure_if}
use Rattle.css_selectors.specs.Readings.{Exactly}
use Rattle.css_selectors.specs.SelectorGrammar.{Parts, Selector, Selectors, class, class_at, compound_of, ends_compound, id, id_name, is_dot, is_id, is_tag, part, part_at, tag}
use Rattle.css_selectors.proofs.JudgedReadings.{Judges, exactly_judges, listed_judges, many_judges, seen_judges}
use Rattle.css_selectors.proofs.SelectorLemmas.{part_leaves, selector_keeps}

class_sure : (text : List ℕ) (end : ℕ) (dot : CssToken) (tokens : List CssToken) → IsSure (class_at text end dot tokens)
unfolding class_at
class_sure text end dot [] = tt
class_sure text end dot (name ∷ rest) =
    sure_if (is_ident name.kind && (dot.place.to == name.place.from)) (Ok (part class (token_text text name) name.place.to, rest)) (Err (BadSheet name.place.from)) tt tt

part_sure : (text : List ℕ) (end : ℕ) (tokens : List CssToken) → IsSure (part_at text end tokens)
unfolding part_at
part_sure text end [] = tt
part_sure text end (token ∷ rest) =
    sure_if (is_dot token.kind) (class_at text end token rest) _ (class_sure text end token rest)
    (sure_if (is_id text token) (Ok (part id (id_name text token) token.place.to, rest)) _ tt
    (sure_if (is_tag text token) (Ok (part tag (token_text text token) token.place.to, rest)) (Err (BadSheet token.place.from)) tt tt))

pub selector_judges : (text : List ℕ) (end : ℕ) → Judges (Selector text end)
selector_judges text end =
    seen_judges compound_of (Parts text end [])
    (many_judges (λ before. Exactly (part_at text end)) (ends_compound text) (λ parts tokens one rest on is. part_leaves text end tokens rest one is)
    (λ before. exactly_judges (part_at text end) (part_sure text end)) [])

pub selectors_judge : (text : List ℕ) (end : ℕ) → Judges (Selectors text end)
selectors_judge text end = listed_judges (λ before. Selector text end) (λ before. selector_judges text end) (λ before. selector_keeps text end)
