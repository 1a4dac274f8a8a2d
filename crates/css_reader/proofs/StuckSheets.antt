-- A `BadSheet` is told by the tokens up to its place, so with them no sheet begins.
use Rattle.std.proofs.Common.{◌≡◌, ◌⊎◌, ℕ, Bool, true, false, cond, List, [], ◌∷◌, ◌++◌, Result, Ok, Err, refl, sym, ap, ◌∙◌, subst, inl, inr}
use Rattle.std.specs.Prelude.{codes, ◌&&◌}
use Rattle.page_model.specs.declared.rule.Decl.{Decl}
use Rattle.style_tokens.specs.declared.token.CssKind.{CssKind}
use Rattle.style_tokens.specs.declared.token.CssToken.{CssToken}
use Rattle.css_words.specs.Keywords.{is_keyword}
use Rattle.css_declarations.specs.declared.context.Context.{Context}
use Rattle.css_declarations.specs.declared.context.Context.TheVariants.{Block, Rule}
use Rattle.css_declarations.specs.declared.fault.SheetFault.{SheetFault}
use Rattle.css_declarations.specs.declared.fault.SheetFault.TheVariants.{BadSheet}
use Rattle.css_declarations.specs.TokenKinds.{begins, is_ident, is_left_brace, is_right_brace, token_text}
use Rattle.css_declarations.proofs.StuckTokens.{AreAlike, IsStuck, stable_as, stuck_as, sticks_as}
use Rattle.css_declarations.proofs.StuckUnits.{alike_so, declarations_stable, declarations_stick}
use Rattle.css_parts.specs.KeyframeGrammar.{Blocks, FrameBlock, Offsets, OneBlock, are_closed, block_of, given_in, head_at, is_at_word, may_name, name_at}
use Rattle.css_selectors.specs.Readings.{Read, Exactly, Then, Braced, Declares, token_at}
use Rattle.css_selectors.specs.SelectorGrammar.{Selectors}
use Rattle.css_parts.proofs.StuckOffsets.{offsets_look}
use Rattle.css_selectors.proofs.StuckFronts.{next_looks, placed_if, rest_if, told_looks}
use Rattle.css_selectors.proofs.StuckSelectors.{selectors_look}
use Rattle.css_selectors.proofs.StuckReadings.{LooksAhead, StableRead, StuckRead, many_look, then_looks, units_look}
use Rattle.css_reader.specs.SheetGrammar.{AreKeyframes, IsItem, IsRule, Item, Items, is_end, is_end_behind, item_by, keyframes_of, rule_of}
use Rattle.css_reader.specs.StuckSheets.{IsStuckAt}
use Rattle.css_reader.proofs.OneReading.{items_one}

-- things in braces
token_looks : (is : CssKind → Bool) (end : ℕ) → LooksAhead end (Exactly (token_at is end))
unfolding token_at
token_looks is end =
    told_looks end (token_at is end) (λ token. cond (is token.kind) (Ok token) (Err (BadSheet token.place.from))) refl
    (λ token more. sym (rest_if more (is token.kind) (Ok token) (Err (BadSheet token.place.from))))
    (λ token. placed_if token (is token.kind) (Ok token) (Err (BadSheet token.place.from)) tt refl)

braced_looks : {A : Type 0} (end : ℕ) (Inner : List CssToken → Read A → Type 0) → LooksAhead end Inner → LooksAhead end (Braced end Inner)
braced_looks {A} end Inner look =
    then_looks end (λ (brace : CssToken) (inner : A). inner) (Exactly (token_at is_left_brace end)) (λ brace. Then (λ (inner : A) (close : CssToken). inner) Inner (λ inner. Exactly (token_at is_right_brace end)))
    (token_looks is_left_brace end)
    (λ brace. then_looks end (λ (inner : A) (close : CssToken). inner) Inner (λ inner. Exactly (token_at is_right_brace end)) look (λ inner. token_looks is_right_brace end))

declares_stable : (context : Context) (text : List ℕ) (end : ℕ) (tokens : List CssToken) (read : Read (List Decl)) → Declares context text end tokens read → StableRead (Declares context text end) tokens read
declares_stable context text end tokens (Ok read) are = declarations_stable context text tokens read.0 read.1 are
declares_stable context text end tokens (Err fault) first = tt

declares_stuck : (context : Context) (text : List ℕ) (end : ℕ) (tokens : List CssToken) (read : Read (List Decl)) → Declares context text end tokens read → StuckRead end (Declares context text end) tokens read
declares_stuck context text end tokens (Ok read) are = tt
declares_stuck context text end tokens (Err fault) first = declarations_stick context text end tokens fault first

declares_look : (context : Context) (text : List ℕ) (end : ℕ) → LooksAhead end (Declares context text end)
declares_look context text end = record { stable = declares_stable context text end; stuck = declares_stuck context text end }

-- rules
rule_looks : (text : List ℕ) (end : ℕ) → LooksAhead end (IsRule text end)
rule_looks text end =
    then_looks end rule_of (Selectors text end) (λ selectors. Braced end (Declares Rule text end)) (selectors_look text end)
    (λ selectors. braced_looks end (Declares Rule text end) (declares_look Rule text end))

-- keyframe sets
block_looks : (text : List ℕ) (end : ℕ) (given : List ℕ) → LooksAhead end (OneBlock text end given)
block_looks text end given =
    then_looks end block_of (Offsets text end given) (λ offsets. Braced end (Declares Block text end)) (offsets_look text end given)
    (λ offsets. braced_looks end (Declares Block text end) (declares_look Block text end))

blocks_look : (text : List ℕ) (end : ℕ) → LooksAhead end (Blocks text end)
blocks_look text end =
    many_look end (λ before. OneBlock text end (given_in before)) are_closed
    (units_look end (λ before. OneBlock text end (given_in before)) are_closed
    (λ units tokens others begin. alike_so (begins is_right_brace) (λ t l r. refl) tokens others begin (begins is_right_brace tokens) refl)
    (λ before. block_looks text end (given_in before))) []

name_looks : (text : List ℕ) (end : ℕ) → LooksAhead end (Exactly (name_at text end))
unfolding name_at
name_looks text end =
    told_looks end (name_at text end) (λ token. cond (is_ident token.kind && may_name (token_text text token)) (Ok (token_text text token)) (Err (BadSheet token.place.from))) refl
    (λ token more. sym (rest_if more (is_ident token.kind && may_name (token_text text token)) (Ok (token_text text token)) (Err (BadSheet token.place.from))))
    (λ token. placed_if token (is_ident token.kind && may_name (token_text text token)) (Ok (token_text text token)) (Err (BadSheet token.place.from)) tt refl)

head_looks : (text : List ℕ) (end : ℕ) → LooksAhead end (Exactly (head_at text end))
unfolding head_at
head_looks text end =
    next_looks end (head_at text end) (λ token. is_at_word token.kind && is_keyword (codes "@keyframes") (token_text text token)) (λ token. name_at text end) (λ token. Err (BadSheet token.place.from)) refl
    (λ token more. refl) (λ token. refl) (λ token. name_looks text end)

keyframes_look : (text : List ℕ) (end : ℕ) → LooksAhead end (AreKeyframes text end)
keyframes_look text end =
    then_looks end keyframes_of (Exactly (head_at text end)) (λ name. Braced end (Blocks text end)) (head_looks text end) (λ name. braced_looks end (Blocks text end) (blocks_look text end))

-- items
by_looks : (b : Bool) (text : List ℕ) (end : ℕ) → LooksAhead end (item_by b text end)
by_looks true text end = keyframes_look text end
by_looks false text end = rule_looks text end

at_word_so : (tokens others : List CssToken) → AreAlike tokens others → begins is_at_word others ≡ begins is_at_word tokens
at_word_so tokens others begin = alike_so (begins is_at_word) (λ t l r. refl) tokens others begin (begins is_at_word tokens) refl

item_stable : (text : List ℕ) (end : ℕ) (tokens : List CssToken) (read : Read Item) → StableRead (item_by (begins is_at_word tokens) text end) tokens read → StableRead (IsItem text end) tokens read
item_stable text end tokens (Err fault) is = tt
item_stable text end tokens (Ok read) is =
    stable_as (λ x r. item_by (begins is_at_word tokens) text end x (Ok (read.0, r))) (λ x r. IsItem text end x (Ok (read.0, r))) tokens read.1
    (λ x r begin follow one. subst (λ b. item_by b text end x (Ok (read.0, r))) (sym (at_word_so tokens x begin)) one) is

item_stuck : (text : List ℕ) (end : ℕ) (tokens : List CssToken) (read : Read Item) → StuckRead end (item_by (begins is_at_word tokens) text end) tokens read → StuckRead end (IsItem text end) tokens read
item_stuck text end tokens (Ok read) is = tt
item_stuck text end tokens (Err fault) is =
    sticks_as end (λ f x. item_by (begins is_at_word tokens) text end x (Err f)) (λ f x. IsItem text end x (Err f)) tokens tokens fault
    (λ f place. stuck_as (λ x. item_by (begins is_at_word tokens) text end x (Err f)) (λ x. IsItem text end x (Err f)) tokens place
    (λ x begin one. subst (λ b. item_by b text end x (Err f)) (sym (at_word_so tokens x begin)) one))
    is

item_looks : (text : List ℕ) (end : ℕ) → LooksAhead end (IsItem text end)
item_looks text end = record {
  stable = λ tokens read is. item_stable text end tokens read ((by_looks (begins is_at_word tokens) text end).stable tokens read is);
  stuck = λ tokens read is. item_stuck text end tokens read ((by_looks (begins is_at_word tokens) text end).stuck tokens read is);
}

items_look : (text : List ℕ) (end : ℕ) → LooksAhead end (Items text end [])
items_look text end =
    many_look end (λ before. IsItem text end) is_end_behind
    (units_look end (λ before. IsItem text end) is_end_behind (λ units tokens others begin. alike_so is_end (λ t l r. refl) tokens others begin (is_end tokens) refl) (λ before. item_looks text end)) []

-- no sheet begins so
none_begins : (text : List ℕ) (end : ℕ) (tokens : List CssToken) (place : ℕ) → IsStuck (λ x. Items text end [] x (Err (BadSheet place))) tokens place → IsStuckAt text end tokens place
none_begins text end tokens place is = record {
  front = is.front;
  token = is.token;
  rest = is.rest;
  split = is.split;
  place_is = is.place_is;
  told = is.again;
  none = λ more items are. let e = items_one text end (is.front ++ is.token ∷ more) (Ok (items, [])) (Err (BadSheet place)) are (is.again more) in cc;
}

pub bad_is_stuck : (text : List ℕ) (end : ℕ) (tokens : List CssToken) (place : ℕ) → Items text end [] tokens (Err (BadSheet place)) → IsStuckAt text end tokens place ⊎ (place ≡ end)
bad_is_stuck text end tokens place is = elim ((items_look text end).stuck tokens (Err (BadSheet place)) is) [ inl stuck ↦ inl (none_begins text end tokens place stuck) | inr ends ↦ inr ends ]
