-- The rules of a sheet are as the cascade needs them: good values, and declarations that stand one behind the other.
use Rattle.std.proofs.Common.{◌≡◌, ℕ, zero, suc, ◌<◌, ◌≤◌, Bool, true, false, List, [], ◌∷◌, ◌++◌, length, map, Option, Some, None, Result, Ok, Err, refl, sym, ap, ◌∙◌, subst, arith, append_assoc, append-nil}
use Rattle.std.specs.Prelude.{All, slice_get}
use Rattle.std.specs.List.{AllByRecursion as Each}
use Rattle.std.proofs.lemmas.List.Elements.{All-from_recursion}
use Rattle.page_model.specs.declared.keyframe.KeyframeSet.{KeyframeSet}
use Rattle.page_model.specs.declared.rule.Decl.{Decl}
use Rattle.page_model.specs.declared.rule.Rule.{Rule as StyleRule}
use Rattle.style_tokens.specs.declared.token.CssToken.{CssToken}
use Rattle.css_declarations.specs.declared.context.Context.{Context}
use Rattle.css_declarations.specs.declared.context.Context.TheVariants.{Rule}
use Rattle.css_declarations.specs.ReadyDecls.{AreApart, AreReadyDecls, IsReadyDecl}
use Rattle.css_declarations.specs.TokenKinds.{begins, is_left_brace, is_right_brace}
use Rattle.css_declarations.proofs.PairLemmas.{Pairs, each_append, each_as, each_at, each_back, each_front, pairs_at, pairs_back, pairs_cross, pairs_front}
use Rattle.css_declarations.proofs.PlaceLemmas.{ArePlaced, IsRest, Rising, are_ready, declarations_placed, none_placed, placed_then, rest_rest}
use Rattle.css_parts.specs.KeyframeGrammar.{Blocks, head_at, is_at_word}
use Rattle.css_selectors.specs.Readings.{Read, Exactly, Then, Braced, Declares, token_at}
use Rattle.css_selectors.specs.Readings.Then.{broken, later, whole}
use Rattle.css_selectors.specs.Readings.Many.{stopped, breaks, more}
use Rattle.css_reader.specs.ReadySheet.{AreReadyRules}
use Rattle.css_reader.specs.SheetGrammar.{AreKeyframes, IsItem, IsRule, Item, Items, item_by, keyframes, rule, sheet_behind, sheet_of, with_item}
use Rattle.css_reader.specs.SheetState.{SheetState, no_rules, set_named, with_set, with_set_at}
use Rattle.css_reader.proofs.KeyframeLemmas.{blocks_keep}
use Rattle.css_reader.proofs.RuleLemmas.{braced_keeps, declares_keeps, token_keeps}
use Rattle.css_reader.proofs.SheetReading.{head_keeps, selectors_keep}

-- the declarations of an item, and of items
abbrev pub decls_in : Item → List Decl
decls_in (rule one) = one.decls
decls_in (keyframes name set) = []

abbrev pub all_decls : List Item → List Decl
all_decls [] = []
all_decls (item ∷ items) = decls_in item ++ all_decls items

abbrev PlacedRead : List CssToken → Read (List Decl) → Type 0
PlacedRead tokens (Ok read) = ArePlaced tokens read.1 read.0
PlacedRead tokens (Err fault) = Unit {0}

closed_placed : (context : Context) (text : List ℕ) (end : ℕ) (tokens : List CssToken) (read : Read (List Decl))
    → Then (λ (inner : List Decl) (close : CssToken). inner) (Declares context text end) (λ inner. Exactly (token_at is_right_brace end)) tokens read → PlacedRead tokens read
closed_placed context text end tokens read (broken fault is) = tt
closed_placed context text end tokens read (later decls middle fault is also) = tt
closed_placed context text end tokens read (whole decls middle close rest is closes) =
    subst (ArePlaced tokens rest) (append-nil decls)
    (placed_then tokens middle rest decls [] (declarations_placed context text tokens decls middle is) (none_placed middle rest (token_keeps is_right_brace end middle (Ok (close, rest)) closes)))

body_placed : (context : Context) (text : List ℕ) (end : ℕ) (tokens : List CssToken) (read : Read (List Decl)) → Braced end (Declares context text end) tokens read → PlacedRead tokens read
body_placed context text end tokens read (broken fault is) = tt
body_placed context text end tokens read (later brace middle fault is also) = tt
body_placed context text end tokens read (whole brace middle decls rest is inner) =
    placed_then tokens middle rest [] decls (none_placed tokens middle (token_keeps is_left_brace end tokens (Ok (brace, middle)) is)) (closed_placed context text end middle (Ok (decls, rest)) inner)

-- the declarations of a block are in their limits
pub body_values : (context : Context) (text : List ℕ) (end : ℕ) (tokens rest : List CssToken) (decls : List Decl) → Braced end (Declares context text end) tokens (Ok (decls, rest)) → Each IsReadyDecl decls
body_values context text end tokens rest decls is = (body_placed context text end tokens (Ok (decls, rest)) is).values

abbrev PlacedItem : List CssToken → Read Item → Type 0
PlacedItem tokens (Ok read) = ArePlaced tokens read.1 (decls_in read.0)
PlacedItem tokens (Err fault) = Unit {0}

rule_placed : (text : List ℕ) (end : ℕ) (tokens : List CssToken) (read : Read Item) → IsRule text end tokens read → PlacedItem tokens read
rule_placed text end tokens read (broken fault is) = tt
rule_placed text end tokens read (later selectors middle fault is also) = tt
rule_placed text end tokens read (whole selectors middle decls rest is body) =
    placed_then tokens middle rest [] decls (none_placed tokens middle (selectors_keep text end tokens (Ok (selectors, middle)) is)) (body_placed Rule text end middle (Ok (decls, rest)) body)

set_placed : (text : List ℕ) (end : ℕ) (tokens : List CssToken) (read : Read Item) → AreKeyframes text end tokens read → PlacedItem tokens read
set_placed text end tokens read (broken fault is) = tt
set_placed text end tokens read (later name middle fault is also) = tt
set_placed text end tokens read (whole name middle blocks rest is body) =
    none_placed tokens rest (rest_rest tokens middle rest (head_keeps text end tokens (Ok (name, middle)) is) (braced_keeps end (Blocks text end) (blocks_keep text end) middle (Ok (blocks, rest)) body))

item_placed : (b : Bool) (text : List ℕ) (end : ℕ) (tokens : List CssToken) (read : Read Item) → item_by b text end tokens read → PlacedItem tokens read
item_placed true text end tokens read is = set_placed text end tokens read is
item_placed false text end tokens read is = rule_placed text end tokens read is

-- the items behind some stand in order
pub record AreItemsPlaced (before : List Item) (tokens : List CssToken) (items : List Item) : Type 0 where
  pub added : List Item
  pub items_are : items ≡ before ++ added
  pub rest : List CssToken
  pub placed : ArePlaced tokens rest (all_decls added)

abbrev PlacedItems : List Item → List CssToken → Read (List Item) → Type 0
PlacedItems before tokens (Ok read) = AreItemsPlaced before tokens read.0
PlacedItems before tokens (Err fault) = Unit {0}

with_one : (before : List Item) (tokens middle : List CssToken) (item : Item) (read : Read (List Item)) → ArePlaced tokens middle (decls_in item) → PlacedItems (before ++ (item ∷ [])) middle read
    → PlacedItems before tokens read
with_one before tokens middle item (Ok read) here there = record {
  added = item ∷ there.added;
  items_are = there.items_are ∙ append_assoc before (item ∷ []) there.added;
  rest = there.rest;
  placed = placed_then tokens middle there.rest (decls_in item) (all_decls there.added) here there.placed;
}
with_one before tokens middle item (Err fault) here there = tt

pub items_placed : (text : List ℕ) (end : ℕ) (before : List Item) (tokens : List CssToken) (read : Read (List Item)) → Items text end before tokens read → PlacedItems before tokens read
items_placed text end before tokens read (stopped _ _ off) =
    record { added = []; items_are = sym (append-nil before); rest = tokens; placed = none_placed tokens tokens (record { front = []; split = refl }) }
items_placed text end before tokens read (breaks _ _ fault on is) = tt
items_placed text end before tokens read (more _ _ item middle _ on is reads) =
    with_one before tokens middle item read (item_placed (begins is_at_word tokens) text end tokens (Ok (item, middle)) is) (items_placed text end (before ++ (item ∷ [])) middle read reads)

-- the rules of items
abbrev pub rules_in : List Item → List StyleRule
rules_in [] = []
rules_in (rule one ∷ items) = one ∷ rules_in items
rules_in (keyframes name set ∷ items) = rules_in items

abbrev pub rule_decls : List StyleRule → List Decl
rule_decls [] = []
rule_decls (one ∷ rules) = one.decls ++ rule_decls rules

same_decls : (items : List Item) → rule_decls (rules_in items) ≡ all_decls items
same_decls [] = refl
same_decls (rule one ∷ items) = ap (λ d. one.decls ++ d) (same_decls items)
same_decls (keyframes name set ∷ items) = same_decls items

set_at_rules : (sheet : SheetState) (name : List ℕ) (set : KeyframeSet) (number : Option ℕ) → (with_set_at sheet name set number).rules ≡ sheet.rules
set_at_rules sheet name set (Some number) = refl
set_at_rules sheet name set None = refl

pub sheet_rules : (sheet : SheetState) (items : List Item) → (sheet_behind sheet items).rules ≡ sheet.rules ++ rules_in items
sheet_rules sheet [] = sym (append-nil sheet.rules)
sheet_rules sheet (rule one ∷ items) = sheet_rules (with_item sheet (rule one)) items ∙ append_assoc sheet.rules (one ∷ []) (rules_in items)
sheet_rules sheet (keyframes name set ∷ items) =
    sheet_rules (with_item sheet (keyframes name set)) items ∙ ap (λ r. r ++ rules_in items) (set_at_rules sheet name set (set_named sheet name))

-- rules whose declarations stand apart
abbrev Cross : StyleRule → StyleRule → Type 0
Cross one other = Each (λ (d : Decl). Each (AreApart d) other.decls) one.decls

each_ready : (rules : List StyleRule) → Each IsReadyDecl (rule_decls rules) → Pairs AreApart (rule_decls rules) → Each (λ (one : StyleRule). AreReadyDecls one.decls) rules
each_ready [] values apart = tt
each_ready (one ∷ rules) values apart = (
  are_ready one.decls (each_front IsReadyDecl one.decls (rule_decls rules) values) (pairs_front AreApart one.decls (rule_decls rules) apart),
  each_ready rules (each_back IsReadyDecl one.decls (rule_decls rules) values) (pairs_back AreApart one.decls (rule_decls rules) apart),
)

cross_each : (one : StyleRule) (rules : List StyleRule) → Each (λ (d : Decl). Each (AreApart d) (rule_decls rules)) one.decls → Each (Cross one) rules
cross_each one [] cross = tt
cross_each one (other ∷ rules) cross = (
  each_as (λ (d : Decl). Each (AreApart d) (other.decls ++ rule_decls rules)) (λ (d : Decl). Each (AreApart d) other.decls) (λ d e. each_front (AreApart d) other.decls (rule_decls rules) e) one.decls cross,
  cross_each one rules
      (each_as (λ (d : Decl). Each (AreApart d) (other.decls ++ rule_decls rules)) (λ (d : Decl). Each (AreApart d) (rule_decls rules)) (λ d e. each_back (AreApart d) other.decls (rule_decls rules) e) one.decls cross),
)

cross_pairs : (rules : List StyleRule) → Pairs AreApart (rule_decls rules) → Pairs Cross rules
cross_pairs [] apart = tt
cross_pairs (one ∷ rules) apart =
    (cross_each one rules (pairs_cross AreApart one.decls (rule_decls rules) apart), cross_pairs rules (pairs_back AreApart one.decls (rule_decls rules) apart))

pub rules_ready : (rules : List StyleRule) → Each IsReadyDecl (rule_decls rules) → Pairs AreApart (rule_decls rules) → AreReadyRules rules
rules_ready rules values apart = record {
  decls = All-from_recursion (λ (one : StyleRule). AreReadyDecls one.decls) rules (each_ready rules values apart);
  apart = λ i j one other m n first second less is also at_first at_second.
      each_at (AreApart first) other.decls (each_at (λ (d : Decl). Each (AreApart d) other.decls) one.decls (pairs_at Cross rules (cross_pairs rules apart) i j one other less is also) m first at_first) n second at_second;
}

-- the rules of a sheet of items that were read
pub items_ready : (text : List ℕ) (end : ℕ) (tokens rest : List CssToken) (items : List Item) → Items text end [] tokens (Ok (items, rest)) → Rising tokens → AreReadyRules (sheet_of items).rules
items_ready text end tokens rest items are rising =
    let found = items_placed text end [] tokens (Ok (items, rest)) are in
    let decls : all_decls found.added ≡ rule_decls (rules_in items) = ap all_decls (sym found.items_are) ∙ sym (same_decls items) in
    subst AreReadyRules (sym (sheet_rules no_rules items))
    (rules_ready (rules_in items) (subst (Each IsReadyDecl) decls found.placed.values) (subst (Pairs AreApart) decls (found.placed.apart rising)))
