-- Sheets that are read item by item.
use Rattle.std.proofs.Common.{◌≡◌, ℕ, ◌<◌, ◌≤◌, Bool, true, false, cond, List, [], ◌∷◌, ◌++◌, length, Ok, Err, refl, sym, ap, ◌∙◌, subst, inr, arith}
use Rattle.std.specs.Prelude.{codes, ◌&&◌, ◌==◌}
use Rattle.page_model.specs.declared.place.Place.{Place}
use Rattle.style_tokens.specs.declared.token.CssToken.{CssToken}
use Rattle.style_tokens.specs.CssTokens.{AreTokens}
use Rattle.css_words.specs.Keywords.{is_keyword}
use Rattle.css_declarations.specs.declared.context.Context.TheVariants.{Rule}
use Rattle.css_declarations.specs.declared.fault.SheetFault.{SheetFault}
use Rattle.css_declarations.specs.declared.fault.SheetFault.TheVariants.{BadSheet}
use Rattle.css_declarations.specs.DeclarationFaults.{IsTold}
use Rattle.css_declarations.specs.InlineText.{part_of}
use Rattle.css_declarations.specs.TokenKinds.{begins, is_ident, token_text}
use Rattle.css_parts.specs.KeyframeGrammar.{Blocks, head_at, is_at_word, may_name, name_at}
use Rattle.css_selectors.specs.Readings.{Read, Exactly, Declares, IsPut}
use Rattle.css_selectors.specs.Readings.Then.{broken, later, whole}
use Rattle.css_selectors.specs.Readings.Many.{stopped, breaks, more}
use Rattle.css_selectors.specs.SelectorGrammar.{Selector, Selectors}
use Rattle.css_reader.specs.SheetGrammar.{AreKeyframes, IsItem, IsRule, Item, Items, is_end, item_by, sheet_behind, sheet_of, with_item}
use Rattle.css_reader.specs.SheetState.{SheetState, no_rules}
use Rattle.css_reader.specs.SheetText.{IsSheetFault, SpellsSheet}
use Rattle.css_reader.proofs.KeyframeLemmas.{blocks_keep}
use Rattle.css_selectors.proofs.ReadingLemmas.{IsAtMost, Keeps, Leads, listed_keeps, rest_is_less, told_as}
use Rattle.css_reader.proofs.RuleLemmas.{braced_shorter, declares_keeps}
use Rattle.css_selectors.proofs.SelectorLemmas.{selector_keeps}

-- an item takes a token or more
name_keeps : (text : List ℕ) (end : ℕ) (tokens : List CssToken) → IsAtMost tokens (name_at text end tokens)
unfolding name_at
name_keeps text end [] = tt
name_keeps text end (token ∷ rest) = test (is_ident token.kind && may_name (token_text text token)) where
  test : (b : Bool) → IsAtMost (token ∷ rest) (cond b (Ok (token_text text token, rest)) (Err (BadSheet token.place.from)))
  test true = record { front = token ∷ []; split = refl }
  test false = tt

pub head_keeps : (text : List ℕ) (end : ℕ) → Keeps (Exactly (head_at text end))
unfolding head_at
head_keeps text end [] read is = subst (IsAtMost []) (sym is) tt
head_keeps text end (token ∷ rest) read is = subst (IsAtMost (token ∷ rest)) (sym is) (test (is_at_word token.kind && is_keyword (codes "@keyframes") (token_text text token))) where
  named : (found : Read (List ℕ)) → IsAtMost rest found → IsAtMost (token ∷ rest) found
  named (Ok found) less = record { front = token ∷ less.front; split = ap (λ r. token ∷ r) less.split }
  named (Err fault) less = tt

  test : (b : Bool) → IsAtMost (token ∷ rest) (cond b (name_at text end rest) (Err (BadSheet token.place.from)))
  test true = named (name_at text end rest) (name_keeps text end rest)
  test false = tt

pub selectors_keep : (text : List ℕ) (end : ℕ) → Keeps (Selectors text end)
selectors_keep text end = listed_keeps (λ before. Selector text end) (λ before. selector_keeps text end)

rest_in : List CssToken → Read Item → List CssToken
rest_in other (Ok read) = read.1
rest_in other (Err fault) = other

rule_shorter : (text : List ℕ) (end : ℕ) (tokens : List CssToken) (read : Read Item) → IsRule text end tokens read → (found : Item × List CssToken) → read ≡ Ok found → length found.1 < length tokens
unfolding rest_in
rule_shorter text end tokens read (broken fault is) found e = absurd (cc)
rule_shorter text end tokens read (later selectors middle fault is also) found e = absurd (cc)
rule_shorter text end tokens read (whole selectors middle decls rest is also) found e =
    let first : length middle ≤ length tokens = rest_is_less tokens middle (selectors_keep text end tokens (Ok (selectors, middle)) is) in
    let second : length rest < length middle = braced_shorter end (Declares Rule text end) (declares_keeps Rule text end) middle (Ok (decls, rest)) also (decls, rest) refl in
    let l = ap length (ap (rest_in rest) e) in omega arith

set_shorter : (text : List ℕ) (end : ℕ) (tokens : List CssToken) (read : Read Item) → AreKeyframes text end tokens read → (found : Item × List CssToken) → read ≡ Ok found → length found.1 < length tokens
unfolding rest_in
set_shorter text end tokens read (broken fault is) found e = absurd (cc)
set_shorter text end tokens read (later name middle fault is also) found e = absurd (cc)
set_shorter text end tokens read (whole name middle blocks rest is also) found e =
    let first : length middle ≤ length tokens = rest_is_less tokens middle (head_keeps text end tokens (Ok (name, middle)) is) in
    let second : length rest < length middle = braced_shorter end (Blocks text end) (blocks_keep text end) middle (Ok (blocks, rest)) also (blocks, rest) refl in
    let l = ap length (ap (rest_in rest) e) in omega arith

pub item_shorter : (b : Bool) (text : List ℕ) (end : ℕ) (tokens : List CssToken) (found : Item × List CssToken) → item_by b text end tokens (Ok found) → length found.1 < length tokens
item_shorter true text end tokens found is = set_shorter text end tokens (Ok found) is found refl
item_shorter false text end tokens found is = rule_shorter text end tokens (Ok found) is found refl

pub item_leaves : (text : List ℕ) (end : ℕ) (tokens rest : List CssToken) (old new : SheetState) → IsPut with_item (IsItem text end tokens) old new rest → length rest < length tokens
item_leaves text end tokens rest old new put = item_shorter (begins is_at_word tokens) text end tokens (put.item, rest) put.is

-- items so far
pub record AreItems (text : List ℕ) (end : ℕ) (tokens : List CssToken) (sheet : SheetState) (rest : List CssToken) : Type 0 where
  pub items : List Item
  pub leads : Leads (Items text end) [] tokens items rest
  pub sheet_is : sheet ≡ sheet_of items

pub no_items : (text : List ℕ) (end : ℕ) (tokens : List CssToken) (sheet : SheetState) → sheet ≡ no_rules → AreItems text end tokens sheet tokens
no_items text end tokens sheet is = record { items = []; leads = λ outcome reads. reads; sheet_is = is }

sheet_more : (sheet : SheetState) (items : List Item) (item : Item) → sheet_behind sheet (items ++ (item ∷ [])) ≡ with_item (sheet_behind sheet items) item
sheet_more sheet [] item = refl
sheet_more sheet (first ∷ items) item = sheet_more (with_item sheet first) items item

goes_on : (tokens : List CssToken) → (length tokens == 0) ≡ false → is_end tokens ≡ false
goes_on [] is = absurd (cc)
goes_on (token ∷ tokens) is = refl

is_over : (tokens : List CssToken) → (length tokens == 0) ≡ true → tokens ≡ []
is_over [] is = refl
is_over (token ∷ tokens) is = absurd (grind arith)

pub item_put : (text : List ℕ) (end : ℕ) (tokens middle rest : List CssToken) (old new : SheetState) → AreItems text end tokens old middle → (length middle == 0) ≡ false
    → IsPut with_item (IsItem text end middle) old new rest → AreItems text end tokens new rest
item_put text end tokens middle rest old new so on put = record {
  items = so.items ++ (put.item ∷ []);
  leads = λ outcome reads. so.leads outcome (more so.items middle put.item rest outcome (goes_on middle on) put.is reads);
  sheet_is = put.new_is ∙ ap (λ s. with_item s put.item) so.sheet_is ∙ sym (sheet_more no_rules so.items put.item);
}

pub item_broken : (text : List ℕ) (part : Place) (tokens middle : List CssToken) (old : SheetState) (fault : SheetFault) → AreTokens part.to (part_of text part) tokens
    → AreItems text part.to tokens old middle → (length middle == 0) ≡ false → IsTold (λ (f : SheetFault). IsItem text part.to middle (Err f)) fault → IsTold (IsSheetFault text part) fault
item_broken text part tokens middle old fault are so on is =
    told_as (λ (f : SheetFault). IsItem text part.to middle (Err f)) (IsSheetFault text part)
    (λ f told. inr (record { tokens = tokens; are_tokens = are; first = so.leads (Err f) (breaks so.items middle f (goes_on middle on) told) })) fault is

pub items_ended : (text : List ℕ) (part : Place) (tokens rest : List CssToken) (sheet : SheetState) → AreTokens part.to (part_of text part) tokens → AreItems text part.to tokens sheet rest
    → (length rest == 0) ≡ true → SpellsSheet text part sheet
items_ended text part tokens rest sheet are so over = record {
  tokens = tokens;
  are_tokens = are;
  items = so.items;
  are_items = so.leads (Ok (so.items, [])) (subst (λ r. Items text part.to so.items r (Ok (so.items, []))) (sym (is_over rest over)) (stopped so.items [] refl));
  sheet_is = so.sheet_is;
}
