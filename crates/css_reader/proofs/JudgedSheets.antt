-- Every text spells a sheet or has a first fault: its items are gone through as far as they go.
use Rattle.std.proofs.Common.{◌≡◌, ℕ, ◌<◌, ◌≤◌, Bool, true, false, cond, List, [], ◌∷◌, ◌++◌, length, Result, Ok, Err, refl, ap, subst, inl, inr, arith}
use Rattle.std.specs.Prelude.{codes, ◌&&◌}
use Rattle.page_model.specs.declared.place.Place.{Place}
use Rattle.page_model.specs.declared.rule.Decl.{Decl}
use Rattle.style_tokens.specs.declared.token.CssKind.{CssKind}
use Rattle.style_tokens.specs.declared.token.CssToken.{CssToken}
use Rattle.style_tokens.specs.CssTokens.{AreTokens}
use Rattle.style_tokens.proofs.CssJudged.{IsScanned, text_scanned}
use Rattle.css_words.specs.Keywords.{is_keyword}
use Rattle.css_declarations.specs.declared.context.Context.{Context}
use Rattle.css_declarations.specs.declared.context.Context.TheVariants.{Block, Rule}
use Rattle.css_declarations.specs.declared.fault.SheetFault.{SheetFault}
use Rattle.css_declarations.specs.declared.fault.SheetFault.TheVariants.{BadSheet, UnknownProperty, BadValue, BadKeyframes, OverLimit, NoMemory}
use Rattle.css_declarations.specs.InlineText.{part_of}
use Rattle.css_declarations.specs.TokenKinds.{begins, is_ident, is_left_brace, is_right_brace, token_text}
use Rattle.css_declarations.proofs.JudgedLists.{AreJudged, declarations_judged}
use Rattle.css_declarations.proofs.ToldUnits.{IsSure, no_memory_told, sure_if}
use Rattle.css_parts.specs.KeyframeGrammar.{Blocks, FrameBlock, Offsets, OneBlock, are_closed, block_of, given_in, head_at, is_at_word, may_name, name_at, offset_at}
use Rattle.css_selectors.specs.Readings.{Read, Exactly, Then, Braced, Declares, token_at}
use Rattle.css_selectors.specs.Readings.Then.{broken, later, whole}
use Rattle.css_selectors.specs.SelectorGrammar.{Selectors}
use Rattle.css_parts.proofs.JudgedOffsets.{offsets_judge}
use Rattle.css_selectors.proofs.JudgedSelectors.{selectors_judge}
use Rattle.css_selectors.proofs.JudgedReadings.{Judges, exactly_judges, many_end, many_judges, then_judges}
use Rattle.css_parts.proofs.OffsetLemmas.{offset_keeps}
use Rattle.css_selectors.proofs.ReadingLemmas.{listed_keeps, rest_is_less}
use Rattle.css_reader.specs.SheetGrammar.{AreKeyframes, IsItem, IsRule, Item, Items, is_end, is_end_behind, item_by, keyframes_of, rule_of, sheet_of}
use Rattle.css_reader.specs.SheetState.{SheetState}
use Rattle.css_reader.specs.SheetText.{IsSheet, IsSheetFault}
use Rattle.css_reader.proofs.RuleLemmas.{braced_shorter, declares_keeps}
use Rattle.css_reader.proofs.SheetReading.{item_shorter}

-- things in braces
token_sure : (is : CssKind → Bool) (end : ℕ) (tokens : List CssToken) → IsSure (token_at is end tokens)
unfolding token_at
token_sure is end [] = tt
token_sure is end (token ∷ rest) = sure_if (is token.kind) (Ok (token, rest)) (Err (BadSheet token.place.from)) tt tt

braced_judges : {A : Type 0} (end : ℕ) (Inner : List CssToken → Read A → Type 0) → Judges Inner → Judges (Braced end Inner)
braced_judges {A} end Inner judges =
    then_judges (λ (brace : CssToken) (inner : A). inner) (Exactly (token_at is_left_brace end)) (λ brace. Then (λ (inner : A) (close : CssToken). inner) Inner (λ inner. Exactly (token_at is_right_brace end)))
    (exactly_judges (token_at is_left_brace end) (token_sure is_left_brace end))
    (λ brace. then_judges (λ (inner : A) (close : CssToken). inner) Inner (λ inner. Exactly (token_at is_right_brace end)) judges
    (λ inner. exactly_judges (token_at is_right_brace end) (token_sure is_right_brace end)))

sure_unless : (A : Type 0) (fault : SheetFault) → (fault ≡ NoMemory → ⊥) → IsSure {A = A} (Err fault)
sure_unless A NoMemory other = other refl
sure_unless A (BadSheet place) other = tt
sure_unless A (UnknownProperty place) other = tt
sure_unless A (BadValue place) other = tt
sure_unless A (BadKeyframes place) other = tt
sure_unless A (OverLimit place) other = tt

declares_of : (context : Context) (text : List ℕ) (end : ℕ) (tokens : List CssToken) (read : Read (List Decl)) → AreJudged context text end tokens read → Declares context text end tokens read
declares_of context text end tokens (Ok read) are = are
declares_of context text end tokens (Err fault) first = first

declares_sure : (context : Context) (text : List ℕ) (end : ℕ) (tokens : List CssToken) (read : Read (List Decl)) → Declares context text end tokens read → IsSure read
declares_sure context text end tokens (Ok read) are = tt
declares_sure context text end tokens (Err fault) first = sure_unless (List Decl × List CssToken) fault (no_memory_told context text end tokens fault first)

declares_judges : (context : Context) (text : List ℕ) (end : ℕ) → Judges (Declares context text end)
declares_judges context text end = record {
  says = λ tokens. let outcome = declarations_judged context text end tokens in (outcome.0, declares_of context text end tokens outcome.0 outcome.1);
  sure = declares_sure context text end;
}

-- rules
rule_judges : (text : List ℕ) (end : ℕ) → Judges (IsRule text end)
rule_judges text end =
    then_judges rule_of (Selectors text end) (λ selectors. Braced end (Declares Rule text end)) (selectors_judge text end)
    (λ selectors. braced_judges end (Declares Rule text end) (declares_judges Rule text end))

-- keyframe sets
block_judges : (text : List ℕ) (end : ℕ) (given : List ℕ) → Judges (OneBlock text end given)
block_judges text end given =
    then_judges block_of (Offsets text end given) (λ offsets. Braced end (Declares Block text end)) (offsets_judge text end given)
    (λ offsets. braced_judges end (Declares Block text end) (declares_judges Block text end))

rest_in : List CssToken → Read FrameBlock → List CssToken
rest_in other (Ok read) = read.1
rest_in other (Err fault) = other

block_shorter : (text : List ℕ) (end : ℕ) (given : List ℕ) (tokens : List CssToken) (read : Read FrameBlock) → OneBlock text end given tokens read → (block : FrameBlock) (rest : List CssToken)
    → read ≡ Ok (block, rest) → length rest < length tokens
unfolding rest_in
block_shorter text end given tokens read (broken fault is) block rest e = absurd (cc)
block_shorter text end given tokens read (later offsets middle fault is also) block rest e = absurd (cc)
block_shorter text end given tokens read (whole offsets middle decls left is also) block rest e =
    let first : length middle ≤ length tokens =
    rest_is_less tokens middle
    (listed_keeps (λ before. Exactly (offset_at text end (given ++ before))) (λ before. offset_keeps text end (given ++ before)) tokens (Ok (offsets, middle)) is) in
    let second : length left < length middle = braced_shorter end (Declares Block text end) (declares_keeps Block text end) middle (Ok (decls, left)) also (decls, left) refl in
    let l = ap length (ap (rest_in left) e) in omega arith

blocks_judge : (text : List ℕ) (end : ℕ) → Judges (Blocks text end)
blocks_judge text end =
    many_judges (λ before. OneBlock text end (given_in before)) are_closed
    (λ before tokens block rest on is. block_shorter text end (given_in before) tokens (Ok (block, rest)) is block rest refl)
    (λ before. block_judges text end (given_in before)) []

name_sure : (text : List ℕ) (end : ℕ) (tokens : List CssToken) → IsSure (name_at text end tokens)
unfolding name_at
name_sure text end [] = tt
name_sure text end (token ∷ rest) =
    sure_if (is_ident token.kind && may_name (token_text text token)) (Ok (token_text text token, rest)) (Err (BadSheet token.place.from)) tt tt

head_sure : (text : List ℕ) (end : ℕ) (tokens : List CssToken) → IsSure (head_at text end tokens)
unfolding head_at
head_sure text end [] = tt
head_sure text end (token ∷ rest) =
    sure_if (is_at_word token.kind && is_keyword (codes "@keyframes") (token_text text token)) (name_at text end rest) (Err (BadSheet token.place.from)) (name_sure text end rest) tt

keyframes_judge : (text : List ℕ) (end : ℕ) → Judges (AreKeyframes text end)
keyframes_judge text end =
    then_judges keyframes_of (Exactly (head_at text end)) (λ name. Braced end (Blocks text end)) (exactly_judges (head_at text end) (head_sure text end))
    (λ name. braced_judges end (Blocks text end) (blocks_judge text end))

-- items
item_judges : (b : Bool) (text : List ℕ) (end : ℕ) → Judges (item_by b text end)
item_judges true text end = keyframes_judge text end
item_judges false text end = rule_judges text end

is_item_judges : (text : List ℕ) (end : ℕ) → Judges (IsItem text end)
is_item_judges text end = record {
  says = λ tokens. (item_judges (begins is_at_word tokens) text end).says tokens;
  sure = λ tokens. (item_judges (begins is_at_word tokens) text end).sure tokens;
}

items_judge : (text : List ℕ) (end : ℕ) → Judges (Items text end [])
items_judge text end =
    many_judges (λ before. IsItem text end) is_end_behind (λ before tokens item rest on is. item_shorter (begins is_at_word tokens) text end tokens (item, rest) is)
    (λ before. is_item_judges text end) []

-- a sheet
ended : (rest : List CssToken) → is_end rest ≡ true → rest ≡ []
ended [] off = refl
ended (token ∷ rest) off = absurd (cc)

items_judged : (text : List ℕ) (part : Place) (tokens : List CssToken) → AreTokens part.to (part_of text part) tokens → (read : Read (List Item)) → Items text part.to [] tokens read
    → (judged : Result SheetState SheetFault) × IsSheet text part judged
items_judged text part tokens is (Ok (items, rest)) are =
    let e : rest ≡ [] = ended rest (many_end (λ before. IsItem text part.to) is_end_behind [] tokens (Ok (items, rest)) are items rest refl) in (
      Ok (sheet_of items),
      record {
        tokens = tokens;
        are_tokens = is;
        items = items;
        are_items = subst (λ r. Items text part.to [] tokens (Ok (items, r))) e are;
        sheet_is = refl;
      },
    )
items_judged text part tokens is (Err fault) first = (Err fault, inr (record { tokens = tokens; are_tokens = is; first = first }))

scan_judged : (text : List ℕ) (part : Place) → IsScanned part.to (part_of text part) → (judged : Result SheetState SheetFault) × IsSheet text part judged
scan_judged text part (inl scan) = let read = (items_judge text part.to).says scan.0 in items_judged text part scan.0 scan.1 read.0 read.1
scan_judged text part (inr bad) = (Err (BadSheet bad.0), inl (record { place = bad.0; bad = bad.1; fault_is = refl }))

pub sheet_judged : (text : List ℕ) (part : Place) → (judged : Result SheetState SheetFault) × IsSheet text part judged
sheet_judged text part = scan_judged text part (text_scanned part.to (part_of text part))

-- want of memory is no fault of a text
no_memory : (text : List ℕ) (part : Place) → IsSheetFault text part NoMemory → ⊥
no_memory text part (inl bad) = let e = bad.fault_is in cc
no_memory text part (inr first) = (items_judge text part.to).sure first.tokens (Err NoMemory) first.first

pub sheet_never_memory : (text : List ℕ) (part : Place) → IsSheet text part (Err NoMemory) → ⊥
sheet_never_memory text part is = no_memory text part is
