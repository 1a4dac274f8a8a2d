-- A text has one reading at most.
use Rattle.std.proofs.Common.{◌≡◌, ℕ, List, [], Result, Ok, Err, sym, ap, ◌∙◌, subst, inl, inr, length, ◌≤◌, arith}
use Rattle.page_model.specs.declared.place.Place.{Place}
use Rattle.css_declarations.specs.declared.fault.SheetFault.{SheetFault}
use Rattle.css_declarations.specs.declared.fault.SheetFault.TheVariants.{BadSheet, UnknownProperty, BadValue, BadKeyframes, OverLimit, NoMemory}
use Rattle.css_declarations.specs.DeclarationReading.{Tells}
use Rattle.css_declarations.specs.InlineText.{part_of}
use Rattle.css_declarations.proofs.InlineLemmas.{one_bad_token, one_tokens, part_fits, tokens_not_bad}
use Rattle.css_selectors.specs.Readings.{Read}
use Rattle.css_reader.specs.SheetGrammar.{Item, Items, sheet_of}
use Rattle.css_reader.specs.SheetState.{SheetState}
use Rattle.css_reader.specs.SheetText.{IsSheet, IsSheetFault, IsSheetRead, SpellsSheet}
use Rattle.std.specs.Prelude.{IfOk}
use Rattle.css_declarations.proofs.PlaceLemmas.{tokens_rise}
use Rattle.css_reader.specs.ReadySheet.{IsReadySheet}
use Rattle.css_reader.proofs.ReadyRules.{items_ready}
use Rattle.css_reader.proofs.ReadySets.{sheet_is_ready}
use Rattle.css_reader.proofs.OneReading.{items_one}

items_in : List Item → Read (List Item) → List Item
items_in other (Ok read) = read.0
items_in other (Err fault) = other

one_spelled : (text : List ℕ) (part : Place) (sheet other : SheetState) → SpellsSheet text part sheet → SpellsSheet text part other → other ≡ sheet
unfolding items_in
one_spelled text part sheet other is also =
    let same = one_tokens part.to (part_of text part) is.tokens also.tokens is.are_tokens also.are_tokens in
    let e = items_one text part.to is.tokens (Ok (is.items, [])) (Ok (also.items, [])) is.are_items (subst (λ t. Items text part.to [] t (Ok (also.items, []))) same also.are_items) in
    also.sheet_is ∙ ap sheet_of (ap (items_in is.items) e) ∙ sym is.sheet_is

not_both : (text : List ℕ) (part : Place) (sheet : SheetState) (fault : SheetFault) → SpellsSheet text part sheet → IsSheetFault text part fault → ⊥
not_both text part sheet fault is (inl bad) = tokens_not_bad part.to (part_of text part) is.tokens bad.place is.are_tokens bad.bad
not_both text part sheet fault is (inr also) =
    let same = one_tokens part.to (part_of text part) is.tokens also.tokens is.are_tokens also.are_tokens in
    let e = items_one text part.to is.tokens (Ok (is.items, [])) (Err fault) is.are_items (subst (λ t. Items text part.to [] t (Err fault)) same also.first) in cc

one_sheet_fault : (text : List ℕ) (part : Place) (fault other : SheetFault) → IsSheetFault text part fault → IsSheetFault text part other → other ≡ fault
one_sheet_fault text part fault other (inl is) (inl also) =
    also.fault_is ∙ ap (λ p. BadSheet p) (one_bad_token part.to (part_of text part) is.place also.place is.bad also.bad) ∙ sym is.fault_is
one_sheet_fault text part fault other (inl is) (inr also) = absurd (tokens_not_bad part.to (part_of text part) also.tokens is.place also.are_tokens is.bad)
one_sheet_fault text part fault other (inr is) (inl also) = absurd (tokens_not_bad part.to (part_of text part) is.tokens also.place is.are_tokens also.bad)
one_sheet_fault text part fault other (inr is) (inr also) =
    let same = one_tokens part.to (part_of text part) is.tokens also.tokens is.are_tokens also.are_tokens in
    let e = items_one text part.to is.tokens (Err fault) (Err other) is.first (subst (λ t. Items text part.to [] t (Err other)) same also.first) in cc

pub one_sheet : (text : List ℕ) (part : Place) (outcome other : Result SheetState SheetFault) → IsSheet text part outcome → IsSheet text part other → other ≡ outcome
one_sheet text part (Ok sheet) (Ok other) is also = ap (λ s. Ok s) (one_spelled text part sheet other is also)
one_sheet text part (Ok sheet) (Err fault) is also = absurd (not_both text part sheet fault is also)
one_sheet text part (Err fault) (Ok sheet) is also = absurd (not_both text part sheet fault also is)
one_sheet text part (Err fault) (Err other) is also = ap (λ f. Err f) (one_sheet_fault text part fault other is also)

pub sheet_told : (text : List ℕ) (part : Place) (result other : Result SheetState SheetFault) → IsSheetRead text part result → IsSheet text part other → Tells result other
sheet_told text part (Ok sheet) other is also = one_sheet text part (Ok sheet) other is also
sheet_told text part (Err NoMemory) other is also = tt
sheet_told text part (Err (BadSheet place)) other is also = one_sheet text part (Err (BadSheet place)) other is also
sheet_told text part (Err (UnknownProperty place)) other is also = one_sheet text part (Err (UnknownProperty place)) other is also
sheet_told text part (Err (BadValue place)) other is also = one_sheet text part (Err (BadValue place)) other is also
sheet_told text part (Err (BadKeyframes place)) other is also = one_sheet text part (Err (BadKeyframes place)) other is also
sheet_told text part (Err (OverLimit place)) other is also = one_sheet text part (Err (OverLimit place)) other is also

-- a sheet that is read is as the cascade needs it
spelled_ready : (text : List ℕ) (part : Place) (sheet : SheetState) → part.to ≤ 1048576 → SpellsSheet text part sheet → IsReadySheet sheet
spelled_ready text part sheet short is =
    let fits : length (part_of text part) ≤ part.to = part_fits text part in
    subst IsReadySheet (sym is.sheet_is)
    (sheet_is_ready text part.to (part_of text part) is.tokens [] is.items is.are_tokens (omega arith) is.are_items
    (items_ready text part.to is.tokens [] is.items is.are_items (tokens_rise part.to (part_of text part) is.tokens is.are_tokens fits)))

pub sheet_ready : (text : List ℕ) (part : Place) (result : Result SheetState SheetFault) → part.to ≤ 1048576 → IsSheetRead text part result → IfOk result IsReadySheet
sheet_ready text part (Ok sheet) short is = spelled_ready text part sheet short is
sheet_ready text part (Err fault) short is = tt
