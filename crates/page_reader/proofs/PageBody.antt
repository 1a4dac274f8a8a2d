-- A page that is read has a body, which stands first, and boxes behind it.
use Rattle.std.proofs.Common.{◌≡◌, ℕ, zero, suc, ◌≤◌, List, [], ◌∷◌, length, map, Option, Some, None, refl, ap, ◌∙◌, arith, slice_get}
use Rattle.std.specs.Prelude.{◌↔◌}
use Rattle.std.specs.List.{cons_option, filter_map}
use Rattle.std.specs.Option.{option_map}
use Rattle.page_model.specs.declared.element.Element.{Element}
use Rattle.page_model.specs.declared.element.PageText.{PageText}
use Rattle.page_model.specs.declared.element.Tag.{Tag}
use Rattle.page_model.specs.declared.element.Tag.TheVariants as tag
use Rattle.page_tokens.specs.HtmlTags.{Attribute}
use Rattle.page_tokens.specs.HtmlText.{Word}
use Rattle.page_reader.specs.PageElements.{attributes_of, element_tag, element_with, elements_of}
use Rattle.page_reader.specs.PageGrammar.{HeadItem, meta, title, style, Parts, body_symbols, box_symbols, item_symbols, page_symbols}
use Rattle.page_reader.specs.PageSymbols.{symbol_of}
use Rattle.page_reader.specs.PageText.{IsRead}
use Rattle.page_reader.specs.declared.symbol.Symbol.{Symbol}
use Rattle.page_reader.specs.declared.symbol.Symbol.TheVariants.{CloseBody, CloseHtml}
use Rattle.page_reader.specs.declared.symbol.BoxTag.{BoxTag}
use Rattle.page_reader.specs.declared.symbol.BoxTag.TheVariants.{Div, Span}

abbrev tag_of : Element → Tag
tag_of element = element.tag

-- the tags of the elements are those of the tokens
opened : (total : ℕ) (attributes : List Attribute) (found : Option Tag) (elements : List Element) (tags : List Tag) → map tag_of elements ≡ tags
    → map tag_of (cons_option (option_map (λ tag. element_with total tag attributes) found) elements) ≡ cons_option found tags
opened total attributes None elements tags are = are
opened total attributes (Some tag) elements tags are = ap (λ tags. tag ∷ tags) are

tags_are : (total : ℕ) (words : List Word) → map tag_of (elements_of total words) ≡ filter_map element_tag (map symbol_of words)
tags_are total [] = refl
tags_are total (word ∷ words) =
    opened total (attributes_of word.content) (element_tag (symbol_of word)) (elements_of total words) (filter_map element_tag (map symbol_of words)) (tags_are total words)

-- the tags of a page's tokens
abbrev box_tag : BoxTag → Tag
box_tag Div = tag.Div
box_tag Span = tag.Span

boxes_open : (boxes : List BoxTag) → filter_map element_tag (box_symbols boxes (CloseBody ∷ CloseHtml ∷ [])) ≡ map box_tag boxes
boxes_open [] = refl
boxes_open (Div ∷ boxes) = ap (λ tags. tag.Div ∷ tags) (boxes_open boxes)
boxes_open (Span ∷ boxes) = ap (λ tags. tag.Span ∷ tags) (boxes_open boxes)

head_opens : (items : List HeadItem) (more : List Symbol) → filter_map element_tag (item_symbols items more) ≡ filter_map element_tag more
head_opens [] more = refl
head_opens (meta ∷ items) more = head_opens items more
head_opens (title place ∷ items) more = head_opens items more
head_opens (style place ∷ items) more = head_opens items more

page_opens : (parts : Parts) → filter_map element_tag (page_symbols parts) ≡ tag.Body ∷ map box_tag parts.boxes
page_opens parts = head_opens parts.items (body_symbols parts.boxes) ∙ ap (λ tags. tag.Body ∷ tags) (boxes_open parts.boxes)

-- so the body is the first element and no other
no_body : (boxes : List BoxTag) (elements : List Element) (number : ℕ) (element : Element) → map tag_of elements ≡ map box_tag boxes
    → slice_get elements number ≡ Some element → element.tag ≡ tag.Body → ⊥
no_body boxes [] number element are there body = absurd (cc)
no_body [] (first ∷ elements) number element are there body = absurd (cc)
no_body (Div ∷ boxes) (first ∷ elements) zero element are there body = absurd (cc)
no_body (Span ∷ boxes) (first ∷ elements) zero element are there body = absurd (cc)
no_body (Div ∷ boxes) (first ∷ elements) (suc number) element are there body = no_body boxes elements number element (cc) there body
no_body (Span ∷ boxes) (first ∷ elements) (suc number) element are there body = no_body boxes elements number element (cc) there body

-- there is an element, and the body is the first and no other
abbrev pub IsFirst : List Element → Type 0
IsFirst elements = (1 ≤ length elements) × ((number : ℕ) (element : Element) → slice_get elements number ≡ Some element → (element.tag ≡ tag.Body ↔ number ≡ 0))

first : (boxes : List BoxTag) (elements : List Element) → map tag_of elements ≡ tag.Body ∷ map box_tag boxes → IsFirst elements
first boxes [] are = absurd (cc)
first boxes (body ∷ elements) are = (omega arith, λ number element there. at number element there) where
  at : (number : ℕ) (element : Element) → slice_get (body ∷ elements) number ≡ Some element → (element.tag ≡ tag.Body ↔ number ≡ 0)
  at zero element there = (λ _. refl, λ _. cc)
  at (suc number) element there = (λ is. absurd (no_body boxes elements number element (cc) there is), λ same. absurd (omega (arith, same)))

pub body_first : (text : List ℕ) (page : PageText) → IsRead text page → IsFirst page.elements
body_first text page is =
    let spelled = is.spelled.spelled in
    let grammar = spelled.grammar in
    first grammar.parts.boxes page.elements
    (ap (map tag_of) spelled.elements ∙ tags_are (length text) spelled.words ∙ ap (filter_map element_tag) grammar.spelled ∙ page_opens grammar.parts)
