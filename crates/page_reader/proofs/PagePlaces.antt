-- The places of a page that is read lie in its file.
use Rattle.std.proofs.Common.{ℕ, ◌≤◌, Bool, true, false, List, [], ◌∷◌, length, map, Option, Some, None, sym, subst, arith, All}
use Rattle.std.specs.Prelude.{not, ◌&&◌, codes, if◌then◌else◌}
use Rattle.std.specs.Str.{str_eq_ignore_ascii_case}
use Rattle.std.specs.List.{AllByRecursion as Each, cons_option}
use Rattle.std.specs.Option.{option_map}
use Rattle.std.proofs.lemmas.List.Elements.{All-from_recursion}
use Rattle.page_model.specs.declared.element.Element.{Element}
use Rattle.page_model.specs.declared.element.PageText.{PageText}
use Rattle.page_model.specs.declared.element.Tag.{Tag}
use Rattle.page_tokens.specs.HtmlRuns.{is_raw_byte}
use Rattle.page_tokens.specs.HtmlTags.{Attribute}
use Rattle.page_tokens.specs.HtmlPieces.{Content, doctype, opening, closing, raw, Piece, between, token, IsPiece, after_opening, after_piece, after_token}
use Rattle.page_tokens.specs.HtmlText.{Step, IsPath, Word, place_between, with_token, words_of}
use Rattle.page_tokens.proofs.HtmlRunLemmas.{run_shorter}
use Rattle.page_reader.specs.PageElements.{attributes_of, element_tag, element_with, elements_of, style_in}
use Rattle.page_reader.specs.PageGrammar.{HeadItem, meta, title, style, body_symbols, item_symbols, sheet_of}
use Rattle.page_reader.specs.PageSymbols.{are_box_attributes, are_html_attributes, are_meta_attributes, are_none, closing_symbol, opening_symbol, symbol_at, symbol_of, tag_named, where_good}
use Rattle.page_reader.specs.PageText.{IsRead}
use Rattle.page_reader.specs.declared.symbol.Symbol.{Symbol}
use Rattle.page_reader.specs.declared.symbol.Symbol.TheVariants.{RawText, OpenHtml, OpenHead, OpenMeta, OpenTitle, OpenStyle, OpenBody, OpenBox}
use Rattle.page_reader.specs.declared.symbol.BoxTag.TheVariants.{Div, Span}
use Rattle.page_reader.specs.declared.tag_name.TagName.{TagName}
use Rattle.page_reader.specs.declared.tag_name.TagName.TheVariants.{Html, Head, Meta, Title, Style, Body, DivBox, SpanBox, Unknown}
use Rattle.page_reader.specs.PageWhole.{IsWhole, IsWithin}
use Rattle.page_reader.proofs.PageBody.{body_first}

-- the place of raw text lies in the file
abbrev Placed : ℕ → Symbol → Type 0
Placed total (RawText place) = IsWithin total place
Placed total _ = Unit {0}

where_placed : (total : ℕ) (good : Bool) (symbol : Symbol) → Placed total symbol → Placed total (where_good good symbol)
where_placed total true symbol placed = placed
where_placed total false symbol placed = tt

opening_placed : (total : ℕ) (tag : TagName) (attributes : List Attribute) (slash : Bool) → Placed total (opening_symbol tag attributes slash)
opening_placed total Html attributes slash = where_placed total (not slash && are_html_attributes attributes) OpenHtml tt
opening_placed total Head attributes slash = where_placed total (not slash && are_none attributes) OpenHead tt
opening_placed total Meta attributes slash = where_placed total (are_meta_attributes attributes) OpenMeta tt
opening_placed total Title attributes slash = where_placed total (not slash && are_none attributes) OpenTitle tt
opening_placed total Style attributes slash = where_placed total (not slash && are_none attributes) OpenStyle tt
opening_placed total Body attributes slash = where_placed total (not slash && are_box_attributes attributes) OpenBody tt
opening_placed total DivBox attributes slash = where_placed total (not slash && are_box_attributes attributes) (OpenBox Div) tt
opening_placed total SpanBox attributes slash = where_placed total (not slash && are_box_attributes attributes) (OpenBox Span) tt
opening_placed total Unknown attributes slash = tt

closing_placed : (total : ℕ) (tag : TagName) → Placed total (closing_symbol tag)
closing_placed total Html = tt
closing_placed total Head = tt
closing_placed total Meta = tt
closing_placed total Title = tt
closing_placed total Style = tt
closing_placed total Body = tt
closing_placed total DivBox = tt
closing_placed total SpanBox = tt
closing_placed total Unknown = tt

-- raw text stands behind the opening tag of a title or a style, and what is left behind it is shorter
chosen : (title_is style_is : Bool) (bytes text rest : List ℕ)
    → IsPiece (if title_is then after_opening (codes "title") else (if style_is then after_opening (codes "style") else after_token doctype)) bytes (token (raw text)) rest
    → length rest ≤ length bytes
chosen true style_is bytes text rest is = run_shorter is_raw_byte bytes text rest is.raw.run
chosen false true bytes text rest is = run_shorter is_raw_byte bytes text rest is.run
chosen false false bytes text rest is = absurd is

raw_shorter : (last : Content) (bytes text rest : List ℕ) → IsPiece (after_token last) bytes (token (raw text)) rest → length rest ≤ length bytes
raw_shorter doctype bytes text rest is = absurd is
raw_shorter (opening name attributes slash) bytes text rest is =
    chosen (str_eq_ignore_ascii_case name (codes "title")) (str_eq_ignore_ascii_case name (codes "style")) bytes text rest is
raw_shorter (closing name) bytes text rest is = absurd is
raw_shorter (raw other) bytes text rest is = absurd is

raw_within : (total : ℕ) (bytes rest : List ℕ) → length rest ≤ length bytes → IsWithin total (place_between total bytes rest)
raw_within total bytes rest shorter = record { in_order = omega (arith, shorter); inside = omega arith }

token_placed : (total : ℕ) (last : Content) (bytes rest : List ℕ) (content : Content) → IsPiece (after_token last) bytes (token content) rest
    → Placed total (symbol_at (place_between total bytes rest) content)
token_placed total last bytes rest doctype is = tt
token_placed total last bytes rest (opening name attributes slash) is = opening_placed total (tag_named name) attributes slash
token_placed total last bytes rest (closing name) is = closing_placed total (tag_named name)
token_placed total last bytes rest (raw text) is = raw_within total bytes rest (raw_shorter last bytes text rest is)

piece_placed : (total : ℕ) (last : Content) (bytes rest : List ℕ) (piece : Piece) (words : List Word) → IsPiece (after_token last) bytes piece rest
    → Each (Placed total) (map symbol_of words) → Each (Placed total) (map symbol_of (with_token (place_between total bytes rest) piece words))
piece_placed total last bytes rest between words is each = each
piece_placed total last bytes rest (token content) words is each = (token_placed total last bytes rest content is, each)

-- the token behind which the next piece stands
abbrev last_of : Content → Piece → Content
last_of last between = last
last_of last (token content) = content

path_behind : (last : Content) (piece : Piece) (rest : List ℕ) (steps : List Step) → IsPath (after_piece (after_token last) piece) rest steps → IsPath (after_token (last_of last piece)) rest steps
path_behind last between rest steps path = path
path_behind last (token content) rest steps path = path

path_placed : (total : ℕ) (last : Content) (bytes : List ℕ) (steps : List Step) → IsPath (after_token last) bytes steps
    → Each (Placed total) (map symbol_of (words_of total bytes steps))
path_placed total last bytes [] path = tt
path_placed total last bytes (step ∷ steps) path =
    piece_placed total last bytes step.rest step.piece (words_of total step.rest steps) path.0
    (path_placed total (last_of last step.piece) step.rest steps (path_behind last step.piece step.rest steps path.1))

sheet_placed : (total : ℕ) (items : List HeadItem) (more : List Symbol) → Each (Placed total) (item_symbols items more) → IsWithin total (sheet_of items)
sheet_placed total [] more each = record { in_order = omega arith; inside = omega arith }
sheet_placed total (meta ∷ items) more each = sheet_placed total items more each.1
sheet_placed total (title place ∷ items) more each = sheet_placed total items more each.1.1.1
sheet_placed total (style place ∷ items) more each = each.1.0

-- the style text lies in the file
sheet_within : (text : List ℕ) (page : PageText) → IsRead text page → IsWithin (length text) page.sheet
sheet_within text page is =
    let spelled = is.spelled.spelled in
    let grammar = spelled.grammar in
    let tokens = spelled.tokens in
    let each = path_placed (length text) doctype text tokens.steps tokens.path in
    let all = subst (λ (words : List Word). Each (Placed (length text)) (map symbol_of words)) (sym tokens.words_are) each in
    let symbols = subst (Each (Placed (length text))) grammar.spelled all in
    subst (IsWithin (length text)) (sym grammar.sheet_is)
    (sheet_placed (length text) grammar.parts.items (body_symbols grammar.parts.boxes) symbols.1.1.1)

-- and each style attribute does
attribute_within : (total : ℕ) (found : Option Attribute) → IsWithin total (style_in total found)
attribute_within total None = record { in_order = omega arith; inside = omega arith }
attribute_within total (Some attribute) = record { in_order = omega arith; inside = omega arith }

element_within : (total : ℕ) (attributes : List Attribute) (tag : Option Tag) (elements : List Element)
    → Each (λ (element : Element). IsWithin total element.style) elements
    → Each (λ (element : Element). IsWithin total element.style) (cons_option (option_map (λ tag. element_with total tag attributes) tag) elements)
element_within total attributes None elements each = each
element_within total attributes (Some tag) elements each = (attribute_within total _, each)

words_within : (total : ℕ) (words : List Word) → Each (λ (element : Element). IsWithin total element.style) (elements_of total words)
words_within total [] = tt
words_within total (word ∷ words) =
    element_within total (attributes_of word.content) (element_tag (symbol_of word)) (elements_of total words) (words_within total words)

styles_within : (text : List ℕ) (page : PageText) → IsRead text page → All (λ (element : Element). IsWithin (length text) element.style) page.elements
styles_within text page is =
    let spelled = is.spelled.spelled in
    subst (All (λ (element : Element). IsWithin (length text) element.style)) (sym spelled.elements)
    (All-from_recursion (λ (element : Element). IsWithin (length text) element.style) (elements_of (length text) spelled.words) (words_within (length text) spelled.words))

pub page_whole : (text : List ℕ) (page : PageText) → IsRead text page → IsWhole (length text) page
page_whole text page is =
    let first = body_first text page is in
    record { some = first.0; body = first.1; sheet = sheet_within text page is; styles = styles_within text page is }
