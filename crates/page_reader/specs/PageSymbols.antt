-- What a token of a page stands for in the grammar, by its name and its attributes: HTML (Living Standard), as a profile.
use Rattle.std.specs.Prelude.{ℕ, Bool, true, false, not, ◌&&◌, ◌||◌, List, [], ◌∷◌, length, take, codes, if◌then◌else◌}
use Rattle.std.specs.List.{list_all, list_any}
use Rattle.std.specs.Str.{bytes_eq, str_eq_ignore_ascii_case}
use Rattle.page_model.specs.declared.place.Place.{Place}
use Rattle.page_tokens.specs.HtmlTags.{Attribute}
use Rattle.page_tokens.specs.HtmlPieces.{Content, doctype, opening, closing, raw}
use Rattle.page_tokens.specs.HtmlText.{Word}
use Rattle.page_reader.specs.declared.symbol.Symbol.{Symbol}
use Rattle.page_reader.specs.declared.symbol.Symbol.TheVariants.{Doctype, OpenHtml, OpenHead, OpenMeta, OpenTitle, OpenStyle, RawText, OpenBody, OpenBox, CloseHtml, CloseHead, CloseTitle, CloseStyle, CloseBody, CloseBox, Other}
use Rattle.page_reader.specs.declared.symbol.BoxTag.TheVariants.{Div, Span}
use Rattle.page_reader.specs.declared.tag_name.TagName.{TagName}
use Rattle.page_reader.specs.declared.tag_name.TagName.TheVariants.{Html, Head, Meta, Title, Style, Body, DivBox, SpanBox, Unknown}

-- the names of tags, in any case
abbrev pub tag_named : List ℕ → TagName
tag_named name =
    if str_eq_ignore_ascii_case name (codes "html") then Html
    else (if str_eq_ignore_ascii_case name (codes "head") then Head
    else (if str_eq_ignore_ascii_case name (codes "meta") then Meta
    else (if str_eq_ignore_ascii_case name (codes "title") then Title
    else (if str_eq_ignore_ascii_case name (codes "style") then Style
    else (if str_eq_ignore_ascii_case name (codes "body") then Body
    else (if str_eq_ignore_ascii_case name (codes "div") then DivBox
    else (if str_eq_ignore_ascii_case name (codes "span") then SpanBox
    else Unknown)))))))

-- the attribute has this name, in any case
abbrev pub is_named : List ℕ → Attribute → Bool
is_named name attribute = str_eq_ignore_ascii_case attribute.name name

-- the attribute's name begins with this, in any case
abbrev pub begins_with : List ℕ → Attribute → Bool
begins_with front attribute = str_eq_ignore_ascii_case (take (length front) attribute.name) front

-- an attribute that a box may have
abbrev pub is_box_attribute : Attribute → Bool
is_box_attribute attribute =
    is_named (codes "id") attribute || is_named (codes "class") attribute || is_named (codes "style") attribute || begins_with (codes "data-") attribute || begins_with (codes "aria-") attribute

-- no name stands twice
abbrev pub are_distinct : List Attribute → Bool
are_distinct [] = true
are_distinct (attribute ∷ others) = not (list_any (is_named attribute.name) others) && are_distinct others

-- the attributes that a box may have
abbrev pub are_box_attributes : List Attribute → Bool
are_box_attributes attributes = list_all is_box_attribute attributes && are_distinct attributes

-- no attribute, or `lang`
abbrev pub are_html_attributes : List Attribute → Bool
are_html_attributes [] = true
are_html_attributes (attribute ∷ []) = is_named (codes "lang") attribute
are_html_attributes (attribute ∷ another ∷ others) = false

-- no attribute
abbrev pub are_none : List Attribute → Bool
are_none [] = true
are_none (attribute ∷ others) = false

-- `name` of the value `viewport`, and `content`
abbrev pub names_viewport : Attribute → Attribute → Bool
names_viewport name content = is_named (codes "name") name && bytes_eq name.value (codes "viewport") && is_named (codes "content") content

-- `charset` of the value `utf-8` in any case, or the two attributes of a viewport in either order
abbrev pub are_meta_attributes : List Attribute → Bool
are_meta_attributes [] = false
are_meta_attributes (attribute ∷ []) = is_named (codes "charset") attribute && str_eq_ignore_ascii_case attribute.value (codes "utf-8")
are_meta_attributes (attribute ∷ another ∷ []) = names_viewport attribute another || names_viewport another attribute
are_meta_attributes (attribute ∷ another ∷ third ∷ others) = false

-- a token that stands for this where a test holds
abbrev pub where_good : Bool → Symbol → Symbol
where_good good symbol = if good then symbol else Other

-- an opening tag; `meta` alone may end with `/>`
abbrev pub opening_symbol : TagName → List Attribute → Bool → Symbol
opening_symbol Html attributes slash = where_good (not slash && are_html_attributes attributes) OpenHtml
opening_symbol Head attributes slash = where_good (not slash && are_none attributes) OpenHead
opening_symbol Meta attributes slash = where_good (are_meta_attributes attributes) OpenMeta
opening_symbol Title attributes slash = where_good (not slash && are_none attributes) OpenTitle
opening_symbol Style attributes slash = where_good (not slash && are_none attributes) OpenStyle
opening_symbol Body attributes slash = where_good (not slash && are_box_attributes attributes) OpenBody
opening_symbol DivBox attributes slash = where_good (not slash && are_box_attributes attributes) (OpenBox Div)
opening_symbol SpanBox attributes slash = where_good (not slash && are_box_attributes attributes) (OpenBox Span)
opening_symbol Unknown attributes slash = Other

-- a closing tag
abbrev pub closing_symbol : TagName → Symbol
closing_symbol Html = CloseHtml
closing_symbol Head = CloseHead
closing_symbol Meta = Other
closing_symbol Title = CloseTitle
closing_symbol Style = CloseStyle
closing_symbol Body = CloseBody
closing_symbol DivBox = CloseBox Div
closing_symbol SpanBox = CloseBox Span
closing_symbol Unknown = Other

-- what a token of this content at this place stands for
abbrev pub symbol_at : Place → Content → Symbol
symbol_at place doctype = Doctype
symbol_at place (opening name attributes slash) = opening_symbol (tag_named name) attributes slash
symbol_at place (closing name) = closing_symbol (tag_named name)
symbol_at place (raw text) = RawText place

-- what a token stands for
abbrev pub symbol_of : Word → Symbol
symbol_of word = symbol_at word.place word.content
