-- The attributes of a token that opens an element.
use Rattle.std.proofs.Common.{◌≡◌, ℕ, Bool, List, Some, None, refl}
use Rattle.page_model.specs.declared.element.Tag.{Tag}
use Rattle.page_model.specs.declared.place.Place.{Place}
use Rattle.page_tokens.specs.HtmlTags.{Attribute}
use Rattle.page_tokens.specs.HtmlShown.{content_of}
use Rattle.page_tokens.specs.declared.token.HtmlKind.{HtmlKind}
use Rattle.page_tokens.specs.declared.token.HtmlKind.TheVariants.{Doctype, Opening, Closing, Raw}
use Rattle.page_reader.specs.PageSymbols.{symbol_at, closing_symbol, tag_named}
use Rattle.page_reader.specs.PageElements.{attributes_of, element_tag}
use Rattle.page_reader.specs.declared.tag_name.TagName.{TagName}
use Rattle.page_reader.specs.declared.tag_name.TagName.TheVariants.{Html, Head, Meta, Title, Style, Body, DivBox, SpanBox, Unknown}

-- a closing tag opens no element
closing_opens_none : (tag : TagName) → element_tag (closing_symbol tag) ≡ None
closing_opens_none Html = refl
closing_opens_none Head = refl
closing_opens_none Meta = refl
closing_opens_none Title = refl
closing_opens_none Style = refl
closing_opens_none Body = refl
closing_opens_none DivBox = refl
closing_opens_none SpanBox = refl
closing_opens_none Unknown = refl

-- a token that opens an element has its own attributes
pub attributes_shown : (kind : HtmlKind) (name : List ℕ) (attributes : List Attribute) (slash : Bool) (place : Place) (tag : Tag) → element_tag (symbol_at place (content_of kind name attributes slash)) ≡ Some tag → attributes_of (content_of kind name attributes slash) ≡ attributes
attributes_shown Doctype name attributes slash place tag opens = absurd (cc)
attributes_shown Opening name attributes slash place tag opens = refl
attributes_shown Closing name attributes slash place tag opens = absurd (cc (closing_opens_none (tag_named name)))
attributes_shown Raw name attributes slash place tag opens = absurd (cc)
