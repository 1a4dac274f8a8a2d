-- The elements of a page: those of its opening tags that are a body's or a box's, with their ids, classes and style attributes.
use Rattle.std.specs.Prelude.{ℕ, ◌-◌, Bool, not, ◌==◌, List, [], length, filter, find, Option, Some, None, codes}
use Rattle.std.specs.Option.{option_map}
use Rattle.std.specs.List.{filter_map, slice_split}
use Rattle.page_model.specs.declared.place.Place.{Place}
use Rattle.page_model.specs.declared.element.Element.{Element}
use Rattle.page_model.specs.declared.element.Tag.{Tag}
use Rattle.page_model.specs.declared.element.Tag.TheVariants as tag
use Rattle.text_tokens.specs.Classes.{is_white}
use Rattle.page_tokens.specs.HtmlTags.{Attribute}
use Rattle.page_tokens.specs.HtmlPieces.{Content, doctype, opening, closing, raw}
use Rattle.page_tokens.specs.HtmlText.{Word}
use Rattle.page_reader.specs.PageSymbols.{symbol_of, is_named}
use Rattle.page_reader.specs.PageGrammar.{nowhere}
use Rattle.page_reader.specs.declared.symbol.Symbol.{Symbol}
use Rattle.page_reader.specs.declared.symbol.Symbol.TheVariants.{OpenBody, OpenBox}
use Rattle.page_reader.specs.declared.symbol.BoxTag.TheVariants.{Div, Span}

-- the attributes of an opening tag
abbrev pub attributes_of : Content → List Attribute
attributes_of doctype = []
attributes_of (opening name attributes slash) = attributes
attributes_of (closing name) = []
attributes_of (raw text) = []

-- a run of bytes isn't empty
abbrev pub is_some_text : List ℕ → Bool
is_some_text text = not (length text == 0)

-- the runs of bytes between white space
abbrev pub runs_in : List ℕ → List (List ℕ)
runs_in value = filter is_some_text (slice_split is_white value)

-- the classes of a `class` attribute, if there is one
abbrev pub classes_in : Option Attribute → List (List ℕ)
classes_in None = []
classes_in (Some attribute) = runs_in attribute.value

-- where the value of a `style` attribute stands in a text of this length, if there is one
abbrev pub style_in : ℕ → Option Attribute → Place
style_in total None = nowhere
style_in total (Some attribute) = record { from = total - attribute.left; to = total - (attribute.left - length attribute.value) }

-- the value of an attribute
abbrev pub value_of : Attribute → List ℕ
value_of attribute = attribute.value

-- the element of these attributes
abbrev pub element_with : ℕ → Tag → List Attribute → Element
element_with total tag attributes = record {
  tag = tag;
  id = option_map value_of (find (is_named (codes "id")) attributes);
  classes = classes_in (find (is_named (codes "class")) attributes);
  style = style_in total (find (is_named (codes "style")) attributes);
}

-- the tag of the element that a token opens, if it does
abbrev pub element_tag : Symbol → Option Tag
element_tag OpenBody = Some tag.Body
element_tag (OpenBox Div) = Some tag.Div
element_tag (OpenBox Span) = Some tag.Span
element_tag _ = None

-- the element that a token opens, if it does
abbrev pub element_of : ℕ → Word → Option Element
element_of total word = option_map (λ tag. element_with total tag (attributes_of word.content)) (element_tag (symbol_of word))

-- the elements of a page, in order
abbrev pub elements_of : ℕ → List Word → List Element
elements_of total words = filter_map (element_of total) words
