-- The grammar of a page: the tokens of a page are a function of its parts, and the place of a refusal is where the longest front that
-- begins some page ends.
use Rattle.std.specs.Prelude.{◌≡◌, ℕ, suc, zero, ◌≤◌, List, [], ◌∷◌, ◌++◌, length, take}
use Rattle.page_model.specs.declared.place.Place.{Place}
use Rattle.page_tokens.specs.HtmlText.{Word}
use Rattle.page_reader.specs.declared.symbol.Symbol.{Symbol}
use Rattle.page_reader.specs.declared.symbol.Symbol.TheVariants.{Doctype, OpenHtml, OpenHead, OpenMeta, OpenTitle, OpenStyle, RawText, OpenBody, OpenBox, CloseHtml, CloseHead, CloseTitle, CloseStyle, CloseBody, CloseBox}
use Rattle.page_reader.specs.declared.symbol.BoxTag.{BoxTag}

-- what may stand in the head: a `meta`, a title with the place of its text, a style with the place of its text
pub data HeadItem : Type 0 where
  meta : HeadItem
  title : Place → HeadItem
  style : Place → HeadItem

-- the tokens of the items of the head, before others
abbrev pub item_symbols : List HeadItem → List Symbol → List Symbol
item_symbols [] more = more
item_symbols (meta ∷ items) more = OpenMeta ∷ item_symbols items more
item_symbols (title place ∷ items) more = OpenTitle ∷ RawText place ∷ CloseTitle ∷ item_symbols items more
item_symbols (style place ∷ items) more = OpenStyle ∷ RawText place ∷ CloseStyle ∷ item_symbols items more

-- how many of them are titles
abbrev pub title_count : List HeadItem → ℕ
title_count [] = 0
title_count (meta ∷ items) = title_count items
title_count (title place ∷ items) = suc (title_count items)
title_count (style place ∷ items) = title_count items

-- how many are styles
abbrev pub style_count : List HeadItem → ℕ
style_count [] = 0
style_count (meta ∷ items) = style_count items
style_count (title place ∷ items) = style_count items
style_count (style place ∷ items) = suc (style_count items)

-- the place of a style element that is missing
abbrev pub nowhere : Place
nowhere = record { from = 0; to = 0 }

-- where the text of the style stands
abbrev pub sheet_of : List HeadItem → Place
sheet_of [] = nowhere
sheet_of (meta ∷ items) = sheet_of items
sheet_of (title place ∷ items) = sheet_of items
sheet_of (style place ∷ items) = place

-- the tokens of the boxes, before others
abbrev pub box_symbols : List BoxTag → List Symbol → List Symbol
box_symbols [] more = more
box_symbols (tag ∷ boxes) more = OpenBox tag ∷ CloseBox tag ∷ box_symbols boxes more

-- the parts of a page: the items of its head, and its boxes
pub record Parts : Type 0 where
  pub items : List HeadItem
  pub boxes : List BoxTag

-- the tokens from the end of the head on
abbrev pub body_symbols : List BoxTag → List Symbol
body_symbols boxes = CloseHead ∷ OpenBody ∷ box_symbols boxes (CloseBody ∷ CloseHtml ∷ [])

-- the tokens of a page of these parts
abbrev pub page_symbols : Parts → List Symbol
page_symbols parts = Doctype ∷ OpenHtml ∷ OpenHead ∷ item_symbols parts.items (body_symbols parts.boxes)

-- these are the tokens of a page, which has at most one title and at most one style, whose text stands there
pub record SpellPage (symbols : List Symbol) (sheet : Place) : Type 0 where
  pub parts : Parts
  pub spelled : symbols ≡ page_symbols parts
  pub one_title : title_count parts.items ≤ 1
  pub one_style : style_count parts.items ≤ 1
  pub sheet_is : sheet ≡ sheet_of parts.items

-- these are the first tokens of some page
pub record BeginPage (symbols : List Symbol) : Type 0 where
  pub more : List Symbol
  pub sheet : Place
  pub page : SpellPage (symbols ++ more) sheet

-- these tokens are no page, and n is the greatest number such that the first n of them begin some page
pub record StopAt (symbols : List Symbol) (n : ℕ) : Type 0 where
  pub within : n ≤ length symbols
  pub begins : BeginPage (take n symbols)
  pub greatest : (m : ℕ) → m ≤ length symbols → BeginPage (take m symbols) → m ≤ n
  pub no_page : (sheet : Place) → SpellPage symbols sheet → ⊥

-- where token n begins in a text of this length, or its end where there is none
abbrev pub start_of : ℕ → List Word → ℕ → ℕ
start_of total [] n = total
start_of total (word ∷ words) zero = word.place.from
start_of total (word ∷ words) (suc n) = start_of total words n
