-- Reading from token to token, and the grammar: each says what the other says, of pages and of where they stop.
use Rattle.std.proofs.Common.{◌≡◌, ℕ, zero, suc, ◌+◌, ◌≤◌, Bool, true, false, List, [], ◌∷◌, ◌++◌, length, take, map, Option, Some, None, Ok, Err, refl, sym, ap, ◌∙◌, subst, arith}
use Rattle.std.specs.Prelude.{is_some, unwrap_or}
use Rattle.page_model.specs.declared.place.Place.{Place}
use Rattle.page_tokens.specs.HtmlText.{Word}
use Rattle.page_reader.specs.PageSymbols.{symbol_of}
use Rattle.page_reader.specs.PageGrammar.{HeadItem, meta, title, style, item_symbols, title_count, style_count, nowhere, sheet_of, box_symbols, body_symbols, page_symbols, SpellPage, StopAt, start_of}
use Rattle.page_reader.specs.PageReading.{next_stage, sheet_seen, ended, judged_next, judged}
use Rattle.page_reader.specs.declared.symbol.Symbol.{Symbol}
use Rattle.page_reader.specs.declared.symbol.Symbol.TheVariants.{Doctype, OpenHtml, OpenHead, OpenMeta, OpenTitle, OpenStyle, RawText, OpenBody, OpenBox, CloseHtml, CloseHead, CloseTitle, CloseStyle, CloseBody, CloseBox}
use Rattle.page_reader.specs.declared.symbol.BoxTag.{BoxTag}
use Rattle.page_reader.specs.declared.symbol.BoxTag.TheVariants.{Div, Span}
use Rattle.page_reader.specs.declared.stage.Seen.{Seen}
use Rattle.page_reader.specs.declared.stage.Stage.{Stage}
use Rattle.page_reader.specs.declared.stage.Stage.TheVariants.{AtDoctype, AtHtml, AtHead, AtItem, AtTitleText, AtTitleEnd, AtStyleText, AtStyleEnd, AtBody, AtBox, AtBoxEnd, AtHtmlEnd, AtEnd}

-- a page may end here, and its sheet stands there
abbrev pub IsEnd : Stage → Place → Type 0
IsEnd (AtEnd sheet) p = p ≡ sheet
IsEnd _ p = ⊥

abbrev pub RestNext : (Stage → Type 0) → Option Stage → Type 0
RestNext more None = ⊥
RestNext more (Some stage) = more stage

-- these tokens complete a page from this stage on
abbrev pub Rest : Stage → List Symbol → Place → Type 0
Rest stage [] p = IsEnd stage p
Rest stage (s ∷ ss) p = RestNext (λ next. Rest next ss p) (next_stage stage s)

-- what is judged well completes a page
ended_ok : (total : ℕ) (stage : Stage) (p : Place) → ended total stage ≡ Ok p → IsEnd stage p
ended_ok total (AtEnd sheet) p e = cc
ended_ok total _ p e = absurd (cc)

pub judged_ok : (total : ℕ) (words : List Word) (stage : Stage) (p : Place) → judged total stage words ≡ Ok p → Rest stage (map symbol_of words) p
judged_ok total [] stage p e = ended_ok total stage p e
judged_ok total (w ∷ ws) stage p e = step (next_stage stage (symbol_of w)) e (λ next. judged_ok total ws next p) where
  step : (o : Option Stage) → judged_next (λ next. judged total next ws) w.place.from o ≡ Ok p → ((next : Stage) → judged total next ws ≡ Ok p → Rest next (map symbol_of ws) p) → RestNext (λ next. Rest next (map symbol_of ws) p) o
  step None h more = absurd (cc)
  step (Some next) h more = more next h

-- each stage can be completed
abbrev page_end : List Symbol
page_end = CloseBody ∷ CloseHtml ∷ []

abbrev head_end : List Symbol
head_end = CloseHead ∷ OpenBody ∷ page_end

abbrev Completed : Stage → Type 0
Completed stage = (more : List Symbol) × (p : Place) × Rest stage more p

completes : (stage : Stage) → Completed stage
completes AtDoctype = (Doctype ∷ OpenHtml ∷ OpenHead ∷ head_end, nowhere, refl)
completes AtHtml = (OpenHtml ∷ OpenHead ∷ head_end, nowhere, refl)
completes AtHead = (OpenHead ∷ head_end, nowhere, refl)
completes (AtItem seen) = (head_end, sheet_seen seen, refl)
completes (AtTitleText seen) = (RawText nowhere ∷ CloseTitle ∷ head_end, sheet_seen seen, refl)
completes (AtTitleEnd seen) = (CloseTitle ∷ head_end, sheet_seen seen, refl)
completes (AtStyleText seen) = (RawText nowhere ∷ CloseStyle ∷ head_end, nowhere, refl)
completes (AtStyleEnd seen) = (CloseStyle ∷ head_end, sheet_seen seen, refl)
completes (AtBody sheet) = (OpenBody ∷ page_end, sheet, refl)
completes (AtBox sheet) = (page_end, sheet, refl)
completes (AtBoxEnd sheet Div) = (CloseBox Div ∷ page_end, sheet, refl)
completes (AtBoxEnd sheet Span) = (CloseBox Span ∷ page_end, sheet, refl)
completes (AtHtmlEnd sheet) = (CloseHtml ∷ [], sheet, refl)
completes (AtEnd sheet) = ([], sheet, refl)

-- these tokens begin such a completion
abbrev pub Begin : Stage → List Symbol → Type 0
Begin stage symbols = (more : List Symbol) × (p : Place) × Rest stage (symbols ++ more) p

-- they cease to be one after n
pub record Stops (stage : Stage) (symbols : List Symbol) (n : ℕ) : Type 0 where
  pub within : n ≤ length symbols
  pub begins : Begin stage (take n symbols)
  pub greatest : (m : ℕ) → m ≤ length symbols → Begin stage (take m symbols) → m ≤ n
  pub no_page : (p : Place) → Rest stage symbols p → ⊥

ended_err : (total at : ℕ) (stage : Stage) (p : Place) → ended total stage ≡ Err at → IsEnd stage p → ⊥
ended_err total at (AtEnd sheet) p e is = cc
ended_err total at _ p e is = is

ended_at : (total at : ℕ) (stage : Stage) → ended total stage ≡ Err at → at ≡ total
ended_at total at (AtEnd sheet) e = absurd (cc)
ended_at total at _ e = cc

-- what is judged ill ceases to be one there
pub judged_err : (total : ℕ) (words : List Word) (stage : Stage) (at : ℕ) → judged total stage words ≡ Err at → (n : ℕ) × Stops stage (map symbol_of words) n × (at ≡ start_of total words n)
judged_err total [] stage at e = (
  0,
  record { within = omega arith; begins = completes stage; greatest = λ m fits _. fits; no_page = λ p is. ended_err total at stage p e is },
  ended_at total at stage e,
)
judged_err total (w ∷ ws) stage at e = step (next_stage stage (symbol_of w)) refl e (λ next. judged_err total ws next at) where
  symbols : List Symbol
  symbols = map symbol_of ws

  Found : Type 0
  Found = (n : ℕ) × Stops stage (symbol_of w ∷ map symbol_of ws) n × (at ≡ start_of total (w ∷ ws) n)

  into : (next : Stage) → next_stage stage (symbol_of w) ≡ Some next → (ss : List Symbol) (p : Place) → Rest stage (symbol_of w ∷ ss) p → Rest next ss p
  into next is ss p rest = subst (RestNext (λ t. Rest t ss p)) is rest

  out_of : (next : Stage) → next_stage stage (symbol_of w) ≡ Some next → (ss : List Symbol) (p : Place) → Rest next ss p → Rest stage (symbol_of w ∷ ss) p
  out_of next is ss p rest = subst (RestNext (λ t. Rest t ss p)) (sym is) rest

  none : next_stage stage (symbol_of w) ≡ None → (ss : List Symbol) (p : Place) → Rest stage (symbol_of w ∷ ss) p → ⊥
  none is ss p rest = subst (RestNext (λ t. Rest t ss p)) is rest

  no_more : next_stage stage (symbol_of w) ≡ None → (m : ℕ) → Begin stage (take m (symbol_of w ∷ map symbol_of ws)) → m ≤ 0
  no_more is zero begin = omega arith
  no_more is (suc m) begin = absurd (none is (take m (map symbol_of ws) ++ begin.0) begin.1 begin.2)

  one_more : (next : Stage) → next_stage stage (symbol_of w) ≡ Some next → (n : ℕ) → Stops next (map symbol_of ws) n → (m : ℕ) → m ≤ suc (length (map symbol_of ws)) → Begin stage (take m (symbol_of w ∷ map symbol_of ws)) → m ≤ suc n
  one_more next is n stops zero fits begin = omega arith
  one_more next is n stops (suc m) fits begin =
      let inner : Begin next (take m (map symbol_of ws)) = (begin.0, begin.1, into next is (take m (map symbol_of ws) ++ begin.0) begin.1 begin.2) in
      let below : m ≤ n = stops.greatest m (omega arith) inner in
      omega arith

  step : (o : Option Stage) → next_stage stage (symbol_of w) ≡ o → judged_next (λ next. judged total next ws) w.place.from o ≡ Err at
      → ((next : Stage) → judged total next ws ≡ Err at → (n : ℕ) × Stops next (map symbol_of ws) n × (at ≡ start_of total ws n)) → Found
  step None is h more = (
    0,
    record { within = omega arith; begins = completes stage; greatest = λ m fits begin. no_more is m begin; no_page = λ p rest. none is (map symbol_of ws) p rest },
    cc,
  )
  step (Some next) is h more =
      let found = more next h in
      let begin = found.1.begins in (
        suc found.0,
        record {
          within = let w : found.0 ≤ length (map symbol_of ws) = found.1.within in omega arith;
          begins = (begin.0, begin.1, out_of next is (take found.0 (map symbol_of ws) ++ begin.0) begin.1 begin.2);
          greatest = one_more next is found.0 found.1;
          no_page = λ p rest. found.1.no_page p (into next is (map symbol_of ws) p rest);
        },
        found.2,
      )

-- boxes
boxes_rest : (boxes : List BoxTag) (p : Place) → Rest (AtBox p) (box_symbols boxes page_end) p
boxes_rest [] p = refl
boxes_rest (Div ∷ boxes) p = boxes_rest boxes p
boxes_rest (Span ∷ boxes) p = boxes_rest boxes p

abbrev Boxes : List Symbol → Place → Place → Type 0
Boxes symbols p q = (boxes : List BoxTag) × (symbols ≡ box_symbols boxes page_end) × (p ≡ q)

with_box : (tag : BoxTag) (symbols : List Symbol) (p q : Place) → Boxes symbols p q → Boxes (OpenBox tag ∷ CloseBox tag ∷ symbols) p q
with_box tag symbols p q found = (tag ∷ found.0, ap (λ ss. OpenBox tag ∷ CloseBox tag ∷ ss) found.1, found.2)

rest_boxes : (symbols : List Symbol) (p q : Place) → Rest (AtBox q) symbols p → Boxes symbols p q
rest_boxes (OpenBox Div ∷ CloseBox Div ∷ ss) p q rest = with_box Div ss p q (rest_boxes ss p q rest)
rest_boxes (OpenBox Span ∷ CloseBox Span ∷ ss) p q rest = with_box Span ss p q (rest_boxes ss p q rest)
rest_boxes (CloseBody ∷ CloseHtml ∷ []) p q rest = ([], refl, rest)
rest_boxes _ p q rest = elim rest [ ]

-- the items of a head, of which some were seen
abbrev one_if : Bool → ℕ
one_if true = 1
one_if false = 0

abbrev seen_as : Bool → Option Place → Seen
seen_as titled sheet = record { title = titled; sheet = sheet }

items_rest : (items : List HeadItem) (titled : Bool) (sheet : Option Place) (boxes : List BoxTag) → one_if titled + title_count items ≤ 1 → one_if (is_some sheet) + style_count items ≤ 1
    → Rest (AtItem (seen_as titled sheet)) (item_symbols items (body_symbols boxes)) (unwrap_or sheet (sheet_of items))
items_rest [] titled sheet boxes titles styles = boxes_rest boxes (unwrap_or sheet nowhere)
items_rest (meta ∷ items) titled sheet boxes titles styles = items_rest items titled sheet boxes titles styles
items_rest (title place ∷ items) true sheet boxes titles styles = absurd (omega arith)
items_rest (title place ∷ items) false sheet boxes titles styles = items_rest items true sheet boxes (omega arith) styles
items_rest (style place ∷ items) titled None boxes titles styles = items_rest items titled (Some place) boxes titles (omega arith)
items_rest (style place ∷ items) titled (Some other) boxes titles styles = absurd (omega arith)

record Items (titled : Bool) (sheet : Option Place) (symbols : List Symbol) (p : Place) : Type 0 where
  items : List HeadItem
  boxes : List BoxTag
  spelled : symbols ≡ item_symbols items (body_symbols boxes)
  titles : one_if titled + title_count items ≤ 1
  styles : one_if (is_some sheet) + style_count items ≤ 1
  sheet_is : p ≡ unwrap_or sheet (sheet_of items)

one_at_most : (b : Bool) → one_if b + 0 ≤ 1
one_at_most true = omega arith
one_at_most false = omega arith

no_items : (titled : Bool) (sheet : Option Place) (symbols : List Symbol) (p : Place) → Boxes symbols p (unwrap_or sheet nowhere) → Items titled sheet (CloseHead ∷ OpenBody ∷ symbols) p
no_items titled sheet symbols p found = record {
  items = [];
  boxes = found.0;
  spelled = ap (λ ss. CloseHead ∷ OpenBody ∷ ss) found.1;
  titles = one_at_most titled;
  styles = one_at_most (is_some sheet);
  sheet_is = found.2;
}

with_meta : (titled : Bool) (sheet : Option Place) (symbols : List Symbol) (p : Place) → Items titled sheet symbols p → Items titled sheet (OpenMeta ∷ symbols) p
with_meta titled sheet symbols p found = record {
  items = meta ∷ found.items;
  boxes = found.boxes;
  spelled = ap (λ ss. OpenMeta ∷ ss) found.spelled;
  titles = found.titles;
  styles = found.styles;
  sheet_is = found.sheet_is;
}

with_title : (place : Place) (sheet : Option Place) (symbols : List Symbol) (p : Place) → Items true sheet symbols p → Items false sheet (OpenTitle ∷ RawText place ∷ CloseTitle ∷ symbols) p
with_title place sheet symbols p found = record {
  items = title place ∷ found.items;
  boxes = found.boxes;
  spelled = ap (λ ss. OpenTitle ∷ RawText place ∷ CloseTitle ∷ ss) found.spelled;
  titles = let h : 1 + title_count found.items ≤ 1 = found.titles in omega arith;
  styles = found.styles;
  sheet_is = found.sheet_is;
}

with_style : (place : Place) (titled : Bool) (symbols : List Symbol) (p : Place) → Items titled (Some place) symbols p → Items titled None (OpenStyle ∷ RawText place ∷ CloseStyle ∷ symbols) p
with_style place titled symbols p found = record {
  items = style place ∷ found.items;
  boxes = found.boxes;
  spelled = ap (λ ss. OpenStyle ∷ RawText place ∷ CloseStyle ∷ ss) found.spelled;
  titles = found.titles;
  styles = let h : 1 + style_count found.items ≤ 1 = found.styles in omega arith;
  sheet_is = found.sheet_is;
}

rest_items : (titled : Bool) (sheet : Option Place) (symbols : List Symbol) (p : Place) → Rest (AtItem (seen_as titled sheet)) symbols p → Items titled sheet symbols p
rest_items titled sheet (OpenMeta ∷ ss) p rest = with_meta titled sheet ss p (rest_items titled sheet ss p rest)
rest_items false sheet (OpenTitle ∷ RawText place ∷ CloseTitle ∷ ss) p rest = with_title place sheet ss p (rest_items true sheet ss p rest)
rest_items titled None (OpenStyle ∷ RawText place ∷ CloseStyle ∷ ss) p rest = with_style place titled ss p (rest_items titled (Some place) ss p rest)
rest_items titled sheet (CloseHead ∷ OpenBody ∷ ss) p rest = no_items titled sheet ss p (rest_boxes ss p (unwrap_or sheet nowhere) rest)
rest_items _ _ _ p rest = elim rest [ ]

-- whole pages
pub spell_rest : (symbols : List Symbol) (p : Place) → SpellPage symbols p → Rest AtDoctype symbols p
spell_rest symbols p page =
    let rest : Rest AtDoctype (page_symbols page.parts) (sheet_of page.parts.items) = items_rest page.parts.items false None page.parts.boxes (omega (arith, page.one_title)) (omega (arith, page.one_style)) in
    subst (λ s. Rest AtDoctype s p) (sym page.spelled) (subst (Rest AtDoctype (page_symbols page.parts)) (sym page.sheet_is) rest)

page_of_items : (symbols : List Symbol) (p : Place) → Items false None symbols p → SpellPage (Doctype ∷ OpenHtml ∷ OpenHead ∷ symbols) p
page_of_items symbols p found = record {
  parts = record { items = found.items; boxes = found.boxes };
  spelled = ap (λ ss. Doctype ∷ OpenHtml ∷ OpenHead ∷ ss) found.spelled;
  one_title = let h : 0 + title_count found.items ≤ 1 = found.titles in omega arith;
  one_style = let h : 0 + style_count found.items ≤ 1 = found.styles in omega arith;
  sheet_is = found.sheet_is;
}

pub rest_spell : (symbols : List Symbol) (p : Place) → Rest AtDoctype symbols p → SpellPage symbols p
rest_spell (Doctype ∷ OpenHtml ∷ OpenHead ∷ ss) p rest = page_of_items ss p (rest_items false None ss p rest)
rest_spell _ p rest = elim rest [ ]

-- one sheet at most
end_one : (stage : Stage) (p q : Place) → IsEnd stage p → IsEnd stage q → q ≡ p
end_one (AtEnd sheet) p q is also = also ∙ sym is
end_one _ p q is also = elim is [ ]

rest_one : (symbols : List Symbol) (stage : Stage) (p q : Place) → Rest stage symbols p → Rest stage symbols q → q ≡ p
rest_one [] stage p q is also = end_one stage p q is also
rest_one (s ∷ ss) stage p q is also = step (next_stage stage s) is also (λ next. rest_one ss next p q) where
  step : (o : Option Stage) → RestNext (λ t. Rest t ss p) o → RestNext (λ t. Rest t ss q) o → ((next : Stage) → Rest next ss p → Rest next ss q → q ≡ p) → q ≡ p
  step None is also more = elim is [ ]
  step (Some next) is also more = more next is also

pub one_sheet : (symbols : List Symbol) (p q : Place) → SpellPage symbols p → SpellPage symbols q → q ≡ p
one_sheet symbols p q is also = rest_one symbols AtDoctype p q (spell_rest symbols p is) (spell_rest symbols q also)

-- tokens that cease to be a page's
pub stops_stop : (symbols : List Symbol) (n : ℕ) → Stops AtDoctype symbols n → StopAt symbols n
stops_stop symbols n stops = record {
  within = stops.within;
  begins = record { more = stops.begins.0; sheet = stops.begins.1; page = rest_spell (take n symbols ++ stops.begins.0) stops.begins.1 stops.begins.2 };
  greatest = λ m fits begin. stops.greatest m fits (begin.more, begin.sheet, spell_rest (take m symbols ++ begin.more) begin.sheet begin.page);
  no_page = λ p page. stops.no_page p (spell_rest symbols p page);
}

-- they do so at one place
pub one_stop : (symbols : List Symbol) (n m : ℕ) → StopAt symbols n → StopAt symbols m → m ≡ n
one_stop symbols n m stops also =
    let below : n ≤ m = also.greatest n stops.within stops.begins in
    let above : m ≤ n = stops.greatest m also.within also.begins in
    omega arith
