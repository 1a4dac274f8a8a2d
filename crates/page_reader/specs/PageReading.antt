-- How a page is read: from token to token, by what may stand next.
use Rattle.std.specs.Prelude.{◌≡◌, ℕ, true, false, List, [], ◌∷◌, Option, Some, None, Result, Ok, Err, is_some, unwrap_or, if◌then◌else◌}
use Rattle.page_model.specs.declared.element.PageText.{PageText}
use Rattle.page_model.specs.declared.place.Place.{Place}
use Rattle.page_tokens.specs.HtmlText.{Word}
use Rattle.text_tokens.specs.declared.fault.ScanFault.{ScanFault}
use Rattle.text_tokens.specs.declared.fault.ScanFault.TheVariants.{BadToken, NoMemory as Unscanned}
use Rattle.page_reader.specs.declared.fault.PageFault.{PageFault}
use Rattle.page_reader.specs.declared.fault.PageFault.TheVariants.{BadText, NoMemory}
use Rattle.page_reader.specs.PageSymbols.{symbol_of}
use Rattle.page_reader.specs.PageElements.{elements_of}
use Rattle.page_reader.specs.PageGrammar.{nowhere}
use Rattle.page_reader.specs.declared.symbol.Symbol.{Symbol}
use Rattle.page_reader.specs.declared.symbol.Symbol.TheVariants.{Doctype, OpenHtml, OpenHead, OpenMeta, OpenTitle, OpenStyle, RawText, OpenBody, OpenBox, CloseHtml, CloseHead, CloseTitle, CloseStyle, CloseBody, CloseBox}
use Rattle.page_reader.specs.declared.symbol.BoxTag.{BoxTag}
use Rattle.page_reader.specs.declared.symbol.BoxTag.TheVariants.{Div, Span}
use Rattle.page_reader.specs.declared.stage.Seen.{Seen}
use Rattle.page_reader.specs.declared.stage.Stage.{Stage}
use Rattle.page_reader.specs.declared.stage.Stage.TheVariants.{AtDoctype, AtHtml, AtHead, AtItem, AtTitleText, AtTitleEnd, AtStyleText, AtStyleEnd, AtBody, AtBox, AtBoxEnd, AtHtmlEnd, AtEnd}

abbrev pub after_doctype : Symbol → Option Stage
after_doctype Doctype = Some AtHtml
after_doctype _ = None

abbrev pub after_html : Symbol → Option Stage
after_html OpenHtml = Some AtHead
after_html _ = None

-- nothing was seen in the head
abbrev pub seen_nothing : Seen
seen_nothing = record { title = false; sheet = None }

abbrev pub after_head : Symbol → Option Stage
after_head OpenHead = Some (AtItem seen_nothing)
after_head _ = None

-- where the sheet stands, as seen
abbrev pub sheet_seen : Seen → Place
sheet_seen seen = unwrap_or seen.sheet nowhere

abbrev pub after_item : Seen → Symbol → Option Stage
after_item seen OpenMeta = Some (AtItem seen)
after_item seen OpenTitle = if seen.title then None else Some (AtTitleText (record { title = true; sheet = seen.sheet }))
after_item seen OpenStyle = if is_some seen.sheet then None else Some (AtStyleText seen)
after_item seen CloseHead = Some (AtBody (sheet_seen seen))
after_item seen _ = None

abbrev pub after_title_text : Seen → Symbol → Option Stage
after_title_text seen (RawText place) = Some (AtTitleEnd seen)
after_title_text seen _ = None

abbrev pub after_title_end : Seen → Symbol → Option Stage
after_title_end seen CloseTitle = Some (AtItem seen)
after_title_end seen _ = None

abbrev pub after_style_text : Seen → Symbol → Option Stage
after_style_text seen (RawText place) = Some (AtStyleEnd (record { title = seen.title; sheet = Some place }))
after_style_text seen _ = None

abbrev pub after_style_end : Seen → Symbol → Option Stage
after_style_end seen CloseStyle = Some (AtItem seen)
after_style_end seen _ = None

abbrev pub after_body : Place → Symbol → Option Stage
after_body sheet OpenBody = Some (AtBox sheet)
after_body sheet _ = None

abbrev pub after_box : Place → Symbol → Option Stage
after_box sheet (OpenBox tag) = Some (AtBoxEnd sheet tag)
after_box sheet CloseBody = Some (AtHtmlEnd sheet)
after_box sheet _ = None

abbrev pub after_box_end : Place → BoxTag → Symbol → Option Stage
after_box_end sheet Div (CloseBox Div) = Some (AtBox sheet)
after_box_end sheet Span (CloseBox Span) = Some (AtBox sheet)
after_box_end sheet _ _ = None

abbrev pub after_html_end : Place → Symbol → Option Stage
after_html_end sheet CloseHtml = Some (AtEnd sheet)
after_html_end sheet _ = None

-- the stage behind a token, if it may stand there
abbrev pub next_stage : Stage → Symbol → Option Stage
next_stage AtDoctype symbol = after_doctype symbol
next_stage AtHtml symbol = after_html symbol
next_stage AtHead symbol = after_head symbol
next_stage (AtItem seen) symbol = after_item seen symbol
next_stage (AtTitleText seen) symbol = after_title_text seen symbol
next_stage (AtTitleEnd seen) symbol = after_title_end seen symbol
next_stage (AtStyleText seen) symbol = after_style_text seen symbol
next_stage (AtStyleEnd seen) symbol = after_style_end seen symbol
next_stage (AtBody sheet) symbol = after_body sheet symbol
next_stage (AtBox sheet) symbol = after_box sheet symbol
next_stage (AtBoxEnd sheet tag) symbol = after_box_end sheet tag symbol
next_stage (AtHtmlEnd sheet) symbol = after_html_end sheet symbol
next_stage (AtEnd sheet) symbol = None

-- the sheet where the text may end
abbrev pub ended : ℕ → Stage → Result Place ℕ
ended total (AtEnd sheet) = Ok sheet
ended total _ = Err total

-- the sheet of a page's tokens in a text of this length, or where they cease to be a page's
abbrev pub judged_next : (Stage → Result Place ℕ) → ℕ → Option Stage → Result Place ℕ
judged_next more place None = Err place
judged_next more place (Some stage) = more stage

abbrev pub judged : ℕ → Stage → List Word → Result Place ℕ
judged total stage [] = ended total stage
judged total stage (word ∷ words) = judged_next (λ next. judged total next words) word.place.from (next_stage stage (symbol_of word))

-- the page of these tokens, with all its elements, or where they cease to be a page's
abbrev pub IsJudged : ℕ → List Word → Result PageText ℕ → Type 0
IsJudged total words (Ok page) = (judged total AtDoctype words ≡ Ok page.sheet) × (page.elements ≡ elements_of total words)
IsJudged total words (Err place) = judged total AtDoctype words ≡ Err place

-- a fault of the tokens as one of the page
abbrev pub told : ScanFault → PageFault
told (BadToken place) = BadText place
told Unscanned = NoMemory
