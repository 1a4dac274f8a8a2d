-- A page that is read is one that a scene can be made of.
use Rattle.std.proofs.Common.{List, ℕ}
use Rattle.page_model.specs.declared.element.PageText.{PageText}
use Rattle.page_reader.specs.PageText.{IsRead}
use Rattle.page_reader.proofs.PagePlaces.{page_whole}
use Rattle.cascade.specs.Sources.{IsReadyPage}

pub page_ready : (text : List ℕ) (page : PageText) → IsRead text page → IsReadyPage page.elements
page_ready text page is = let whole = page_whole text page is in record { some = whole.some; few = is.few; body = whole.body }
