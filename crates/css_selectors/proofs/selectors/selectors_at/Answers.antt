use Rattle.std.proofs.Common.{◌∙◌, sym, Err}
use Rattle.css_declarations.specs.declared.fault.SheetFault.{SheetFault}
use Rattle.css_selectors.specs.Readings.Then.{broken}
use Rattle.css_selectors.specs.SelectorGrammar.{Selector, Selectors}
use Rattle.css_selectors.proofs.ReadingLemmas.{told_as}
use Rattle.css_selectors.proofs.SelectorLemmas.{first_listed, next_listed, list_broken, list_ended, listed_shorter}
use Rattle.css_selectors.proofs.selectors.selectors_at.Goals as goal

pub listing-init : goal.listing-init
listing-init c = first_listed c.args.text.now c.args.end c.args.tokens.now c.in-Ok.rest.now c.args.selectors.now c.selector_at.new.selectors c.requires c.in-Ok.ensures

pub returns-in-Err : goal.returns-in-Err
returns-in-Err c =
    let text = c.args.text.now in let end = c.args.end in let tokens = c.args.tokens.now in
    told_as (λ (f : SheetFault). Selector text end tokens (Err f)) (λ (f : SheetFault). Selectors text end tokens (Err f)) (λ fault is. broken fault is) c.in-Err.fault c.in-Err.ensures

pub listing-smaller : goal.listing-smaller
listing-smaller c =
    listed_shorter c.args.text.now c.args.end c.listing.rest.now c.behind_first.result.now c.in-Ok-selector_at.more.now c.listing.selectors c.selector_at-in-listing.new.selectors
    (sym c.begins_comma.ensures ∙ c.listing-test.true) c.behind_first.ensures c.in-Ok-selector_at.ensures

pub listing-preserved : goal.listing-preserved
listing-preserved c =
    next_listed c.args.text.now c.args.end c.args.tokens.now c.listing.rest.now c.behind_first.result.now c.in-Ok-selector_at.more.now c.listing.selectors c.selector_at-in-listing.new.selectors
    c.listing.invariant (sym c.begins_comma.ensures ∙ c.listing-test.true) c.behind_first.ensures c.in-Ok-selector_at.ensures

pub returns-in-Err-selector_at : goal.returns-in-Err-selector_at
returns-in-Err-selector_at c =
    let text = c.args.text.now in let end = c.args.end in let tokens = c.args.tokens.now in
    told_as (λ (f : SheetFault). Selector text end c.behind_first.result.now (Err f)) (λ (f : SheetFault). Selectors text end tokens (Err f))
    (list_broken text end tokens c.listing.rest.now c.behind_first.result.now c.listing.selectors c.listing.invariant (sym c.begins_comma.ensures ∙ c.listing-test.true) c.behind_first.ensures)
    c.in-Err-selector_at.fault c.in-Err-selector_at.ensures

pub returns : goal.returns
returns c = list_ended c.args.text.now c.args.end c.args.tokens.now c.listing.rest.now c.listing.selectors c.listing.invariant (sym c.begins_comma.ensures ∙ c.listing-test.false)
