use Rattle.std.proofs.Common.{rules, ◌∙◌, sym, Err}
use Rattle.css_declarations.specs.declared.fault.SheetFault.{SheetFault}
use Rattle.css_selectors.specs.SelectorGrammar.{Selector}
use Rattle.css_selectors.specs.SelectorViews.{part_of}
use Rattle.css_selectors.proofs.ReadingLemmas.{told_if}
use Rattle.css_selectors.proofs.SelectorLemmas.{part_added, part_leaves, selector_broken, selector_found}
use Rattle.css_selectors.proofs.selectors.selector_at.Goals as goal

pub returns-in-Err : goal.returns-in-Err
returns-in-Err c =
    let text = c.args.text.now in
    told_if (λ (f : SheetFault). Selector text c.args.end c.args.tokens.now (Err f)) c.in-Err.fault
    (selector_broken text c.args.end c.args.tokens.now c.parts.rest.now c.parts.compound c.parts.last c.in-Err.fault c.parts.invariant (sym c.ends_behind.ensures ∙ c.parts-test.true) c.in-Err.ensures)

pub parts-smaller : goal.parts-smaller
parts-smaller c = part_leaves c.args.text.now c.args.end c.parts.rest.now c.in-Ok.found.1.now (part_of c.in-Ok.found.0) c.in-Ok.ensures

pub parts-preserved : goal.parts-preserved
parts-preserved c =
    part_added c.args.text.now c.args.end c.args.tokens.now c.parts.rest.now c.in-Ok.found.1.now c.parts.compound c.add_part.new.compound c.parts.last (part_of c.in-Ok.found.0)
    c.parts.invariant (sym c.ends_behind.ensures ∙ c.parts-test.true) c.in-Ok.ensures c.in_ok-add_part.ensures

pub returns : goal.returns
returns c = record {
  item = c.parts.compound;
  is = selector_found c.args.text.now c.args.end c.args.tokens.now c.parts.rest.now c.parts.compound c.parts.last c.parts.invariant (sym c.ends_behind.ensures ∙ c.parts-test.false);
  new_is = search rules;
}
