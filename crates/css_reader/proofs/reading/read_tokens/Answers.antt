use Rattle.std.proofs.Common.{◌∙◌, sym}
use Rattle.css_reader.proofs.SheetReading.{no_items, item_leaves, item_put, item_broken, items_ended}
use Rattle.css_reader.proofs.reading.read_tokens.Goals as goal

pub reading-init : goal.reading-init
reading-init c = no_items c.args.text.now c.args.part.to c.args.tokens.now c.new-sheet.result c.new-sheet.ensures

pub returns-in-Err : goal.returns-in-Err
returns-in-Err c =
    item_broken c.args.text.now c.args.part c.args.tokens.now c.reading.rest.now c.reading.sheet c.in-Err.fault c.requires c.reading.invariant (sym c.is_empty.ensures ∙ c.reading-test.true) c.in-Err.ensures

pub reading-smaller : goal.reading-smaller
reading-smaller c = item_leaves c.args.text.now c.args.part.to c.reading.rest.now c.in-Ok.more.now c.reading.sheet c.item_at.new.sheet c.in-Ok.ensures

pub reading-preserved : goal.reading-preserved
reading-preserved c =
    item_put c.args.text.now c.args.part.to c.args.tokens.now c.reading.rest.now c.in-Ok.more.now c.reading.sheet c.item_at.new.sheet c.reading.invariant (sym c.is_empty.ensures ∙ c.reading-test.true) c.in-Ok.ensures

pub returns : goal.returns
returns c =
    items_ended c.args.text.now c.args.part c.args.tokens.now c.reading.rest.now c.reading.sheet c.requires c.reading.invariant (sym c.is_empty.ensures ∙ c.reading-test.false)
