use Rattle.std.proofs.Common.{◌∙◌, sym, subst, Bool}
use Rattle.css_selectors.specs.Readings.{Puts}
use Rattle.css_reader.specs.SheetGrammar.{item_by, with_item}
use Rattle.css_declarations.specs.DeclarationReading.{shown}
use Rattle.css_reader.proofs.reading.item_at.Goals as goal

pub returns-then-begins_at_word : goal.returns-then-begins_at_word
returns-then-begins_at_word c =
    subst (λ (b : Bool). Puts with_item (item_by b c.args.text.now c.args.end c.args.tokens.now) c.args.sheet.now c.keyframes_at.new.sheet (shown (λ rest. rest.now) c.keyframes_at.result))
    (sym c.if-begins_at_word.true ∙ c.begins_at_word.ensures) c.keyframes_at.ensures

pub returns-else-begins_at_word : goal.returns-else-begins_at_word
returns-else-begins_at_word c =
    subst (λ (b : Bool). Puts with_item (item_by b c.args.text.now c.args.end c.args.tokens.now) c.args.sheet.now c.rule_at.new.sheet (shown (λ rest. rest.now) c.rule_at.result))
    (sym c.if-begins_at_word.false ∙ c.begins_at_word.ensures) c.rule_at.ensures
