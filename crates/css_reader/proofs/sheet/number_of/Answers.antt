use Rattle.std.proofs.Common.{◌∙◌}
use Rattle.css_reader.proofs.SheetLemmas.{lookup_shown}
use Rattle.css_reader.proofs.sheet.number_of.Goals as goal

pub returns : goal.returns
returns c = c.copied.ensures ∙ c.get.ensures.value ∙ lookup_shown c.args.name.now c.args.numbers.now.entries
