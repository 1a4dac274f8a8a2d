use Rattle.css_reader.specs.NameTable.{shown_names}
use Rattle.css_reader.proofs.SheetLemmas.{named_within}
use Rattle.css_reader.proofs.sheet.Sheet.put_set.Goals as goal

pub replace_at-requires : goal.replace_at-requires
replace_at-requires c =
    let inside = c.self.inside in
    named_within inside.sets (shown_names inside.numbers.entries) c.args.name.now _ c.self.invariant (cc)
