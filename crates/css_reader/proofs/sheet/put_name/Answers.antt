use Rattle.std.proofs.Common.{◌∙◌, ap}
use Rattle.css_reader.specs.NameTable.{shown_names}
use Rattle.css_reader.proofs.SheetLemmas.{from_ok, inserted_last}
use Rattle.css_reader.proofs.sheet.put_name.Goals as goal

pub returns : goal.returns
returns c =
    ap shown_names (from_ok _ (c.insert.ensures.succeeds c.requires.room) c.insert.ensures.entries)
    ∙ inserted_last c.args.numbers.now c.args.name c.args.number c.requires.new_name
