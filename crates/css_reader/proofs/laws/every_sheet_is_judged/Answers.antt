use Rattle.css_reader.proofs.JudgedSheets.{sheet_judged, sheet_never_memory}
use Rattle.css_reader.proofs.laws.every_sheet_is_judged.Goals as goal

pub returns-clause-judged : goal.returns-clause-judged
returns-clause-judged c = sheet_judged

pub returns-clause-no_memory : goal.returns-clause-no_memory
returns-clause-no_memory c = sheet_never_memory
