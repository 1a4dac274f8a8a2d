use Rattle.css_reader.proofs.StuckSheets.{bad_is_stuck}
use Rattle.css_reader.proofs.laws.bad_sheets_are_stuck.Goals as goal

pub returns : goal.returns
returns c = bad_is_stuck
