use Rattle.css_reader.proofs.OneSheet.{one_sheet}
use Rattle.css_reader.proofs.laws.one_sheet_reading.Goals as goal

pub returns : goal.returns
returns c = one_sheet
