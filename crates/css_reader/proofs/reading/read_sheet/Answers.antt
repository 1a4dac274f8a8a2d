use Rattle.std.proofs.Common.{arith}
use Rattle.css_reader.proofs.OneSheet.{sheet_ready, sheet_told}
use Rattle.css_reader.proofs.reading.read_sheet.Goals as goal

pub returns-clause-told : goal.returns-clause-told
returns-clause-told c = λ outcome is. sheet_told c.args.text.now c.args.part c.read.result outcome c.read.ensures is

pub returns-clause-ready : goal.returns-clause-ready
returns-clause-ready c = sheet_ready c.args.text.now c.args.part c.read.result (omega arith) c.read.ensures
