use Rattle.css_declarations.proofs.InlineLemmas.{inline_ready, inline_told, no_keyframes}
use Rattle.css_declarations.proofs.inline.read_inline.Goals as goal

pub returns-clause-told : goal.returns-clause-told
returns-clause-told c = λ outcome is. inline_told c.args.text.now c.args.part c.read.result outcome c.read.ensures is

pub returns-clause-ready : goal.returns-clause-ready
returns-clause-ready c = inline_ready c.args.text.now c.args.part c.read.result c.read.ensures

pub returns-clause-no_keyframes : goal.returns-clause-no_keyframes
returns-clause-no_keyframes c = no_keyframes c.args.text.now c.args.part c.read.result c.read.ensures
