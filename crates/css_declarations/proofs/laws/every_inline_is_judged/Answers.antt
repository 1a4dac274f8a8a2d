use Rattle.css_declarations.proofs.JudgedLists.{inline_judged, inline_never_memory}
use Rattle.css_declarations.proofs.laws.every_inline_is_judged.Goals as goal

pub returns-clause-judged : goal.returns-clause-judged
returns-clause-judged c = inline_judged

pub returns-clause-no_memory : goal.returns-clause-no_memory
returns-clause-no_memory c = inline_never_memory
