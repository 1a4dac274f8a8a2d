use Rattle.css_reader.proofs.SheetLemmas.{numbered_with_set, others_stay, put_is_named}
use Rattle.css_reader.proofs.laws.one_set_a_name.Goals as goal

pub returns-clause-named : goal.returns-clause-named
returns-clause-named c = put_is_named

pub returns-clause-others : goal.returns-clause-others
returns-clause-others c = others_stay

pub returns-clause-numbered : goal.returns-clause-numbered
returns-clause-numbered c = numbered_with_set
