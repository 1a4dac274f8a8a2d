-- The rate that is found is one that a version tells.
use Rattle.witness_text.proofs.FormLemmas.{told-found}
use Rattle.witness_text.proofs.look.witness_of.Goals as goal

pub returns-clause-told : goal.returns-clause-told
returns-clause-told c = told-found c.rate_of.result c.per_of-per.result _ _ c.per_of-per.ensures c.rate_of.ensures
