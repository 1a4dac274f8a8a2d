use Rattle.flash_top.proofs.RefusalLemmas.{one_cause, refused_or_loaded}
use Rattle.flash_top.proofs.laws.one_refusal.Goals as goal

pub returns-clause-one : goal.returns-clause-one
returns-clause-one c = one_cause

pub returns-clause-apart : goal.returns-clause-apart
returns-clause-apart c = refused_or_loaded
