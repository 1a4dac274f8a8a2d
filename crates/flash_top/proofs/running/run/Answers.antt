-- What is told of a page that fails is a witness in form.
use Rattle.flash_top.proofs.VersionLemmas.{outcome_told}
use Rattle.flash_top.proofs.WantLemmas.{told_outcome}
use Rattle.flash_top.proofs.running.run.Goals as goal

pub tell_own-requires-clause-told : goal.tell_own-requires-clause-told
tell_own-requires-clause-told g c = outcome_told _ _ _ _ _ c.outcome_of-outcome.ensures

pub returns : goal.returns
returns g c =
    let told = c.tell_own.ensures in
    (told.0, told_outcome _ _ _ _ _ told.0 c.outcome_of-outcome.ensures c.in-None.ensures told.1, told.2)
