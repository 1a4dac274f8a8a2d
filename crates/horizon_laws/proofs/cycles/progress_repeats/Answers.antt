-- By the lemmas on progress that repeats.
use Rattle.horizon_laws.proofs.RepeatLemmas.{endless-repeats, others-stay, repeats-together}
use Rattle.horizon_laws.proofs.cycles.progress_repeats.Goals as goal

pub returns : goal.returns
returns c = record { endless = endless-repeats; others = others-stay; together = repeats-together }
