-- By cases on both answers.
use Rattle.page_judge.proofs.OneLemmas.{one-judgement}
use Rattle.page_judge.proofs.judging.one_judgement.Goals as goal

pub returns : goal.returns
returns c = one-judgement
