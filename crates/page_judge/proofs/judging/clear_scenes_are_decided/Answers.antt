-- By cases on the answer.
use Rattle.page_judge.proofs.ClearLemmas.{clear-decided, past_work-widely}
use Rattle.page_judge.proofs.judging.clear_scenes_are_decided.Goals as goal

pub returns-clause-decided : goal.returns-clause-decided
returns-clause-decided c = clear-decided

pub returns-clause-work : goal.returns-clause-work
returns-clause-work c = past_work-widely
