use Rattle.flash_top.proofs.AcceptedLemmas.{one_verified}
use Rattle.flash_top.proofs.AnswerLemmas.{one_tint, one_verdict}
use Rattle.flash_top.proofs.DemoLemmas.{one_demo}
use Rattle.flash_top.proofs.LightLemmas.{one_light}
use Rattle.flash_top.proofs.laws.one_answer.Goals as goal

pub returns-clause-check : goal.returns-clause-check
returns-clause-check c = one_verdict

pub returns-clause-verify : goal.returns-clause-verify
returns-clause-verify c = one_verified

pub returns-clause-tint : goal.returns-clause-tint
returns-clause-tint c = one_tint

pub returns-clause-light : goal.returns-clause-light
returns-clause-light c = one_light

pub returns-clause-demo : goal.returns-clause-demo
returns-clause-demo c = one_demo
