-- The judgement of the scene is that of the bytes.
use Rattle.std.proofs.Common.{subst, sym}
use Rattle.flash_top.specs.Verdicts.{IsVerdict}
use Rattle.flash_top.specs.declared.outcome.Outcome.{Outcome}
use Rattle.flash_top.proofs.VerdictLemmas.{judged_verdict}
use Rattle.flash_top.proofs.checking.verdict.Goals as goal

pub returns-in-Ok : goal.returns-in-Ok
returns-in-Ok c bytes loaded =
    subst (λ (outcome : Outcome). IsVerdict c.args.setup bytes outcome) (sym c.told.ensures)
    (judged_verdict c.args.setup bytes c.args.scene c.in-Ok.judgement loaded c.in-Ok.ensures)
