-- An endless animation repeats after its term.
use Rattle.std.proofs.Common.{[], ◌∷◌, subst, sym, ◌∙◌}
use Rattle.period_frames.specs.Periods.{IsPeriodOrLong}
use Rattle.period_frames.proofs.JoinLemmas.{short-period}
use Rattle.period_frames.proofs.SingleLemmas.{period-endless}
use Rattle.period_frames.proofs.periods.period_of.Goals as goal

pub returns-then-is_endless-clause-period : goal.returns-then-is_endless-clause-period
returns-then-is_endless-clause-period c =
    let setup = c.args.setup.now in
    let anim = c.args.anim.now in
    let endless = sym c.is_endless.ensures ∙ c.if-is_endless.true in
    subst (IsPeriodOrLong setup (anim ∷ [])) (sym c.up_to_most.ensures)
    (short-period setup (anim ∷ []) c.term.result (period-endless setup anim c.term.result endless c.term.ensures))
