-- What the verdict says of the scene.
use Rattle.std.proofs.Common.{subst}
use Rattle.sweep.specs.declared.types.Verdict.{Verdict}
use Rattle.sweep.specs.Verdicts.{IsVerdictBy}
use Rattle.page_judge.proofs.JudgedLemmas.{failed-whole, pass-of, undecided-of}
use Rattle.page_judge.proofs.judging.judgement_of.Goals as goal

pub returns : goal.returns
returns c =
    rw c.undecided.ensures
    (undecided-of c.args.sweep c.args.sweep.apart c.in-Undecided.reason c.requires c.requires.by
    (subst (λ (v : Verdict). IsVerdictBy c.args.sweep.scene c.args.sweep.setup c.args.sweep.needed c.args.sweep.apart v) c.in-Undecided.is
    c.run.ensures.verdict))
