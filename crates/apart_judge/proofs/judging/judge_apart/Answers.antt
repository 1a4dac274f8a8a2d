-- A scene that can't be parted isn't judged so.
use Rattle.std.proofs.Common.{Err, subst}
use Rattle.region_parts.specs.declared.types.PartFault.{PartFault}
use Rattle.region_parts.specs.Parts.{IsParting}
use Rattle.apart_judge.proofs.JudgedLemmas.{not-judged}
use Rattle.apart_judge.proofs.judging.judge_apart.Goals as goal

pub returns-in-Err-NotApart : goal.returns-in-Err-NotApart
returns-in-Err-NotApart c =
    not-judged c.args.scene.now c.args.setup.now
    (subst (λ (fault : PartFault). IsParting c.args.scene.now c.args.setup.now (Err fault))
    c.in-Err-NotApart.field-0-is c.in-Err-NotApart.ensures)
