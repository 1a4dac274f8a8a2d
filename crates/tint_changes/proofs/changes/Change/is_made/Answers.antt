-- The tests of red are the definition's.
use Rattle.std.proofs.Common.{subst, sym}
use Rattle.std.specs.Prelude.{◌↔◌, IsTrue}
use Rattle.tint_changes.specs.declared.changes.Change.{Change}
use Rattle.tint_changes.specs.Counting.{Makes}
use Rattle.tint_changes.proofs.changes.Change.is_made.Goals as goal

pub returns-in-PossiblyIntoRed : goal.returns-in-PossiblyIntoRed
returns-in-PossiblyIntoRed c =
    subst (λ (change : Change). IsTrue c.into_possible.result ↔ Makes change c.args.from c.args.to) (sym c.in-PossiblyIntoRed.is)
    c.into_possible.ensures

pub returns-in-PossiblyOutOfRed : goal.returns-in-PossiblyOutOfRed
returns-in-PossiblyOutOfRed c =
    subst (λ (change : Change). IsTrue c.out_possible.result ↔ Makes change c.args.from c.args.to) (sym c.in-PossiblyOutOfRed.is)
    c.out_possible.ensures
