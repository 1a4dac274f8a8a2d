-- The further of the two ways doesn't reach the last turn.
use Rattle.std.proofs.Common.{ℕ, arith, subst, sym}
use Rattle.witness_checks.specs.Faults.{IsFirstUnchanged}
use Rattle.witness_checks.proofs.TurnLemmas.{unchanged-at}
use Rattle.witness_checks.proofs.change.unchanged_turn.Goals as goal

pub returns-then-taken-lt9 : goal.returns-then-taken-lt9
returns-then-taken-lt9 c =
    subst (λ (turn : ℕ). IsFirstUnchanged c.args.kind c.args.tints.now turn) (sym c.max-taken.ensures)
    (unchanged-at c.args.kind c.args.tints.now c.turns_taken.result c.turns_taken-2.result c.turns_taken.ensures c.turns_taken-2.ensures (omega arith))
