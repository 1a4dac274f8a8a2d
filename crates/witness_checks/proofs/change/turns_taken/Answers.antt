-- One change more, and the turn at which there is none.
use Rattle.std.proofs.Common.{arith, refl}
use Rattle.std.proofs.lemmas.Bool.{false≢true}
use Rattle.page_model.specs.declared.colour.Tint.{Tint}
use Rattle.witness_checks.proofs.TurnLemmas.{turned-more, turned-stops}
use Rattle.witness_checks.proofs.change.turns_taken.Goals as goal

abbrev no_tint : Tint
no_tint = record { lo = record { r = 0; g = 0; b = 0 }; hi = record { r = 0; g = 0; b = 0 } }

pub returns-then-not-is_sure_change : goal.returns-then-not-is_sure_change
returns-then-not-is_sure_change c =
    turned-stops c.args.kind c.args.first c.args.tints.now c.loop-turn.turn c.loop-turn.forwards no_tint c.loop-turn.invariant
    (λ change. false≢true (c.if-not-is_sure_change.ensures.1 change))

pub loop-turn-preserved : goal.loop-turn-preserved
loop-turn-preserved c =
    turned-more c.args.kind c.args.first c.args.tints.now c.loop-turn.turn c.loop-turn.forwards no_tint c.loop-turn.invariant
    (omega arith) (c.if-not-is_sure_change.ensures.0 refl)
