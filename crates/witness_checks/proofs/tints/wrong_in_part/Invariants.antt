-- The turns passed have their tints.
use Rattle.std.proofs.Common.{◌≡◌, All, length}
use Rattle.page_model.specs.Enclosure.{LooseRun}
use Rattle.page_model.specs.TintOf.{tints_of}
use Rattle.page_model.specs.WitnessConditions.{HasNineTurns}
use Rattle.witness_checks.specs.Faults.{HaveTintsBefore}
use Rattle.witness_checks.specs.Kept.{IsKept}
use Rattle.witness_checks.specs.OwnTints.{IsOwnIn}
use Rattle.witness_checks.proofs.tints.wrong_in_part.Given as goal

abbrev pub invariant-loop-turn : goal.invariant-loop-turn
invariant-loop-turn l = record {
  nine : HasNineTurns l.part;
  places : length l.kept ≡ 241;
  kept : All (IsKept l.scene l.setup) l.kept;
  turns : (run : LooseRun) → IsOwnIn l.scene l.setup l.part run → HaveTintsBefore (tints_of l.scene run) l.part l.turn;
}
