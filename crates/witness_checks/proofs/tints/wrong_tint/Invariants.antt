-- The parts passed have their tints.
use Rattle.std.proofs.Common.{ℕ, ◌≡◌, ◌<◌, All, Some, length, slice_get}
use Rattle.page_model.specs.declared.witness.Part.{Part}
use Rattle.page_model.specs.Enclosure.{LooseRun, own}
use Rattle.page_model.specs.TintOf.{IsLooseRunIn, tints_of}
use Rattle.page_model.specs.WitnessConditions.{HasTints}
use Rattle.witness_checks.specs.Kept.{IsKept}
use Rattle.witness_checks.proofs.tints.wrong_tint.Given as goal

abbrev pub invariant-loop-part : goal.invariant-loop-part
invariant-loop-part l = record {
  places : length l.kept ≡ 241;
  kept : All (IsKept l.scene l.setup) l.kept;
  parts : (run : LooseRun) → IsLooseRunIn own l.scene l.setup l.witness.start run → (k : ℕ) (other : Part) → k < l.part
      → slice_get l.witness.parts k ≡ Some other → HasTints (tints_of l.scene run) other;
}
