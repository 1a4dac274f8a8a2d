use Rattle.std.proofs.Common.{◌≡◌, length}
use Rattle.witness_make.specs.Turns.{AreOfBytes, AreTurnsBefore}
use Rattle.witness_make.proofs.turns.told.Given as goal

abbrev pub invariant-loop-turn : goal.invariant-loop-turn
invariant-loop-turn l = record {
  nine_frames : length l.frames ≡ 9;
  nine_tints : length l.told ≡ 9;
  turns : AreTurnsBefore l.start l.tints l.trace.places l.turn l.frames l.told;
  bytes : AreOfBytes l.told;
}
