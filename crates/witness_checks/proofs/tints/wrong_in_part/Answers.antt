-- One turn more, and all nine; or the first in which a pixel hasn't the stated tint.
use Rattle.std.proofs.Common.{◌∙◌, arith, length, rules}
use Rattle.std.proofs.lemmas.List.{length-set}
use Rattle.std.proofs.lemmas.List.Elements.{All-get_or, All-set}
use Rattle.std.proofs.lemmas.Option.{slice_get-get_or}
use Rattle.page_model.specs.TintOf.{tints_of}
use Rattle.witness_checks.specs.Kept.{IsKept}
use Rattle.witness_checks.proofs.TintLemmas.{first-turn, place-of, place-within, turn-more, turns-all}
use Rattle.witness_checks.proofs.tints.wrong_in_part.Goals as goal

pub loop-turn-init : goal.loop-turn-init
loop-turn-init c = record {
  nine = record { frames = search rules; tints = search rules };
  places = c.requires.places;
  kept = c.requires.kept;
  turns = λ run is turn frame tint below. absurd (omega (arith, below));
}

pub wrong_in_frame-requires-clause-kept : goal.wrong_in_frame-requires-clause-kept
wrong_in_frame-requires-clause-kept c =
    All-get_or (IsKept c.args.scene.now c.args.setup.now) c.loop-turn.kept (place-of c.args.part.now c.loop-turn.turn) _
    (place-within c.args.part.now c.loop-turn.turn (length c.loop-turn.kept) c.loop-turn.invariant.places) c.loop-turn.invariant.kept

pub returns-in-Some-clause-places : goal.returns-in-Some-clause-places
returns-in-Some-clause-places c = length-set c.loop-turn.kept (place-of c.args.part.now c.loop-turn.turn) _ ∙ c.loop-turn.invariant.places

pub returns-in-Some-clause-kept : goal.returns-in-Some-clause-kept
returns-in-Some-clause-kept c =
    All-set (IsKept c.args.scene.now c.args.setup.now) c.loop-turn.kept (place-of c.args.part.now c.loop-turn.turn) c.wrong_in_frame.new.kept c.wrong_in_frame.ensures.kept
    c.loop-turn.invariant.kept

pub returns-in-Some-clause-wrong : goal.returns-in-Some-clause-wrong
returns-in-Some-clause-wrong c run is =
    let nine = c.loop-turn.invariant.nine in
    let frame_is = slice_get-get_or c.args.part.now.frames c.loop-turn.turn 0 (omega (arith, nine.frames, c.loop-turn-test.true)) in
    first-turn (tints_of c.args.scene.now run) c.args.part.now c.loop-turn.turn _ c.in-Some.pixel.x c.in-Some.pixel.y _ frame_is
    (slice_get-get_or c.args.part.now.tints c.loop-turn.turn _ (omega (arith, nine.tints, c.loop-turn-test.true)))
    (c.loop-turn.invariant.turns run is) (c.in-Some.ensures.wrong (run _) (is c.loop-turn.turn _ frame_is))

pub loop-turn-preserved : goal.loop-turn-preserved
loop-turn-preserved c = record {
  nine = c.loop-turn.invariant.nine;
  places = length-set c.loop-turn.kept (place-of c.args.part.now c.loop-turn.turn) _ ∙ c.loop-turn.invariant.places;
  kept = All-set (IsKept c.args.scene.now c.args.setup.now) c.loop-turn.kept (place-of c.args.part.now c.loop-turn.turn) c.wrong_in_frame.new.kept
      c.wrong_in_frame.ensures.kept c.loop-turn.invariant.kept;
  turns = λ run is.
      let nine = c.loop-turn.invariant.nine in
      let frame_is = slice_get-get_or c.args.part.now.frames c.loop-turn.turn 0 (omega (arith, nine.frames, c.loop-turn-test.true)) in
      turn-more (tints_of c.args.scene.now run) c.args.part.now c.loop-turn.turn _ _ frame_is
      (slice_get-get_or c.args.part.now.tints c.loop-turn.turn _ (omega (arith, nine.tints, c.loop-turn-test.true)))
      (c.loop-turn.invariant.turns run is) (c.in_default.ensures.wrong (run _) (is c.loop-turn.turn _ frame_is));
}

pub returns-clause-wrong : goal.returns-clause-wrong
returns-clause-wrong c run is =
    let nine = c.loop-turn.invariant.nine in
    turns-all (tints_of c.args.scene.now run) c.args.part.now c.loop-turn.turn (omega (arith, nine.frames, c.loop-turn-test.false))
    (c.loop-turn.invariant.turns run is)
