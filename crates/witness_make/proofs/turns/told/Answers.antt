-- One turn more, and all nine.
use Rattle.std.proofs.Common.{◌≡◌, ◌∙◌, ◌+◌, ◌<◌, ap, arith, get_or, length, refl, rules, subst}
use Rattle.std.proofs.lemmas.List.{length-set}
use Rattle.std.proofs.lemmas.List.Elements.{All-set}
use Rattle.std.proofs.lemmas.Option.{get_or_from_slice_get, slice_get-get_or}
use Rattle.page_model.specs.declared.colour.Tint.{Tint}
use Rattle.wide_laws.specs.PaintLaws.{IsPixel}
use Rattle.witness_make.specs.Turns.{AreTurnsBefore, no_tint}
use Rattle.witness_make.proofs.TurnLemmas.{turns-more}
use Rattle.witness_make.proofs.turns.told.Goals as goal

pub loop-turn-preserved : goal.loop-turn-preserved
loop-turn-preserved c =
    let near : get_or c.args.trace.places c.loop-turn.turn 0 < length c.args.tints.now = search rules in record {
      nine_frames = length-set c.loop-turn.frames c.loop-turn.turn _ ∙ c.loop-turn.invariant.nine_frames;
      nine_tints = length-set c.loop-turn.told c.loop-turn.turn _ ∙ c.loop-turn.invariant.nine_tints;
      turns = turns-more c.args.start c.args.tints.now c.args.trace.places c.loop-turn.turn _ _ c.loop-turn.frames _ c.loop-turn.told _
          c.loop-turn.invariant.turns (omega (arith, c.loop-turn.invariant.nine_frames, c.loop-turn-test.true))
          (omega (arith, c.loop-turn.invariant.nine_tints, c.loop-turn-test.true)) refl refl (ap (λ n. c.args.start + n) c.from.ensures)
          (c.kept.ensures.same ∙ get_or_from_slice_get c.args.tints.now (get_or c.args.trace.places c.loop-turn.turn 0)
          (get_or c.args.tints.now (get_or c.args.trace.places c.loop-turn.turn 0) no_tint) _
          (slice_get-get_or c.args.tints.now (get_or c.args.trace.places c.loop-turn.turn 0) no_tint near));
      bytes = All-set (λ (tint : Tint). IsPixel tint.hi) c.loop-turn.told c.loop-turn.turn c.kept.result c.kept.ensures.bytes c.loop-turn.invariant.bytes;
    }

pub returns-clause-tells : goal.returns-clause-tells
returns-clause-tells c =
    let all : c.loop-turn.turn ≡ 9 = omega (arith, c.loop-turn.auto.turn-end, c.loop-turn-test.false) in record {
      kind = refl;
      nine_frames = c.loop-turn.invariant.nine_frames;
      nine_tints = c.loop-turn.invariant.nine_tints;
      turns = subst (λ n. AreTurnsBefore c.args.start c.args.tints.now c.args.trace.places n c.loop-turn.frames c.loop-turn.told) all
          c.loop-turn.invariant.turns;
    }
