-- One part more, and all of them; or the first in which a pixel hasn't the stated tint.
use Rattle.std.proofs.Common.{ap, get_or, length, arith, refl}
use Rattle.std.proofs.lemmas.List.Elements.{All-replicate}
use Rattle.std.proofs.lemmas.Option.{slice_get-get_or}
use Rattle.page_model.specs.TintOf.{tints_of}
use Rattle.witness_checks.specs.Kept.{IsKept}
use Rattle.witness_checks.proofs.TintLemmas.{first-part, own-in-part, no_part, part-inside, part-more, part-there}
use Rattle.witness_checks.proofs.tints.wrong_tint.Goals as goal

pub loop-part-init : goal.loop-part-init
loop-part-init c = record {
  places = refl;
  kept = All-replicate (IsKept c.args.scene.now c.args.setup.now) 241 _ (λ frame none. absurd cc);
  parts = λ run is k other below. absurd (omega (arith, below));
}

pub wrong_in_part-requires-clause-columns : goal.wrong_in_part-requires-clause-columns
wrong_in_part-requires-clause-columns c =
    let there = part-there c.args.witness.now.parts c.as_slice-parts.result.now c.loop-part.part no_part c.as_slice-parts.ensures c.loop-part-test.true in
    let inside = part-inside c.args.setup.now c.args.witness.now c.loop-part.part _ c.requires.timed there in
    omega (arith, inside.in_width, c.width.ensures.limit)

pub wrong_in_part-requires-clause-rows : goal.wrong_in_part-requires-clause-rows
wrong_in_part-requires-clause-rows c =
    let there = part-there c.args.witness.now.parts c.as_slice-parts.result.now c.loop-part.part no_part c.as_slice-parts.ensures c.loop-part-test.true in
    let inside = part-inside c.args.setup.now c.args.witness.now c.loop-part.part _ c.requires.timed there in
    omega (arith, inside.in_height, c.height.ensures.limit)

pub returns-in-Some : goal.returns-in-Some
returns-in-Some c =
    let there = part-there c.args.witness.now.parts c.as_slice-parts.result.now c.loop-part.part _ c.as_slice-parts.ensures c.loop-part-test.true in record {
      timed = c.requires.timed;
      first = λ run is.
          first-part (tints_of c.args.scene.now run) c.args.witness.now.parts c.loop-part.part c.in-Some.wrong.turn c.in-Some.wrong.pixel.x
          c.in-Some.wrong.pixel.y c.from.result c.from-in-Some.result _ there c.from.ensures c.from-in-Some.ensures (c.loop-part.invariant.parts run is)
          (c.in-Some.ensures.wrong run (own-in-part c.args.scene.now c.args.setup.now c.args.witness.now run c.loop-part.part _ c.requires.timed is there));
    }

pub loop-part-preserved : goal.loop-part-preserved
loop-part-preserved c = record {
  places = c.wrong_in_part.ensures.places;
  kept = c.wrong_in_part.ensures.kept;
  parts = λ run is.
      let there = part-there c.args.witness.now.parts c.as_slice-parts.result.now c.loop-part.part _ c.as_slice-parts.ensures c.loop-part-test.true in
      part-more (tints_of c.args.scene.now run) c.args.witness.now.parts c.loop-part.part _ there (c.loop-part.invariant.parts run is)
      (c.in_default.ensures.wrong run (own-in-part c.args.scene.now c.args.setup.now c.args.witness.now run c.loop-part.part _ c.requires.timed is there));
}

pub returns : goal.returns
returns c run is k d below =
    let items = c.as_slice-parts.ensures in
    c.loop-part.invariant.parts run is k (get_or c.args.witness.now.parts k d) (omega (arith, ap length items, below, c.loop-part-test.false))
    (slice_get-get_or c.args.witness.now.parts k d below)
