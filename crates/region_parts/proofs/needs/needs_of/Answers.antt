-- One layer more.
use Rattle.std.proofs.Common.{◌<◌, length, refl}
use Rattle.tint_laws.proofs.WindowLemmas.{layer-at}
use Rattle.region_parts.proofs.NeedLemmas.{needs-more}
use Rattle.region_parts.proofs.RefuteLemmas.{layer-refuted}
use Rattle.region_parts.proofs.needs.needs_of.Goals as goal

pub returns-in_default : goal.returns-in_default
returns-in_default c =
    let known : c.loop-number.number < length c.args.scene.now.layers = rw c.layers_of-number-end.ensures at c.loop-number-test.true in
    let found = layer-at c.args.scene.now.layers c.loop-number.number known in
    layer-refuted c.args.scene.now c.args.setup.now c.loop-number.number found.0 known found.1 (c.in_default.ensures.many found.0 found.1)

pub push-requires : goal.push-requires
push-requires c =
    let known : c.loop-number.number < length c.args.scene.now.layers = rw c.layers_of-number-end.ensures at c.loop-number-test.true in
    let found = layer-at c.args.scene.now.layers c.loop-number.number known in
    record { some = (c.in-Some.ensures.horizon found.0 found.1).period_is.holds.some; few = c.in-Some.ensures.few }

pub loop-number-preserved : goal.loop-number-preserved
loop-number-preserved c =
    rw (c.in_ok-push.ensures.horizons, c.in_ok-push.ensures.frames)
    (needs-more c.args.scene.now c.args.setup.now c.loop-number.number _ c.loop-number.needs.horizons.items c.loop-number.needs.frames.items
    c.in-Some.horizon
    (λ layer there. record {
      horizon_is = c.in-Some.ensures.horizon layer there;
      short = record { some = (c.in-Some.ensures.horizon layer there).period_is.holds.some; few = c.in-Some.ensures.few };
      repeats = c.in-Some.ensures.repeats layer there;
    }) refl c.loop-number.invariant)
