-- The interval has an easing and values in their limits.
use Rattle.std.proofs.Common.{sym, subst}
use Rattle.page_model.specs.ValidScene.{IsEasing}
use Rattle.fix_span.specs.Frac.{fraction_of}
use Rattle.keyframe_sets.specs.declared.types.Interval.{Interval}
use Rattle.keyframe_sets.specs.Here.{interval_here}
use Rattle.keyframe_sets.specs.Views.{with_frac}
use Rattle.layer_ways.specs.Alpha.{HasAlpha}
use Rattle.layer_ways.proofs.ValueLemmas.{interval-alpha}
use Rattle.layer_ways.proofs.PlainLemmas.{interval-limits, mapped_some}
use Rattle.layer_ways.proofs.ways.way_by.Goals as goal

pub eased_way-requires-clause-limits : goal.eased_way-requires-clause-limits
eased_way-requires-clause-limits c =
    let found = mapped_some with_frac (interval_here c.args.scene.now c.args.effect.layer c.args.effect.anim c.args.prop (fraction_of c.args.effect.at)) c.in-Some.interval
    (sym c.in-Some.ensures.value) in
    subst (λ (i : Interval). IsEasing i.easing) found.2
    (interval-limits c.args.scene.now c.args.effect.layer c.args.effect.anim c.args.prop (fraction_of c.args.effect.at) found.0 c.requires found.1)

pub eased_way-requires-clause-first : goal.eased_way-requires-clause-first
eased_way-requires-clause-first c =
    let found = mapped_some with_frac (interval_here c.args.scene.now c.args.effect.layer c.args.effect.anim c.args.prop (fraction_of c.args.effect.at)) c.in-Some.interval
    (sym c.in-Some.ensures.value) in
    subst (λ (i : Interval). HasAlpha i.from) found.2
    (interval-alpha c.args.scene.now c.args.effect.layer c.args.effect.anim c.args.prop (fraction_of c.args.effect.at) found.0 c.requires found.1).from

pub eased_way-requires-clause-second : goal.eased_way-requires-clause-second
eased_way-requires-clause-second c =
    let found = mapped_some with_frac (interval_here c.args.scene.now c.args.effect.layer c.args.effect.anim c.args.prop (fraction_of c.args.effect.at)) c.in-Some.interval
    (sym c.in-Some.ensures.value) in
    subst (λ (i : Interval). HasAlpha i.to) found.2
    (interval-alpha c.args.scene.now c.args.effect.layer c.args.effect.anim c.args.prop (fraction_of c.args.effect.at) found.0 c.requires found.1).to
