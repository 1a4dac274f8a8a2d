-- Each layer that changed is looked at.
use Rattle.std.proofs.Common.{◌≡◌, take, arith, refl, rules, subst}
use Rattle.std.specs.Prelude.{All, IsTrue}
use Rattle.std.proofs.lemmas.List.{take_all}
use Rattle.std.proofs.lemmas.List.Elements.{All-more}
use Rattle.paint_blend.specs.Kept.{MissesBoth}
use Rattle.paint_blend.proofs.KeptLemmas.{tint-kept}
use Rattle.paint_blend.proofs.kept.is_kept.Goals as goal

pub loop-number-preserved : goal.loop-number-preserved
loop-number-preserved c =
    let missed : IsTrue c.misses_both.result = search rules in
    All-more (MissesBoth c.args.before.now c.args.now.now c.args.x c.args.y) c.args.changed.now c.loop-number.number-index 0
    (omega arith) c.loop-number.invariant (c.misses_both.ensures.0 missed)

pub returns-clause-missed : goal.returns-clause-missed
returns-clause-missed c =
    let all : take c.loop-number.number-index c.args.changed.now ≡ c.args.changed.now =
    take_all c.loop-number.number-index c.args.changed.now (search rules) in
    (λ so. subst (All (MissesBoth c.args.before.now c.args.now.now c.args.x c.args.y)) all c.loop-number.invariant, λ all. refl)

pub returns-clause-kept : goal.returns-clause-kept
returns-clause-kept c so scene valid long =
    let all : take c.loop-number.number-index c.args.changed.now ≡ c.args.changed.now =
    take_all c.loop-number.number-index c.args.changed.now (search rules) in
    tint-kept scene c.args.before.now c.args.now.now c.args.changed.now c.args.x c.args.y c.requires.changed
    (subst (All (MissesBoth c.args.before.now c.args.now.now c.args.x c.args.y)) all c.loop-number.invariant) valid long
