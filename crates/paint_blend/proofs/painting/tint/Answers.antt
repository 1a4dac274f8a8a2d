-- The states that were written are the own ones, hold the exact ones and lie in the wide ones.
use Rattle.std.proofs.Common.{subst, sym, ◌∙◌}
use Rattle.page_model.specs.declared.colour.Tint.{Tint}
use Rattle.page_model.specs.Colour.{painted}
use Rattle.page_model.specs.TintOf.{tint_of}
use Rattle.flash_laws.specs.SureLaws.{IsOf}
use Rattle.tint_laws.specs.NestLaws.{LiesIn}
use Rattle.paint_blend.proofs.HeldLemmas.{colour-held, own-same, tint-within}
use Rattle.paint_blend.proofs.ReadyLemmas.{exact-known}
use Rattle.paint_blend.proofs.painting.tint.Goals as goal

pub returns-clause-only : goal.returns-clause-only
returns-clause-only c states are =
    c.tint_of.ensures.value
    ∙ own-same c.args.scene.now c.args.setup.now c.args.k _ states c.args.x c.args.y c.requires.valid c.states_at.ensures.own are

pub returns-clause-exact : goal.returns-clause-exact
returns-clause-exact c uncurved states are =
    c.tint_of.ensures.exact states
    (exact-known c.args.scene.now c.args.setup.now c.args.k _ states (c.states_at.ensures.exact uncurved) are)

pub returns-clause-holds : goal.returns-clause-holds
returns-clause-holds c states are =
    subst (λ (t : Tint). IsOf t (painted c.args.scene.now states c.args.x c.args.y)) (sym c.tint_of.ensures.value)
    (colour-held c.args.scene.now c.args.setup.now c.args.k _ states c.args.x c.args.y c.requires.valid c.states_at.ensures.own are)

pub returns-clause-wide : goal.returns-clause-wide
returns-clause-wide c states are =
    subst (λ (t : Tint). LiesIn (tint_of c.args.scene.now states c.args.x c.args.y) t) (sym c.tint_of.ensures.value)
    (tint-within c.args.scene.now c.args.setup.now c.args.k states _ c.args.x c.args.y c.requires.valid are c.states_at.ensures.own)
