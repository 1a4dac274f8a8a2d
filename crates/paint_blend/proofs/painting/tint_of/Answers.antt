-- Known states paint one colour, and the ends of a tint are in order.
use Rattle.std.proofs.Common.{◌∙◌, subst, sym}
use Rattle.frame_state.specs.States.{states_as}
use Rattle.paint_blend.specs.Paint.{IsOrdered}
use Rattle.paint_blend.proofs.ExactLemmas.{tint_of-known}
use Rattle.paint_blend.proofs.OrderLemmas.{tint_of-ordered}
use Rattle.paint_blend.proofs.painting.tint_of.Goals as goal

pub returns-clause-exact : goal.returns-clause-exact
returns-clause-exact c known are =
    c.painted.ensures ∙ tint_of-known c.args.scene.now (states_as c.args.states.now) known c.args.x c.args.y c.requires.valid are

pub returns-clause-ordered : goal.returns-clause-ordered
returns-clause-ordered c =
    subst IsOrdered (sym c.painted.ensures) (tint_of-ordered c.args.scene.now (states_as c.args.states.now) c.args.x c.args.y)
