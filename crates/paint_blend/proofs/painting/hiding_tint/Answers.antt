use Rattle.frame_state.specs.States.{state_as}
use Rattle.paint_blend.proofs.HideLemmas.{opaque_hides}
use Rattle.paint_blend.proofs.painting.hiding_tint.Goals as goal

pub returns-clause-hides : goal.returns-clause-hides
returns-clause-hides c = opaque_hides (state_as c.args.state.now) c.requires
