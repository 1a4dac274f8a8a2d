-- The body has a colour, so its state is ready.
use Rattle.std.proofs.Common.{◌∙◌, sym}
use Rattle.paint_blend.proofs.ReadyLemmas.{ground-ready}
use Rattle.paint_blend.proofs.painting.ground.Goals as goal

pub tint_over-requires : goal.tint_over-requires
tint_over-requires c =
    ground-ready c.args.scene.now c.args.states.now _ c.requires.states c.requires.valid.some_layer c.requires.ready
    (sym c.has_ground.ensures ∙ c.if-has_ground.true)
