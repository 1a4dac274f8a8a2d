-- Each layer needs a frame at least.
use Rattle.std.proofs.Common.{ℕ, List, arith}
use Rattle.page_model.specs.declared.scene.Scene.{Scene}
use Rattle.page_model.specs.declared.setup.Setup.{Setup}
use Rattle.period_frames.specs.declared.frames.Horizon.{Horizon}
use Rattle.region_split.specs.Marks.{HasFramesOfEach}
use Rattle.tint_laws.proofs.WindowLemmas.{layer-at}
use Rattle.region_parts.specs.Needs.{AreNeeds}
use Rattle.region_parts.proofs.parted.Parted.of.Goals as goal

frames-of_each : (scene : Scene) (setup : Setup) (horizons : List Horizon) (frames : List ℕ) → AreNeeds scene setup horizons frames
    → HasFramesOfEach scene frames
frames-of_each scene setup horizons frames needs = record {
  enough = omega (arith, needs.frames_too);
  some = λ number known.
      let found = layer-at scene.layers number known in
      let some = (needs.each number found.0 known found.1).short.some in
      omega (arith, needs.frames_are number known, some);
}

pub every-requires-clause-frames : goal.every-requires-clause-frames
every-requires-clause-frames c =
    rw c.as_slice.ensures.value
    (frames-of_each c.args.scene.now c.args.setup.now c.in_ok-needs.needs.horizons.items c.in_ok-needs.needs.frames.items c.in_ok-needs.ensures)
