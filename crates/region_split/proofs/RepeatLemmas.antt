-- A layer that repeats does nothing new behind its settled frame and one period.
use Rattle.std.proofs.Common.{ℕ, ◌≡◌, ◌+◌, ◌<◌, ◌≤◌, arith, subst, sym}
use Rattle.page_model.specs.declared.scene.Layer.{Layer}
use Rattle.page_model.specs.declared.scene.Scene.{Scene}
use Rattle.page_model.specs.declared.setup.Setup.{Setup}
use Rattle.page_model.specs.Enclosure.{IsLooseStateAt, own}
use Rattle.horizon_laws.specs.ForeverLaws.{LayerRepeats}
use Rattle.horizon_laws.proofs.EarlierLemmas.{frames_have-earlier}
use Rattle.region_split.specs.Marks.{AreEnoughFrames}

-- so as many frames are enough, or fewer where fewer are asked for
pub repeats-enough : (scene : Scene) (setup : Setup) (layer : Layer) (settled period frames enough : ℕ) → 1 ≤ period
    → LayerRepeats scene setup layer settled period → ((frame : ℕ) → frame < frames → frame < settled + period → frame < enough)
    → AreEnoughFrames scene setup layer frames enough
repeats-enough scene setup layer settled period frames enough some repeats within frame below =
    let first = frames_have-earlier scene setup settled period frame some in
    let sum : first.earlier + first.later ≡ frame = first.sum in (
      first.earlier,
      within first.earlier (omega arith) first.before,
      λ state is. first.is_as layer own first.earlier state repeats (omega arith)
          (subst (λ k. IsLooseStateAt own scene setup k layer state) (sym sum) is),
    )

pub all-enough : (scene : Scene) (setup : Setup) (layer : Layer) (frames : ℕ) → AreEnoughFrames scene setup layer frames frames
all-enough scene setup layer frames frame below = (frame, below, λ state is. is)
