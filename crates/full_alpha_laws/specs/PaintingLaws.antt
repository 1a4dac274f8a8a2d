-- In a valid scene whose alphas are full each pixel looks as the former text says.
use Rattle.std.specs.Prelude.{ℕ, ◌≡◌, ◌+◌, ◌≤◌}
use Rattle.page_model.specs.declared.scene.Scene.{Scene}
use Rattle.page_model.specs.declared.setup.Setup.{Setup}
use Rattle.page_model.specs.Colour.{IsRunIn, Run, painting_of}
use Rattle.page_model.specs.Enclosure.{Kind, LooseRun}
use Rattle.page_model.specs.Time.{window_of}
use Rattle.page_model.specs.TintOf.{IsLooseRunIn, tints_of}
use Rattle.page_model.specs.ValidScene.{IsValid}
use Rattle.full_alpha_laws.specs.FormerPainting.{former_painted}
use Rattle.full_alpha_laws.specs.FormerTint.{former_tint_of}
use Rattle.full_alpha_laws.specs.FullAlpha.{HasFullAlpha}

abbrev pub ColoursAreFormer : Type 0
ColoursAreFormer =
    (scene : Scene) (setup : Setup) (start : ℕ) (run : Run) → IsValid scene → HasFullAlpha scene → IsRunIn scene setup start run
    → (frame column row : ℕ) → start ≤ frame → frame ≤ start + window_of setup
    → painting_of scene run frame column row ≡ former_painted scene (run frame) column row

abbrev pub TintsAreFormer : Type 0
TintsAreFormer =
    (kind : Kind) (scene : Scene) (setup : Setup) (start : ℕ) (run : LooseRun) → IsValid scene → HasFullAlpha scene
    → IsLooseRunIn kind scene setup start run → (frame column row : ℕ) → start ≤ frame → frame ≤ start + window_of setup
    → tints_of scene run frame column row ≡ former_tint_of scene (run frame) column row
