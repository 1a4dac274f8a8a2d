-- Pages whose easings in use are all `linear` or `steps`: each tint is a single colour, whatever moves or fades; and where no saturated colour
-- appears either, what is possible is sure, so no such page is left undecided by an enclosure.
use Rattle.std.specs.Prelude.{ℕ, ℤ, ◌+◌, ◌<◌, ◌≤◌}
use Rattle.page_model.specs.declared.scene.Scene.{Scene}
use Rattle.page_model.specs.declared.setup.Setup.{Setup}
use Rattle.page_model.specs.Change.{IsSingle}
use Rattle.page_model.specs.Colour.{IsRunIn, Run, painting_of}
use Rattle.page_model.specs.Enclosure.{Kind, LooseRun}
use Rattle.page_model.specs.Red.{IsSaturated}
use Rattle.page_model.specs.Time.{window_of}
use Rattle.page_model.specs.TintOf.{IsLooseRunIn, tints_of}
use Rattle.page_model.specs.ValidScene.{IsValid}
use Rattle.page_model.specs.Window.{IsPossiblyBad, IsSurelyBad}
use Rattle.safety_laws.specs.ComputedLaws.{HasNoCurve}

-- by each kind, whatever the states of the layers are, each pixel has one colour in each frame of a window
abbrev pub TintsAreSingle : Type 0
TintsAreSingle =
    (kind : Kind) (scene : Scene) (setup : Setup) (start : ℕ) (run : LooseRun) (frame column row : ℕ) → IsValid scene → HasNoCurve scene
    → IsLooseRunIn kind scene setup start run → start ≤ frame → frame ≤ start + window_of setup
    → IsSingle (tints_of scene run frame column row)

-- no saturated colour appears: no pixel of the viewport has one in any frame, by the exact states of the layers, whatever they are
abbrev pub IsNeverSaturated : Scene → Setup → Type 0
IsNeverSaturated scene setup =
    (frame column row : ℕ) (run : Run) → IsRunIn scene setup frame run → column < setup.width → row < setup.height
    → IsSaturated (painting_of scene run frame column row) → ⊥

-- an exact page: no curve, and no saturated colour
pub record IsExactPage (scene : Scene) (setup : Setup) : Type 0 where
  pub straight : HasNoCurve scene
  pub unsaturated : IsNeverSaturated scene setup

-- on such a page a window that is possibly bad by a kind is surely bad by it
abbrev pub ExactPagesAreDecided : Type 0
ExactPagesAreDecided =
    (kind : Kind) (scene : Scene) (setup : Setup) (start : ℕ) (x y : ℤ) → IsValid scene → IsExactPage scene setup
    → IsPossiblyBad kind scene setup start x y → IsSurelyBad kind scene setup start x y
