-- What the wide kind says of a window: surely bad is bad, and where no window is possibly bad the scene is safe.
use Rattle.std.specs.Prelude.{ℕ, ℤ}
use Rattle.page_model.specs.declared.setup.Setup.{Setup}
use Rattle.page_model.specs.declared.scene.Scene.{Scene}
use Rattle.page_model.specs.Colour.{IsBadWindow, IsSafeScene}
use Rattle.page_model.specs.Enclosure.{LooseRun, wide}
use Rattle.page_model.specs.Flash.{HasManyFlagged}
use Rattle.page_model.specs.TintOf.{IsLooseRunIn, tints_of}
use Rattle.page_model.specs.ValidScene.{IsValid}
use Rattle.page_model.specs.Window.{IsPossiblyFlagged, IsSurelyBad}

abbrev pub SurelyBadIsBad : Type 0
SurelyBadIsBad =
    (scene : Scene) (setup : Setup) (start : ℕ) (x y : ℤ) → IsValid scene → IsSurelyBad wide scene setup start x y
    → IsBadWindow scene setup start x y

-- by no run of the wide kind are more than a quarter possibly flagged, in any window at any position
abbrev pub IsNeverPossiblyBad : Scene → Setup → Type 0
IsNeverPossiblyBad scene setup =
    (start : ℕ) (x y : ℤ) (run : LooseRun) → IsLooseRunIn wide scene setup start run
    → HasManyFlagged (IsPossiblyFlagged wide (tints_of scene run) setup start) setup x y → ⊥

abbrev pub NeverPossiblyBadIsSafe : Type 0
NeverPossiblyBadIsSafe = (scene : Scene) (setup : Setup) → IsValid scene → IsNeverPossiblyBad scene setup → IsSafeScene scene setup
