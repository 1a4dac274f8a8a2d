-- Why a page that is judged region by region is safe for ever: a pixel shows what the layers that meet its cell show, and those repeat
-- after the cell's own frames, so each window of the pixel is one that was looked at.
use Rattle.std.specs.Prelude.{ℕ, ◌≡◌}
use Rattle.page_model.specs.declared.scene.Scene.{Scene}
use Rattle.page_model.specs.declared.setup.Setup.{Setup}
use Rattle.page_model.specs.Colour.{IsSafeScene}
use Rattle.page_model.specs.Enclosure.{LooseRun, own}
use Rattle.page_model.specs.SeparateJudgement.{IsJudgedApart, IsNotApart, IsOwnRun, IsSeparatelySafe}
use Rattle.page_model.specs.Time.{HasFrames}
use Rattle.page_model.specs.ValidScene.{IsValid}
use Rattle.page_model.specs.Window.{IsPossiblyBad, IsSurelyBad}
use Rattle.horizon_laws.specs.ForeverLaws.{NoneEver}

-- no window is surely or possibly bad, from the first frame on for ever, and the scene is safe
pub record IsSafeForEver (scene : Scene) (setup : Setup) : Type 0 where
  pub none_surely : NoneEver (IsSurelyBad own scene setup)
  pub none_possibly : NoneEver (IsPossiblyBad own scene setup)
  pub safe : IsSafeScene scene setup

abbrev pub PartedPagesAreSafe : Type 0
PartedPagesAreSafe =
    (scene : Scene) (setup : Setup) (greatest : ℕ) → IsValid scene → HasFrames setup → IsJudgedApart scene setup greatest
    → IsSafeForEver scene setup

-- The separate judgement gives one number of frames, by whatever runs of states, and where it holds it isn't so that it doesn't.
pub record OneParting : Type 0 where
  pub by_runs : (scene : Scene) (setup : Setup) (run other : LooseRun) (greatest others : ℕ) → IsOwnRun scene setup run
      → IsOwnRun scene setup other → IsSeparatelySafe scene setup run greatest → IsSeparatelySafe scene setup other others
      → greatest ≡ others
  pub one : (scene : Scene) (setup : Setup) (greatest others : ℕ) → IsJudgedApart scene setup greatest
      → IsJudgedApart scene setup others → greatest ≡ others
  pub excluded : (scene : Scene) (setup : Setup) (greatest : ℕ) → IsJudgedApart scene setup greatest → IsNotApart scene setup → ⊥
