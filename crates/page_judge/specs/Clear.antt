-- Which scenes are decided: those within the counted bounds that stand clear of the thresholds by the wide kind, or are exact.
use Rattle.std.specs.Prelude.{ℕ, ℤ, ◌⊎◌, ◌≤◌}
use Rattle.page_model.specs.declared.scene.Scene.{Scene}
use Rattle.page_model.specs.declared.setup.Setup.{Setup}
use Rattle.page_model.specs.Cells.{IsTooMuchWork}
use Rattle.page_model.specs.Enclosure.{wide}
use Rattle.page_model.specs.Horizon.{IsNeeded, all_animations, frames_for}
use Rattle.page_model.specs.Window.{IsPossiblyBad, IsSurelyBad}
use Rattle.enclosure_laws.specs.ExactPageLaws.{IsExactPage}
use Rattle.sweep.specs.Verdicts.{NoneEver}
use Rattle.page_judge.specs.declared.types.Judgement.{Judgement}
use Rattle.page_judge.specs.declared.types.Judgement.TheVariants.{Pass, Fail}
use Rattle.page_judge.specs.Judgement.{IsJudgement, IsPastWork}

-- the windows that have to be looked at aren't too many, nor are, by the wide kind, the cells in their frames
pub record IsWithinCounts (scene : Scene) (setup : Setup) : Type 0 where
  pub needed : ℕ
  pub is_needed : IsNeeded setup (all_animations scene) needed
  pub few : needed ≤ 100000
  pub little_work : IsTooMuchWork wide scene setup (frames_for setup needed) → ⊥

-- some window is bad at some position
abbrev pub SomeEver : (ℕ → ℤ → ℤ → Type 0) → Type 0
SomeEver Bad = (start : ℕ) × (x : ℤ) × (y : ℤ) × Bad start x y

-- no window is possibly bad by the wide kind, or some window is surely bad by it, or the page is exact
abbrev pub IsClear : Scene → Setup → Type 0
IsClear scene setup =
    NoneEver (IsPossiblyBad wide scene setup) ⊎ (SomeEver (IsSurelyBad wide scene setup) ⊎ IsExactPage scene setup)

-- a scene passes, or fails
abbrev pub IsPassOrFail : Judgement → Type 0
IsPassOrFail (Pass frames apart) = Unit {0}
IsPassOrFail (Fail w) = Unit {0}
IsPassOrFail other = ⊥

-- what is clear is decided within the counted bounds
abbrev pub ClearScenesAreDecided : Type 0
ClearScenesAreDecided =
    (scene : Scene) (setup : Setup) (judgement : Judgement) → IsWithinCounts scene setup → IsClear scene setup
    → IsJudgement scene setup judgement → IsPassOrFail judgement

-- and where the cells in the frames are too many, they are so by the wide kind
abbrev pub WorkIsTooMuchWidely : Type 0
WorkIsTooMuchWidely =
    (scene : Scene) (setup : Setup) (cells frames : ℕ) → IsPastWork scene setup cells frames → IsTooMuchWork wide scene setup frames
