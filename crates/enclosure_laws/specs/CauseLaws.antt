-- The five ways in which a window of a valid scene may be bad at a position stand in one order, and so an enclosure that the own kind
-- leaves open is one by the wide kind too.
use Rattle.std.specs.Prelude.{ℕ, ℤ}
use Rattle.page_model.specs.declared.scene.Scene.{Scene}
use Rattle.page_model.specs.declared.setup.Setup.{Setup}
use Rattle.page_model.specs.Colour.{IsBadWindow}
use Rattle.page_model.specs.Enclosure.{Kind, own, wide}
use Rattle.page_model.specs.ValidScene.{IsValid}
use Rattle.page_model.specs.Window.{IsPossiblyBad, IsSurelyBad}
use Rattle.horizon_laws.specs.ForeverLaws.{NoneEver}

-- what is surely bad by the wide kind is so by the own kind, then the window is bad, then it is possibly bad by the own kind, and what
-- is so is possibly bad by the wide kind
pub record BadWindowsAreOrdered : Type 0 where
  pub surely_own : (scene : Scene) (setup : Setup) (start : ℕ) (x y : ℤ) → IsValid scene
      → IsSurelyBad wide scene setup start x y → IsSurelyBad own scene setup start x y
  pub bad : (kind : Kind) (scene : Scene) (setup : Setup) (start : ℕ) (x y : ℤ) → IsValid scene
      → IsSurelyBad kind scene setup start x y → IsBadWindow scene setup start x y
  pub possible : (kind : Kind) (scene : Scene) (setup : Setup) (start : ℕ) (x y : ℤ) → IsValid scene
      → IsBadWindow scene setup start x y → IsPossiblyBad kind scene setup start x y
  pub possibly_wide : (scene : Scene) (setup : Setup) (start : ℕ) (x y : ℤ) → IsValid scene
      → IsPossiblyBad own scene setup start x y → IsPossiblyBad wide scene setup start x y

-- a window is possibly bad by a kind, and none is surely bad by it, wherever it starts
pub record IsLeftOpen (kind : Kind) (scene : Scene) (setup : Setup) (start : ℕ) (x y : ℤ) : Type 0 where
  pub possibly : IsPossiblyBad kind scene setup start x y
  pub none_surely : NoneEver (IsSurelyBad kind scene setup)

-- what the own kind leaves open, the wide kind does
abbrev pub OpenIsOpenWidely : Type 0
OpenIsOpenWidely =
    (scene : Scene) (setup : Setup) (start : ℕ) (x y : ℤ) → IsValid scene → IsLeftOpen own scene setup start x y
    → IsLeftOpen wide scene setup start x y
