-- Bad windows of a valid scene lie between those that are surely bad and those that are possibly bad: with the exact states of its
-- layers and with the loose ones of a kind, whatever they are, in the frames of the window.
use Rattle.std.specs.Prelude.{ℕ, ℤ}
use Rattle.page_model.specs.declared.setup.Setup.{Setup}
use Rattle.page_model.specs.declared.scene.Scene.{Scene}
use Rattle.page_model.specs.Colour.{Run, IsRunIn, painting_of}
use Rattle.page_model.specs.Enclosure.{Kind, own, wide, LooseRun}
use Rattle.page_model.specs.Flash.{IsBad}
use Rattle.page_model.specs.TintOf.{IsLooseRunIn, tints_of}
use Rattle.page_model.specs.ValidScene.{IsValid}
use Rattle.tint_laws.specs.NestLaws.{PixelsAreOf, PixelsLieIn, IsSurelyBadBy, IsPossiblyBadBy}

pub record BadWindowsLieBetween : Type 0 where
  pub colours : (scene : Scene) (setup : Setup) (start : ℕ) → IsValid scene → (kind : Kind) (loose : LooseRun) (run : Run)
      → IsLooseRunIn kind scene setup start loose → IsRunIn scene setup start run
      → PixelsAreOf setup start (tints_of scene loose) (painting_of scene run)
  pub surely : (scene : Scene) (setup : Setup) (start : ℕ) (x y : ℤ) → IsValid scene → (kind : Kind) (loose : LooseRun) (run : Run)
      → IsLooseRunIn kind scene setup start loose → IsRunIn scene setup start run
      → IsSurelyBadBy kind (tints_of scene loose) setup start x y → IsBad (painting_of scene run) setup start x y
  pub possibly : (scene : Scene) (setup : Setup) (start : ℕ) (x y : ℤ) → IsValid scene → (kind : Kind) (loose : LooseRun) (run : Run)
      → IsLooseRunIn kind scene setup start loose → IsRunIn scene setup start run
      → IsBad (painting_of scene run) setup start x y → IsPossiblyBadBy kind (tints_of scene loose) setup start x y

-- and of the kinds: what is surely bad by the wide kind is so by the own kind, and what is possibly bad by the own kind by the wide kind
pub record KindsOfBadWindowsNest : Type 0 where
  pub tints : (scene : Scene) (setup : Setup) (start : ℕ) → IsValid scene → (outer inner : LooseRun)
      → IsLooseRunIn wide scene setup start outer → IsLooseRunIn own scene setup start inner
      → PixelsLieIn setup start (tints_of scene outer) (tints_of scene inner)
  pub surely : (scene : Scene) (setup : Setup) (start : ℕ) (x y : ℤ) → IsValid scene → (outer inner : LooseRun)
      → IsLooseRunIn wide scene setup start outer → IsLooseRunIn own scene setup start inner
      → IsSurelyBadBy wide (tints_of scene outer) setup start x y → IsSurelyBadBy own (tints_of scene inner) setup start x y
  pub possibly : (scene : Scene) (setup : Setup) (start : ℕ) (x y : ℤ) → IsValid scene → (outer inner : LooseRun)
      → IsLooseRunIn wide scene setup start outer → IsLooseRunIn own scene setup start inner
      → IsPossiblyBadBy own (tints_of scene inner) setup start x y → IsPossiblyBadBy wide (tints_of scene outer) setup start x y
