-- Two pixels have one tint where the states of the layers are the same at both and each box covers both alike.
use Rattle.std.specs.Prelude.{ℕ, ◌≡◌, ◌<◌, ◌≤◌, length}
use Rattle.page_model.specs.declared.scene.Scene.{Scene}
use Rattle.page_model.specs.Enclosure.{LooseState}
use Rattle.page_model.specs.TintOf.{covers_surely, tint_of}
use Rattle.page_model.specs.ValidScene.{IsValid}

-- a box's states are the same, and it covers both pixels as surely
pub record AreAlike (loose other : LooseState) (column row other_column other_row : ℕ) : Type 0 where
  pub same : loose ≡ other
  pub alike : covers_surely loose column row ≡ covers_surely other other_column other_row

-- so it is with all boxes; the body paints every pixel
pub record LookAlike (scene : Scene) (loose other : ℕ → LooseState) (column row other_column other_row : ℕ) : Type 0 where
  pub body : loose 0 ≡ other 0
  pub boxes : (number : ℕ) → 1 ≤ number → number < length scene.layers
      → AreAlike (loose number) (other number) column row other_column other_row

abbrev pub AlikePixelsHaveOneTint : Type 0
AlikePixelsHaveOneTint =
    (scene : Scene) (loose other : ℕ → LooseState) (column row other_column other_row : ℕ) → IsValid scene
    → LookAlike scene loose other column row other_column other_row
    → tint_of scene loose column row ≡ tint_of scene other other_column other_row
