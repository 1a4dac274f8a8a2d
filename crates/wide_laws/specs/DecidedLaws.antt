-- Of a painting it is decided whether a window is bad at a position: what can't fail to be bad is bad.
use Rattle.std.specs.Prelude.{ℕ, ℤ, ◌⊎◌}
use Rattle.page_model.specs.declared.setup.Setup.{Setup}
use Rattle.page_model.specs.Flash.{IsBad, Painting}

abbrev pub IsDecided : Type 0 → Type 0
IsDecided Fact = Fact ⊎ (Fact → ⊥)

abbrev pub BadIsDecided : Type 0
BadIsDecided = (painting : Painting) (setup : Setup) (start : ℕ) (x y : ℤ) → IsDecided (IsBad painting setup start x y)
