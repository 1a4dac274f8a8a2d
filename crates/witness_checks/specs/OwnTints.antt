-- Whether the pixels of a part have the stated tint in a row, in a frame, and turn by turn; and else the first that hasn't.
use Rattle.std.specs.Prelude.{ℕ, ◌≡◌, ◌⊎◌, ◌+◌, ◌<◌, ◌≤◌, slice_get, Some}
use Rattle.page_model.specs.declared.colour.Tint.{Tint}
use Rattle.page_model.specs.declared.scene.Scene.{Scene}
use Rattle.page_model.specs.declared.setup.Setup.{Setup}
use Rattle.page_model.specs.declared.witness.Part.{Part}
use Rattle.page_model.specs.Enclosure.{LooseRun}
use Rattle.page_model.specs.WitnessConditions.{IsOfPart}
use Rattle.frame_state.specs.States.{AreOwn}
use Rattle.witness_checks.specs.Faults.{HaveTintsBefore, IsFirstWrongPixel}

-- the pixels of a part in a row have a tint
abbrev pub RowHasTint : (ℕ → ℕ → Tint) → Part → Tint → ℕ → Type 0
RowHasTint tint_at part tint row = (column : ℕ) → part.x ≤ column → column < part.x + part.width → tint_at column row ≡ tint

-- a column is the first of a row where one of them hasn't
pub record IsFirstWrongColumn (tint_at : ℕ → ℕ → Tint) (part : Part) (tint : Tint) (row column : ℕ) : Type 0 where
  pub right_of : part.x ≤ column
  pub left_of : column < part.x + part.width
  pub wrong : tint_at column row ≡ tint → ⊥
  pub before : (c : ℕ) → part.x ≤ c → c < column → tint_at c row ≡ tint

-- a pixel is the first that hasn't: row by row, and column by column in a row
pub record IsFirstWrongOf (tint_at : ℕ → ℕ → Tint) (part : Part) (tint : Tint) (column row : ℕ) : Type 0 where
  pub inside : IsOfPart part column row
  pub wrong : tint_at column row ≡ tint → ⊥
  pub before : (c r : ℕ) → IsOfPart part c r → (r < row) ⊎ ((r ≡ row) × (c < column)) → tint_at c r ≡ tint

-- a run has states of the own kind in the frames of a part
abbrev pub IsOwnIn : Scene → Setup → Part → LooseRun → Type 0
IsOwnIn scene setup part run = (turn frame : ℕ) → slice_get part.frames turn ≡ Some frame → AreOwn scene setup frame (run frame)

-- a turn is the first of a part in which a pixel hasn't the stated tint, and the pixel is the first that hasn't
pub record IsFirstWrongTurn (tint_at : ℕ → ℕ → ℕ → Tint) (part : Part) (turn column row : ℕ) : Type 0 where
  pub turns_before : HaveTintsBefore tint_at part turn
  pub pixel : IsFirstWrongPixel tint_at part turn column row
