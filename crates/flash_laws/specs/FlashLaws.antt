-- Colours that flash, and colours that don't: black and white in turn, by the number of frames.
use Rattle.std.specs.Prelude.{ℕ, ◌==◌, ◌%◌, if◌then◌else◌}
use Rattle.page_model.specs.declared.colour.Rgb.{Rgb}
use Rattle.page_model.specs.Flash.{Flashes}
use Rattle.page_model.specs.Red.{white}
use Rattle.flash_laws.specs.FlagLaws.{Flashing, NeedsNineFrames, GrowsWithWindow}
use Rattle.flash_laws.specs.LightLaws.{black}

-- black in even frames, white in odd ones
abbrev pub blinking : ℕ → Rgb
blinking frame = if frame % 2 == 0 then black else white

-- a colour that stays never flashes
abbrev pub NeedsChanges : Flashing → Type 0
NeedsChanges Flash = (colour : Rgb) (start window : ℕ) → Flash (λ frame. colour) start window → ⊥

-- more than three flashes take nine frames and changes, and nine frames of black and white are enough
pub record FlashesNeedNineFrames : Type 0 where
  pub needed : NeedsNineFrames Flashes
  pub enough : Flashes blinking 0 8
  pub longer : GrowsWithWindow Flashes
  pub changes : NeedsChanges Flashes
