-- A wrong definition of more than three flashes.
use Rattle.std.specs.Prelude.{ℕ, ◌≡◌, ◌⊎◌, ◌+◌, ◌≤◌, List, length, All}
use Rattle.std.specs.List.Sorted.{IsStrictlyIncreasing}
use Rattle.page_model.specs.declared.colour.Rgb.{Rgb}
use Rattle.page_model.specs.Flash.{AlternatesEitherWay, Between}
use Rattle.page_model.specs.Light.{IsRise, IsFall}
use Rattle.page_model.specs.Red.{IsIntoRed, IsOutOfRed}
use Rattle.flash_laws.specs.FlagLaws.{NeedsNineFrames}

-- eight frames, and so seven changes: three flashes and a half
pub record IsShortChain (Up Down : ℕ → ℕ → Type 0) (start window : ℕ) (frames : List ℕ) : Type 0 where
  pub eight : length frames ≡ 8
  pub rising : IsStrictlyIncreasing frames
  pub within : All (λ k. (start ≤ k) × (k ≤ start + window)) frames
  pub alternates : AlternatesEitherWay Up Down frames

abbrev pub HasShortChain : (Rgb → Rgb → Type 0) → (Rgb → Rgb → Type 0) → (ℕ → Rgb) → ℕ → ℕ → Type 0
HasShortChain Up Down seen start window =
    (frames : List ℕ) × IsShortChain (Between Up seen) (Between Down seen) start window frames

abbrev pub FlashesByHalves : (ℕ → Rgb) → ℕ → ℕ → Type 0
FlashesByHalves colours start window =
    HasShortChain IsRise IsFall colours start window ⊎ HasShortChain IsIntoRed IsOutOfRed colours start window

-- eight frames flash by it
abbrev pub FlashesByHalvesBreak : Type 0
FlashesByHalvesBreak = NeedsNineFrames FlashesByHalves → ⊥
