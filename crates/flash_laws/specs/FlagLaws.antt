-- Laws of flashes, flags and bad windows: what carries them over from one painting to another, and how many frames they need.
use Rattle.std.specs.Prelude.{ℕ, ℤ, ◌≡◌, ◌+◌, ◌<◌, ◌≤◌}
use Rattle.page_model.specs.declared.setup.Setup.{Setup}
use Rattle.page_model.specs.declared.colour.Rgb.{Rgb}
use Rattle.page_model.specs.Flash.{Painting, Between, Flashes, IsBad, IsSafe, colours_at}
use Rattle.page_model.specs.Light.{IsRise, IsFall}
use Rattle.page_model.specs.Red.{IsIntoRed, IsOutOfRed}
use Rattle.page_model.specs.Time.{window_of}

-- each change of the first sort from an earlier to a later frame of a window is one of the second sort
abbrev pub CarriesOver : ℕ → ℕ → (ℕ → ℕ → Type 0) → (ℕ → ℕ → Type 0) → Type 0
CarriesOver start window First Second =
    (j k : ℕ) → start ≤ j → j < k → k ≤ start + window → First j k → Second j k

-- in a window, the changes of the first colours are changes of the second
pub record ChangesCarryOver (start window : ℕ) (first second : ℕ → Rgb) : Type 0 where
  pub rises : CarriesOver start window (Between IsRise first) (Between IsRise second)
  pub falls : CarriesOver start window (Between IsFall first) (Between IsFall second)
  pub into_red : CarriesOver start window (Between IsIntoRed first) (Between IsIntoRed second)
  pub out_of_red : CarriesOver start window (Between IsOutOfRed first) (Between IsOutOfRed second)

-- they are at each pixel of the viewport
abbrev pub PixelsCarryOver : Setup → ℕ → Painting → Painting → Type 0
PixelsCarryOver setup start first second =
    (column row : ℕ) → column < setup.width → row < setup.height
    → ChangesCarryOver start (window_of setup) (colours_at first column row) (colours_at second column row)

-- flashes and bad windows carry over from the one to the other, and safety back
pub record FlagsCarryOver : Type 0 where
  pub flashes : (first second : ℕ → Rgb) (start window : ℕ) → ChangesCarryOver start window first second
      → Flashes first start window → Flashes second start window
  pub bad : (first second : Painting) (setup : Setup) (start : ℕ) (x y : ℤ) → PixelsCarryOver setup start first second
      → IsBad first setup start x y → IsBad second setup start x y
  pub safe : (first second : Painting) (setup : Setup) → ((start : ℕ) → PixelsCarryOver setup start first second)
      → IsSafe second setup → IsSafe first setup

-- another setup has windows of as many frames, and a viewport no smaller
pub record IsWider (setup wider : Setup) : Type 0 where
  pub width : setup.width ≤ wider.width
  pub height : setup.height ≤ wider.height
  pub window : window_of setup ≡ window_of wider

-- a bad window stays bad where the viewport grows, and what is safe there was safe
pub record BadnessGrows : Type 0 where
  pub bad : (painting : Painting) (setup wider : Setup) (start : ℕ) (x y : ℤ) → IsWider setup wider
      → IsBad painting setup start x y → IsBad painting wider start x y
  pub safe : (painting : Painting) (setup wider : Setup) → IsWider setup wider
      → IsSafe painting wider → IsSafe painting setup

-- colours flash in the window that begins at a frame and has so many more
abbrev pub Flashing : Type 1
Flashing = (ℕ → Rgb) → ℕ → ℕ → Type 0

-- no eight frames flash more than three times
abbrev pub NeedsNineFrames : Flashing → Type 0
NeedsNineFrames Flash = (colours : ℕ → Rgb) (start window : ℕ) → window < 8 → Flash colours start window → ⊥

-- what flashes in a window flashes in each that holds it
abbrev pub GrowsWithWindow : Flashing → Type 0
GrowsWithWindow Flash =
    (colours : ℕ → Rgb) (start window from longer : ℕ) → from ≤ start → start + window ≤ from + longer
    → Flash colours start window → Flash colours from longer
