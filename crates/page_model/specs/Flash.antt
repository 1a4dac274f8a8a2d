-- Flashes, bad windows and safety, over any painting that is handed in: a function from a frame, a column and a row to a
-- colour. So lamps, scenes and all that is painted share one statement. WCAG 2.2, success criterion 2.3.1 and its definitions
-- of the general flash and red flash thresholds: more than three flashes are eight opposing changes, a one-second window has
-- as many frames after its first as are shown in a whole second, and the area is a quarter of 341 by 256 pixels, at each whole
-- position. That changes count between any two frames of a window, and that general and red flashes count together, is the
-- project's own.
use Rattle.std.specs.Prelude.{ℕ, zero, suc, ℤ, pos, Bool, cond, ◌≡◌, ◌⊎◌, ◌+◌, ◌<◌, ◌≤◌, ◌+ℤ◌, ◌≤ℤ◌, IsTrue, List, [], ◌∷◌, length, All}
use Rattle.std.specs.List.Sorted.{IsStrictlyIncreasing}
use Rattle.page_model.specs.declared.setup.Setup.{Setup}
use Rattle.page_model.specs.declared.colour.Rgb.{Rgb}
use Rattle.page_model.specs.Light.{IsRise, IsFall}
use Rattle.page_model.specs.Red.{IsIntoRed, IsOutOfRed}
use Rattle.page_model.specs.Time.{window_of}

-- what is seen: the colour in a frame, at a column and a row
abbrev pub Painting : Type 0
Painting = ℕ → ℕ → ℕ → Rgb

-- neighbours make the one change and the other in turn, the first one first
abbrev pub Alternates : {C : Type 0} → (C → C → Type 0) → (C → C → Type 0) → List C → Type 0
Alternates First Second [] = Unit {0}
Alternates First Second (a ∷ []) = Unit {0}
Alternates First Second (a ∷ (b ∷ rest)) = First a b × Alternates Second First (b ∷ rest)

-- the same, where either change may be first
abbrev pub AlternatesEitherWay : {C : Type 0} → (C → C → Type 0) → (C → C → Type 0) → List C → Type 0
AlternatesEitherWay Up Down items = Alternates Up Down items ⊎ Alternates Down Up items

-- these are nine frames in rising order, from the first frame of a window to its last, in which the changes alternate
pub record IsChain (Up Down : ℕ → ℕ → Type 0) (start window : ℕ) (frames : List ℕ) : Type 0 where
  pub nine : length frames ≡ 9
  pub rising : IsStrictlyIncreasing frames
  pub within : All (λ k. (start ≤ k) × (k ≤ start + window)) frames
  pub alternates : AlternatesEitherWay Up Down frames

-- a change of what is seen in two frames
abbrev pub Between : {C : Type 0} → (C → C → Type 0) → (ℕ → C) → ℕ → ℕ → Type 0
Between Changes seen j k = Changes (seen j) (seen k)

-- some nine frames of the window are a chain
abbrev pub HasChain : {C : Type 0} → (C → C → Type 0) → (C → C → Type 0) → (ℕ → C) → ℕ → ℕ → Type 0
HasChain Up Down seen start window =
    (frames : List ℕ) × IsChain (Between Up seen) (Between Down seen) start window frames

-- the colours of a pixel, frame by frame
abbrev pub colours_at : Painting → ℕ → ℕ → ℕ → Rgb
colours_at painting column row frame = painting frame column row

-- the colours flash in the window more than three times, by luminance or by red
abbrev pub Flashes : (ℕ → Rgb) → ℕ → ℕ → Type 0
Flashes colours start window =
    HasChain IsRise IsFall colours start window ⊎ HasChain IsIntoRed IsOutOfRed colours start window

-- a pixel is flagged in the window that begins at a frame
abbrev pub IsFlagged : Painting → Setup → ℕ → ℕ → ℕ → Type 0
IsFlagged painting setup start column row = Flashes (colours_at painting column row) start (window_of setup)

-- the sum of a function over the numbers below a limit
abbrev pub sum_below : ℕ → (ℕ → ℕ) → ℕ
sum_below zero f = 0
sum_below (suc n) f = sum_below n f + f n

-- how many pixels of a viewport are marked: columns outside, rows inside
abbrev pub area : ℕ → ℕ → (ℕ → ℕ → Bool) → ℕ
area width height marks = sum_below width (λ column. sum_below height (λ row. cond (marks column row) 1 0))

-- a pixel lies in the 341 by 256 rectangle whose upper left pixel is at a position
pub record IsInRectangle (x y : ℤ) (column row : ℕ) : Type 0 where
  pub right_of : x ≤ℤ pos column
  pub left_of : pos column ≤ℤ (x +ℤ pos 340)
  pub below : y ≤ℤ pos row
  pub above : pos row ≤ℤ (y +ℤ pos 255)

-- More than a quarter of the rectangle at a position is flagged: some pixels can be marked, each of them flagged and in the
-- rectangle, and there are more than 21,824 of them in the viewport.
pub record HasManyFlagged (Flagged : ℕ → ℕ → Type 0) (setup : Setup) (x y : ℤ) : Type 0 where
  pub marks : ℕ → ℕ → Bool
  pub flagged : (column row : ℕ) → IsTrue (marks column row) → Flagged column row
  pub inside : (column row : ℕ) → IsTrue (marks column row) → IsInRectangle x y column row
  pub many : 21824 < area setup.width setup.height marks

-- the window that begins at a frame is bad at a position
abbrev pub IsBad : Painting → Setup → ℕ → ℤ → ℤ → Type 0
IsBad painting setup start x y = HasManyFlagged (IsFlagged painting setup start) setup x y

-- no window, from the first frame on, is bad at any position
abbrev pub IsSafe : Painting → Setup → Type 0
IsSafe painting setup = (start : ℕ) (x y : ℤ) → IsBad painting setup start x y → ⊥

-- the first list isn't after the second, compared number by number from the front
abbrev pub IsNoLater : List ℕ → List ℕ → Type 0
IsNoLater [] others = Unit {0}
IsNoLater (a ∷ rest) [] = ⊥
IsNoLater (a ∷ rest) (b ∷ others) = (a < b) ⊎ ((a ≡ b) × IsNoLater rest others)
