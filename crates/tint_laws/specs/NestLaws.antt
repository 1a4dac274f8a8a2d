-- How flashes by tints nest: what is sure by the wide kind is sure by the own kind, what is sure is so, what is so is possible by
-- the own kind, and what is possible by the own kind is possible by the wide kind. All from facts on the frames of one window.
use Rattle.std.specs.Prelude.{ℕ, ℤ, ◌+◌, ◌<◌, ◌≤◌}
use Rattle.page_model.specs.declared.setup.Setup.{Setup}
use Rattle.page_model.specs.declared.colour.Rgb.{Rgb}
use Rattle.page_model.specs.declared.colour.Tint.{Tint}
use Rattle.page_model.specs.Enclosure.{Kind, own, wide}
use Rattle.page_model.specs.Flash.{Painting, Flashes, HasManyFlagged, IsBad, colours_at}
use Rattle.page_model.specs.Time.{window_of}
use Rattle.page_model.specs.Window.{PossiblyFlashes, SurelyFlashes, IsPossiblyFlagged, IsSurelyFlagged}
use Rattle.flash_laws.specs.SureLaws.{IsOf}

-- a tint lies in another
pub record LiesIn (outer inner : Tint) : Type 0 where
  pub least : IsOf outer inner.lo
  pub most : IsOf outer inner.hi

-- in each frame of a window the colour lies in the tint, or the one tint in the other
abbrev pub AreOf : ℕ → ℕ → (ℕ → Tint) → (ℕ → Rgb) → Type 0
AreOf start window tints colours = (frame : ℕ) → start ≤ frame → frame ≤ start + window → IsOf (tints frame) (colours frame)

abbrev pub LieIn : ℕ → ℕ → (ℕ → Tint) → (ℕ → Tint) → Type 0
LieIn start window outer inner = (frame : ℕ) → start ≤ frame → frame ≤ start + window → LiesIn (outer frame) (inner frame)

-- flashes of one pixel
pub record FlashesNest : Type 0 where
  pub surely_own : (outer inner : ℕ → Tint) (start window : ℕ) → LieIn start window outer inner
      → SurelyFlashes wide outer start window → SurelyFlashes own inner start window
  pub so : (kind : Kind) (tints : ℕ → Tint) (colours : ℕ → Rgb) (start window : ℕ) → AreOf start window tints colours
      → SurelyFlashes kind tints start window → Flashes colours start window
  pub possible : (kind : Kind) (tints : ℕ → Tint) (colours : ℕ → Rgb) (start window : ℕ) → AreOf start window tints colours
      → Flashes colours start window → PossiblyFlashes kind tints start window
  pub possibly_wide : (outer inner : ℕ → Tint) (start window : ℕ) → LieIn start window outer inner
      → PossiblyFlashes own inner start window → PossiblyFlashes wide outer start window

-- the tints of all pixels, frame by frame, and the tints of one of them
abbrev pub Tinting : Type 0
Tinting = ℕ → ℕ → ℕ → Tint

abbrev pub tints_at : Tinting → ℕ → ℕ → ℕ → Tint
tints_at tinting column row frame = tinting frame column row

-- in each frame of a window, at each pixel of the viewport
abbrev pub PixelsAreOf : Setup → ℕ → Tinting → Painting → Type 0
PixelsAreOf setup start tinting painting =
    (column row : ℕ) → column < setup.width → row < setup.height
    → AreOf start (window_of setup) (tints_at tinting column row) (colours_at painting column row)

abbrev pub PixelsLieIn : Setup → ℕ → Tinting → Tinting → Type 0
PixelsLieIn setup start outer inner =
    (column row : ℕ) → column < setup.width → row < setup.height
    → LieIn start (window_of setup) (tints_at outer column row) (tints_at inner column row)

-- the window is bad at a position surely, or possibly, by a kind
abbrev pub IsSurelyBadBy : Kind → Tinting → Setup → ℕ → ℤ → ℤ → Type 0
IsSurelyBadBy kind tinting setup start x y = HasManyFlagged (IsSurelyFlagged kind tinting setup start) setup x y

abbrev pub IsPossiblyBadBy : Kind → Tinting → Setup → ℕ → ℤ → ℤ → Type 0
IsPossiblyBadBy kind tinting setup start x y = HasManyFlagged (IsPossiblyFlagged kind tinting setup start) setup x y

-- bad windows
pub record BadWindowsNest : Type 0 where
  pub surely_own : (outer inner : Tinting) (setup : Setup) (start : ℕ) (x y : ℤ) → PixelsLieIn setup start outer inner
      → IsSurelyBadBy wide outer setup start x y → IsSurelyBadBy own inner setup start x y
  pub so : (kind : Kind) (tinting : Tinting) (painting : Painting) (setup : Setup) (start : ℕ) (x y : ℤ)
      → PixelsAreOf setup start tinting painting → IsSurelyBadBy kind tinting setup start x y → IsBad painting setup start x y
  pub possible : (kind : Kind) (tinting : Tinting) (painting : Painting) (setup : Setup) (start : ℕ) (x y : ℤ)
      → PixelsAreOf setup start tinting painting → IsBad painting setup start x y → IsPossiblyBadBy kind tinting setup start x y
  pub possibly_wide : (outer inner : Tinting) (setup : Setup) (start : ℕ) (x y : ℤ) → PixelsLieIn setup start outer inner
      → IsPossiblyBadBy own inner setup start x y → IsPossiblyBadBy wide outer setup start x y
