-- The part of a cell that lies in the 341 by 256 rectangle at a position.
use Rattle.std.specs.Prelude.{ℕ, ℤ, pos, ◌↔◌, ◌+◌, ◌<◌, ◌≤◌, ◌+ℤ◌, ◌≤ℤ◌, ◌<ℤ◌, Option, MatchOption}
use Rattle.page_model.specs.Flash.{IsInRectangle}
use Rattle.region_split.specs.declared.types.Rect.{Rect}
use Rattle.region_split.specs.Cutting.{IsInside}
use Rattle.witness_make.specs.declared.clip.Band.{Band}

-- a place is one of so many from a start on, and one of so many from a position on
pub record IsInBoth (start size : ℕ) (from : ℤ) (span place : ℕ) : Type 0 where
  pub low : start ≤ place
  pub high : place < start + size
  pub after : from ≤ℤ pos place
  pub before : pos place <ℤ (from +ℤ pos span)

-- a place is one of a band's
abbrev pub IsOfBand : Band → ℕ → Type 0
IsOfBand band place = (band.start ≤ place) × (place < band.start + band.size)

-- a band has all such places and no others, and there are some
pub record IsShared (start size : ℕ) (from : ℤ) (span : ℕ) (band : Band) : Type 0 where
  pub some : 0 < band.size
  pub each : (place : ℕ) → (IsOfBand band place ↔ IsInBoth start size from span place)

-- there are none
abbrev pub AreApart : ℕ → ℕ → ℤ → ℕ → Type 0
AreApart start size from span = (place : ℕ) → IsInBoth start size from span place → ⊥

abbrev pub IsClip : ℕ → ℕ → ℤ → ℕ → Option Band → Type 0
IsClip start size from span found = MatchOption found (AreApart start size from span) (IsShared start size from span)

-- the pixels of a cell that lie in the rectangle at a position: they are those of a rectangle, and there are some
pub record IsCutTo (x y : ℤ) (cell rect : Rect) : Type 0 where
  pub some_width : 0 < rect.width
  pub some_height : 0 < rect.height
  pub each : (column row : ℕ) → (IsInside rect column row ↔ (IsInside cell column row × IsInRectangle x y column row))

-- none of its pixels does
abbrev pub Misses : ℤ → ℤ → Rect → Type 0
Misses x y cell = (column row : ℕ) → IsInside cell column row → IsInRectangle x y column row → ⊥

abbrev pub IsCut : ℤ → ℤ → Rect → Option Rect → Type 0
IsCut x y cell found = MatchOption found (Misses x y cell) (IsCutTo x y cell)

-- so many places lie before a position, and so many before the end of a span from it on
abbrev pub IsFirstOf : ℤ → ℕ → Type 0
IsFirstOf from first = (place : ℕ) → ((from ≤ℤ pos place) ↔ (first ≤ place))

abbrev pub IsEndOf : ℤ → ℕ → ℕ → Type 0
IsEndOf from span end = (place : ℕ) → ((pos place <ℤ (from +ℤ pos span)) ↔ (place < end))
