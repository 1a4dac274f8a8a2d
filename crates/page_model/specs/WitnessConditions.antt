-- What makes a stated bad window a witness: nine conditions over the tints of a page, which are handed in as a function from a
-- frame, a column and a row. Who tests all nine knows that the window is bad, and need not trust who stated it. This is the
-- project's own.
use Rattle.std.specs.Prelude.{ℕ, ◌≡◌, ◌+◌, ◌*◌, ◌<◌, ◌≤◌, ◌≤ℤ◌, ◌+ℤ◌, pos, List, length, slice_get, Some, sum_by, All}
use Rattle.std.specs.List.Sorted.{IsStrictlyIncreasing}
use Rattle.page_model.specs.declared.setup.Setup.{Setup}
use Rattle.page_model.specs.declared.colour.Tint.{Tint}
use Rattle.page_model.specs.declared.witness.Kind.{Kind}
use Rattle.page_model.specs.declared.witness.Kind.TheVariants.{General, Red}
use Rattle.page_model.specs.declared.witness.Part.{Part}
use Rattle.page_model.specs.declared.witness.Witness.{Witness}
use Rattle.page_model.specs.Change.{IsSureRise, IsSureFall, IsSurelyIntoRed, IsSurelyOutOfRed}
use Rattle.page_model.specs.Flash.{AlternatesEitherWay}
use Rattle.page_model.specs.Time.{window_of}

-- 1: width, height and both parts of the rate are those of the setup
pub record HasSetup (setup : Setup) (w : Witness) : Type 0 where
  pub width : w.width ≡ setup.width
  pub height : w.height ≡ setup.height
  pub rate : w.rate ≡ setup.num
  pub per : w.per ≡ setup.den

-- a part has pixels, and all of them lie in the viewport and in the rectangle
pub record LiesInside (setup : Setup) (w : Witness) (part : Part) : Type 0 where
  pub some_width : 0 < part.width
  pub some_height : 0 < part.height
  pub in_width : part.x + part.width ≤ setup.width
  pub in_height : part.y + part.height ≤ setup.height
  pub right_of : w.x ≤ℤ pos part.x
  pub left_of : pos (part.x + part.width) ≤ℤ (w.x +ℤ pos 341)
  pub below : w.y ≤ℤ pos part.y
  pub above : pos (part.y + part.height) ≤ℤ (w.y +ℤ pos 256)

-- 2: each part does
abbrev pub PartsInside : Setup → Witness → Type 0
PartsInside setup w = All (LiesInside setup w) w.parts

-- a pixel is one of a part's
pub record IsOfPart (part : Part) (column row : ℕ) : Type 0 where
  pub right_of : part.x ≤ column
  pub left_of : column < part.x + part.width
  pub below : part.y ≤ row
  pub above : row < part.y + part.height

-- 3: no pixel is one of two parts
abbrev pub PartsApart : Witness → Type 0
PartsApart w =
    (i j : ℕ) (first second : Part) → i < j → slice_get w.parts i ≡ Some first → slice_get w.parts j ≡ Some second
    → (column row : ℕ) → IsOfPart first column row → IsOfPart second column row → ⊥

-- 4: the stated area is that of all parts
abbrev pub HasArea : Witness → Type 0
HasArea w = w.area ≡ sum_by (λ (part : Part). part.width * part.height) w.parts

-- 5: it is more than a quarter of the rectangle
abbrev pub HasEnough : Witness → Type 0
HasEnough w = 21824 < w.area

-- 6: each part's frames rise strictly
abbrev pub FramesRise : Witness → Type 0
FramesRise w = All (λ (part : Part). IsStrictlyIncreasing part.frames) w.parts

-- 7: they lie in the window
abbrev pub FramesWithin : Setup → Witness → Type 0
FramesWithin setup w =
    All (λ (part : Part). All (λ k. (w.start ≤ k) × (k ≤ w.start + window_of setup)) part.frames) w.parts

-- in each turn each pixel of the part has the tint that is stated of the turn
abbrev pub HasTints : (ℕ → ℕ → ℕ → Tint) → Part → Type 0
HasTints tint_at part =
    (turn frame : ℕ) (tint : Tint) → slice_get part.frames turn ≡ Some frame → slice_get part.tints turn ≡ Some tint
    → (column row : ℕ) → IsOfPart part column row → tint_at frame column row ≡ tint

-- 8: each part's stated tints are those of the page
abbrev pub TintsHold : (ℕ → ℕ → ℕ → Tint) → Witness → Type 0
TintsHold tint_at w = All (HasTints tint_at) w.parts

-- tints change surely and in turn, by the changes of a kind
abbrev pub AlternatesSurely : Kind → List Tint → Type 0
AlternatesSurely General tints = AlternatesEitherWay IsSureRise IsSureFall tints
AlternatesSurely Red tints = AlternatesEitherWay IsSurelyIntoRed IsSurelyOutOfRed tints

-- 9: each part's stated tints do
abbrev pub TintsChange : Witness → Type 0
TintsChange w = All (λ (part : Part). AlternatesSurely part.kind part.tints) w.parts

-- a part tells nine turns: nine frames, and a tint for each
pub record HasNineTurns (part : Part) : Type 0 where
  pub frames : length part.frames ≡ 9
  pub tints : length part.tints ≡ 9

-- all nine conditions, over parts of nine turns
pub record IsWitness (setup : Setup) (tint_at : ℕ → ℕ → ℕ → Tint) (w : Witness) : Type 0 where
  pub turns : All HasNineTurns w.parts
  pub same_setup : HasSetup setup w
  pub inside : PartsInside setup w
  pub apart : PartsApart w
  pub stated_area : HasArea w
  pub enough : HasEnough w
  pub rise : FramesRise w
  pub within : FramesWithin setup w
  pub tints : TintsHold tint_at w
  pub change : TintsChange w
