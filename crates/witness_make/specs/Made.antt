-- The witness of a window that is surely bad: a part for each cell that is surely flagged and meets the rectangle, in the order of cells.
use Rattle.std.specs.Prelude.{ℕ, ℤ, ◌≡◌, ◌+◌, ◌^◌, ◌<◌, ◌≤◌, List, length, slice_get, Some, Option, MatchOption}
use Rattle.page_model.specs.declared.scene.Scene.{Scene}
use Rattle.page_model.specs.declared.setup.Setup.{Setup}
use Rattle.page_model.specs.declared.witness.Part.{Part}
use Rattle.page_model.specs.declared.witness.Witness.{Witness}
use Rattle.page_model.specs.Cells.{cells_between}
use Rattle.page_model.specs.Enclosure.{LooseRun, own}
use Rattle.page_model.specs.Flash.{IsInRectangle}
use Rattle.page_model.specs.Time.{window_of}
use Rattle.page_model.specs.TintOf.{IsLooseRunIn, tints_of}
use Rattle.page_model.specs.Window.{IsSurelyFlagged}
use Rattle.page_model.specs.WitnessConditions.{HasSetup}
use Rattle.region_split.specs.declared.types.Rect.{Rect}
use Rattle.region_split.specs.Cutting.{Edges, IsCut, IsInside, cell_of}
use Rattle.sweep.specs.Marks.{CountsFlagged}
use Rattle.witness_laws.specs.Acceptance.{IsAccepted}
use Rattle.witness_make.specs.Clip.{IsCutTo}
use Rattle.witness_make.specs.Turns.{AreOfBytes, TellsFirstChain}
use Rattle.witness_text.specs.WitnessForm.{IsInForm}

-- edges are those of a scene, in all frames of a window and maybe in more
pub record AreCutsOf (scene : Scene) (setup : Setup) (start : ℕ) (edges : Edges) : Type 0 where
  pub frames : ℕ
  pub cut : IsCut scene setup frames edges
  pub cover : start + window_of setup < frames
  pub few : frames < 2 ^ 32

-- with the states of the own kind, whatever they are, all pixels of a rectangle are surely flagged
abbrev pub AreSurelyFlagged : Scene → Setup → ℕ → Rect → Type 0
AreSurelyFlagged scene setup start rect =
    (run : LooseRun) (column row : ℕ) → IsLooseRunIn own scene setup start run → IsInside rect column row
    → IsSurelyFlagged own (tints_of scene run) setup start column row

-- a part is that of a cell: its pixels are those of the cell that lie in the rectangle, and it tells the first chain, in bytes
pub record IsPartOf (scene : Scene) (setup : Setup) (start : ℕ) (x y : ℤ) (cell : Rect) (part : Part) : Type 0 where
  pub flagged : AreSurelyFlagged scene setup start cell
  pub cut : IsCutTo x y cell (record { x = part.x; y = part.y; width = part.width; height = part.height })
  pub tells : TellsFirstChain scene setup start cell.x cell.y part
  pub bytes : AreOfBytes part.tints

-- a cell has none: it isn't surely flagged, or no pixel of it lies in the rectangle
abbrev pub HasNoPart : Scene → Setup → ℕ → ℤ → ℤ → Rect → Type 0
HasNoPart scene setup start x y cell =
    (column row : ℕ) → AreSurelyFlagged scene setup start cell → IsInside cell column row → IsInRectangle x y column row → ⊥

abbrev pub IsPartIn : Scene → Setup → ℕ → ℤ → ℤ → Rect → Option Part → Type 0
IsPartIn scene setup start x y cell found =
    MatchOption found (HasNoPart scene setup start x y cell) (IsPartOf scene setup start x y cell)

-- parts are those of the cells before a number, in the order of cells
pub record ArePartsBefore (scene : Scene) (setup : Setup) (edges : Edges) (start : ℕ) (x y : ℤ) (count : ℕ) (parts : List Part) : Type 0 where
  pub cell : ℕ → ℕ
  pub few : length parts ≤ count
  pub order : (j k : ℕ) → j < k → k < length parts → cell j < cell k
  pub before : (k : ℕ) → k < length parts → cell k < count
  pub each : (k : ℕ) (part : Part) → slice_get parts k ≡ Some part
      → IsPartOf scene setup start x y (cell_of edges.xs edges.ys (cell k)) part
  pub all : (number column row : ℕ) → number < count → AreSurelyFlagged scene setup start (cell_of edges.xs edges.ys number)
      → IsInside (cell_of edges.xs edges.ys number) column row → IsInRectangle x y column row
      → (k : ℕ) × (k < length parts) × (cell k ≡ number)

-- the parts of all cells
abbrev pub AreParts : Scene → Setup → Edges → ℕ → ℤ → ℤ → List Part → Type 0
AreParts scene setup edges start x y parts =
    ArePartsBefore scene setup edges start x y (cells_between edges.xs edges.ys) parts

-- The witness tells the window, and the parts of all cells. With the states of the own kind, whatever they are, its area is the
-- number of surely flagged pixels in the rectangle; it is accepted, and in form, so that its text reads as it.
pub record IsMade (scene : Scene) (setup : Setup) (edges : Edges) (start : ℕ) (x y : ℤ) (w : Witness) : Type 0 where
  pub start_is : w.start ≡ start
  pub x_is : w.x ≡ x
  pub y_is : w.y ≡ y
  pub same_setup : HasSetup setup w
  pub parts : AreParts scene setup edges start x y w.parts
  pub counts : (run : LooseRun) → IsLooseRunIn own scene setup start run
      → CountsFlagged (IsSurelyFlagged own (tints_of scene run) setup start) setup x y w.area
  pub witness : IsAccepted scene setup w
  pub form : IsInForm w
