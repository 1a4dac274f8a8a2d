-- The cells of a scene as they are told: the edges of the own kind both ways, and the rectangles between them.
use Rattle.std.specs.Prelude.{ℕ, Bool, ◌≡◌, ◌+◌, ◌-◌, ◌*◌, ◌/◌, ◌%◌, ◌<◌, ◌≤◌, List, [], ◌∷◌, length, slice_get, slice_index, Some, Result, Ok, Err}
use Rattle.page_model.specs.declared.setup.Setup.{Setup}
use Rattle.page_model.specs.declared.scene.Layer.{Layer}
use Rattle.page_model.specs.declared.scene.Scene.{Scene}
use Rattle.page_model.specs.Cells.{AreCuts, IsLooseRunBelow, cells_between, work_limit}
use Rattle.page_model.specs.Enclosure.{IsLooseStateAt, Kind, LooseRun, own, wide}
use Rattle.page_model.specs.TintOf.{covers_surely}
use Rattle.region_split.specs.declared.types.Rect.{Rect}
use Rattle.region_split.specs.declared.types.CutFault.{CutFault}
use Rattle.region_split.specs.declared.types.CutFault.TheVariants.{Work, NoMemory}
use Rattle.region_split.specs.Marks.{AreEnoughFrames, AreListed}
use Rattle.region_split.specs.Sound.{AreSound}

-- the edges both ways
pub record Edges : Type 0 where
  pub xs : List ℕ
  pub ys : List ℕ

-- so both ways
pub record AreSoundBoth (xs ys : List ℕ) : Type 0 where
  pub columns : AreSound xs
  pub rows : AreSound ys

-- these are the edges of the scene, by the states of the own kind, whatever they are
abbrev pub AreOwnCuts : Scene → Setup → ℕ → List ℕ → List ℕ → Type 0
AreOwnCuts scene setup frames xs ys =
    (run : LooseRun) → IsLooseRunBelow own scene setup frames run → AreCuts setup scene (λ box. frames) run xs ys

-- a run of loose states, of all layers by a kind, of each in its own frames
abbrev pub IsLooseRunOver : Kind → Scene → Setup → (ℕ → ℕ) → LooseRun → Type 0
IsLooseRunOver kind scene setup frames_of run =
    (frame number : ℕ) (layer : Layer) → frame < frames_of number → slice_get scene.layers number ≡ Some layer
    → IsLooseStateAt kind scene setup frame layer (run frame number)

-- these are the edges of the scene in the frames of each box, by the states of the own kind, whatever they are
abbrev pub AreOwnCutsOver : Scene → Setup → (ℕ → ℕ) → List ℕ → List ℕ → Type 0
AreOwnCutsOver scene setup frames_of xs ys =
    (run : LooseRun) → IsLooseRunOver own scene setup frames_of run → AreCuts setup scene frames_of run xs ys

-- how many columns and rows of cells there are
abbrev pub bands : List ℕ → ℕ
bands edges = length edges - 1

-- the cell of a number: cells stand row by row from the top left
abbrev pub cell_of : List ℕ → List ℕ → ℕ → Rect
cell_of xs ys i = record {
  x = slice_index xs (i % bands xs);
  y = slice_index ys (i / bands xs);
  width = slice_index xs (i % bands xs + 1) - slice_index xs (i % bands xs);
  height = slice_index ys (i / bands xs + 1) - slice_index ys (i / bands xs);
}

-- a pixel lies in a rectangle
pub record IsInside (rect : Rect) (column row : ℕ) : Type 0 where
  pub right_of : rect.x ≤ column
  pub left_of : column < rect.x + rect.width
  pub below : rect.y ≤ row
  pub above : row < rect.y + rect.height

-- each layer covers two pixels of one cell alike in each frame: surely, surely not or maybe
abbrev pub CoversAlike : Scene → ℕ → List ℕ → List ℕ → LooseRun → Type 0
CoversAlike scene frames xs ys run =
    (frame number i column row other_column other_row : ℕ) → frame < frames → number < length scene.layers
    → i < cells_between xs ys → IsInside (cell_of xs ys i) column row → IsInside (cell_of xs ys i) other_column other_row
    → covers_surely (run frame number) column row ≡ covers_surely (run frame number) other_column other_row

-- so many cells are at most those that the states of the wide kind give, whatever they are
abbrev pub AtMostWide : Scene → Setup → ℕ → ℕ → Type 0
AtMostWide scene setup frames cells =
    (run : LooseRun) (xs ys : List ℕ) → IsLooseRunBelow wide scene setup frames run
    → AreCuts setup scene (λ box. frames) run xs ys → cells ≤ cells_between xs ys

-- cells times frames are too many, and so many cells are told
pub record IsWork (scene : Scene) (setup : Setup) (frames cells : ℕ) : Type 0 where
  pub xs : List ℕ
  pub ys : List ℕ
  pub cuts : AreOwnCuts scene setup frames xs ys
  pub cells_are : cells ≡ cells_between xs ys
  pub at_most_wide : AtMostWide scene setup frames cells
  pub too_many : work_limit < cells * frames

-- the edges are those of the scene, each cell is covered alike, and cells times frames aren't too many
pub record IsCut (scene : Scene) (setup : Setup) (frames : ℕ) (edges : Edges) : Type 0 where
  pub cuts : AreOwnCuts scene setup frames edges.xs edges.ys
  pub sound : AreSoundBoth edges.xs edges.ys
  pub alike : (run : LooseRun) → IsLooseRunBelow own scene setup frames run → CoversAlike scene frames edges.xs edges.ys run
  pub at_most_wide : AtMostWide scene setup frames (cells_between edges.xs edges.ys)
  pub few_enough : cells_between edges.xs edges.ys * frames ≤ work_limit

-- each state of each layer in one of so many frames is its state in one of its own frames
abbrev pub AreEnoughOfEach : Scene → Setup → (ℕ → ℕ) → ℕ → Type 0
AreEnoughOfEach scene setup frames_of frames =
    (number : ℕ) (layer : Layer) → slice_get scene.layers number ≡ Some layer
    → AreEnoughFrames scene setup layer frames (frames_of number)

-- no edge lies behind the end of a side
abbrev pub AreWithin : ℕ → List ℕ → Type 0
AreWithin size edges = (i : ℕ) → i < length edges → slice_index edges i ≤ size

-- the edges are those of the scene in the frames of each box, and each cell is covered alike in so many frames as those are enough for
pub record IsCutInto (scene : Scene) (setup : Setup) (frames_of : ℕ → ℕ) (edges : Edges) : Type 0 where
  pub cuts : AreOwnCutsOver scene setup frames_of edges.xs edges.ys
  pub sound : AreSoundBoth edges.xs edges.ys
  pub columns_within : AreWithin setup.width edges.xs
  pub rows_within : AreWithin setup.height edges.ys
  pub alike : (frames : ℕ) (run : LooseRun) → AreEnoughOfEach scene setup frames_of frames
      → IsLooseRunBelow own scene setup frames run → CoversAlike scene frames edges.xs edges.ys run

-- the edges of the whole viewport as one cell
abbrev pub whole_edges : Setup → Edges
whole_edges setup = record { xs = 0 ∷ (setup.width ∷ []); ys = 0 ∷ (setup.height ∷ []) }

-- what cutting a scene answers
abbrev pub IsCutting : Scene → Setup → ℕ → Result Edges CutFault → Type 0
IsCutting scene setup frames (Ok edges) = IsCut scene setup frames edges
IsCutting scene setup frames (Err (Work cells)) = IsWork scene setup frames cells
IsCutting scene setup frames (Err NoMemory) = Unit {0}

-- the same by what is marked
pub record AreListedBoth (columns rows : List Bool) (setup : Setup) (xs ys : List ℕ) : Type 0 where
  pub columns_are : AreListed columns setup.width xs
  pub rows_are : AreListed rows setup.height ys

pub record IsListedWork (columns rows : List Bool) (setup : Setup) (frames cells : ℕ) : Type 0 where
  pub xs : List ℕ
  pub ys : List ℕ
  pub listed : AreListedBoth columns rows setup xs ys
  pub cells_are : cells ≡ cells_between xs ys
  pub too_many : work_limit < cells * frames

pub record IsListedCut (columns rows : List Bool) (setup : Setup) (frames : ℕ) (edges : Edges) : Type 0 where
  pub listed : AreListedBoth columns rows setup edges.xs edges.ys
  pub few_enough : cells_between edges.xs edges.ys * frames ≤ work_limit

abbrev pub IsListedCutting : List Bool → List Bool → Setup → ℕ → Result Edges CutFault → Type 0
IsListedCutting columns rows setup frames (Ok edges) = IsListedCut columns rows setup frames edges
IsListedCutting columns rows setup frames (Err (Work cells)) = IsListedWork columns rows setup frames cells
IsListedCutting columns rows setup frames (Err NoMemory) = Unit {0}
