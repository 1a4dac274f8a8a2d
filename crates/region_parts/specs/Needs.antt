-- What each layer needs by itself, and of each cell what the layers need that meet it.
use Rattle.std.specs.Prelude.{ℕ, Bool, ◌≡◌, ◌↔◌, ◌+◌, ◌<◌, ◌≤◌, List, [], length, take, slice_get, slice_index_or, Some, Result, Ok, Err}
use Rattle.std.specs.List.{items_where_true}
use Rattle.page_model.specs.declared.setup.Setup.{Setup}
use Rattle.page_model.specs.declared.scene.Layer.{Layer}
use Rattle.page_model.specs.declared.scene.Scene.{Scene}
use Rattle.page_model.specs.Cells.{cells_between}
use Rattle.page_model.specs.Horizon.{IsHorizon, animations_of}
use Rattle.period_frames.specs.declared.frames.Horizon.{Horizon}
use Rattle.period_frames.specs.Needed.{LayerRepeats}
use Rattle.period_frames.specs.Repeats.{IsShortHorizon}
use Rattle.region_split.specs.Cutting.{Edges, IsCutInto, cell_of}
use Rattle.region_split.specs.Marks.{frames_in}
use Rattle.region_parts.specs.declared.types.PartFault.{PartFault}
use Rattle.region_parts.specs.declared.types.PartFault.TheVariants.{NotApart, NoMemory}
use Rattle.region_parts.specs.Meeting.{MayMeet}
use Rattle.region_parts.specs.Parts.{CanNotBeParted, no_horizon}

-- what holds where a scene may be parted yet
abbrev pub IsPartedOr : {X : Type 0} → Scene → Setup → (X → Type 0) → Result X PartFault → Type 0
IsPartedOr scene setup P (Ok x) = P x
IsPartedOr scene setup P (Err NotApart) = CanNotBeParted scene setup
IsPartedOr scene setup P (Err NoMemory) = Unit {0}

-- a horizon of a list, by its number
abbrev pub horizon_in : List Horizon → ℕ → Horizon
horizon_in horizons number = slice_index_or horizons number no_horizon

abbrev pub needed_in : List Horizon → ℕ → ℕ
needed_in horizons number = (horizon_in horizons number).settled + (horizon_in horizons number).period

-- what a layer needs: the horizon of its animations, which is short, and behind which it repeats
pub record IsNeed (scene : Scene) (setup : Setup) (layer : Layer) (horizon : Horizon) : Type 0 where
  pub horizon_is : IsHorizon setup layer.anims horizon.settled horizon.period
  pub short : IsShortHorizon horizon
  pub repeats : LayerRepeats scene setup layer horizon.settled horizon.period

-- these are the needs of the layers before a number, and the frames up to their ends
pub record AreNeedsBefore (scene : Scene) (setup : Setup) (number : ℕ) (horizons : List Horizon)
    (frames : List ℕ) : Type 0 where
  pub one_each : length horizons ≡ number
  pub frames_too : length frames ≡ number
  pub each : (n : ℕ) (layer : Layer) → n < number → slice_get scene.layers n ≡ Some layer
      → IsNeed scene setup layer (horizon_in horizons n)
  pub frames_are : (n : ℕ) → n < number → frames_in frames n ≡ needed_in horizons n

abbrev pub AreNeeds : Scene → Setup → List Horizon → List ℕ → Type 0
AreNeeds scene setup horizons frames = AreNeedsBefore scene setup (length scene.layers) horizons frames

-- of some layers before a number, marked each, just those are marked that meet the cell with this first pixel
pub record AreMetBefore (scene : Scene) (setup : Setup) (frames_of : ℕ → ℕ) (column row number : ℕ)
    (marks : List Bool) : Type 0 where
  pub one_each : length marks ≡ number
  pub meets : (n : ℕ) → n < number
      → ((slice_get marks n ≡ Some Bool.true) ↔ MayMeet scene setup n (frames_of n) column row)

-- the horizon of the layers before a number that meet the cell
pub record IsHorizonBefore (scene : Scene) (setup : Setup) (frames_of : ℕ → ℕ) (column row number : ℕ)
    (horizon : Horizon) : Type 0 where
  pub marks : List Bool
  pub are_met : AreMetBefore scene setup frames_of column row number marks
  pub horizon_is : IsHorizon setup (animations_of (items_where_true marks (take number scene.layers)))
      horizon.settled horizon.period
  pub short : IsShortHorizon horizon

-- the horizon of no animation, for each cell
pub record AreAllFirst (cells : ℕ) (horizons : List Horizon) : Type 0 where
  pub one_each : length horizons ≡ cells
  pub none : (cell : ℕ) (setup : Setup) → cell < cells
      → IsHorizon setup [] (horizon_in horizons cell).settled (horizon_in horizons cell).period
  pub short : (cell : ℕ) → cell < cells → IsShortHorizon (horizon_in horizons cell)

-- the horizons of all cells, by the layers before a number
pub record AreHorizonsBefore (scene : Scene) (setup : Setup) (frames_of : ℕ → ℕ) (edges : Edges) (number : ℕ)
    (horizons : List Horizon) : Type 0 where
  pub one_each : length horizons ≡ cells_between edges.xs edges.ys
  pub each : (cell : ℕ) → cell < cells_between edges.xs edges.ys
      → IsHorizonBefore scene setup frames_of (cell_of edges.xs edges.ys cell).x (cell_of edges.xs edges.ys cell).y
      number (horizon_in horizons cell)

-- the scene is cut by the frames that each layer needs
pub record IsCutByNeeds (scene : Scene) (setup : Setup) (horizons : List Horizon) (frames : List ℕ)
    (edges : Edges) : Type 0 where
  pub needs : AreNeeds scene setup horizons frames
  pub cut : IsCutInto scene setup (frames_in frames) edges

-- so many frames are those of the longest of some horizons
pub record IsGreatestIn (horizons : List Horizon) (greatest : ℕ) : Type 0 where
  pub most : (number : ℕ) → number < length horizons → needed_in horizons number ≤ greatest
  pub is_some : (number : ℕ) × (number < length horizons) × (needed_in horizons number ≡ greatest)
