-- What one pass over the frames of a scene has seen of its cells, and found in its windows.
use Rattle.std.specs.Prelude.{ℕ, ℤ, Bool, false, true, ◌≡◌, ◌+◌, ◌-◌, ◌*◌, ◌<◌, ◌≤◌, MatchOption, Option, List, [], length, slice_index_or}
use Rattle.page_model.specs.declared.colour.Tint.{Tint}
use Rattle.page_model.specs.declared.scene.Scene.{Scene}
use Rattle.page_model.specs.declared.setup.Setup.{Setup}
use Rattle.page_model.specs.declared.witness.BadWindow.{BadWindow}
use Rattle.page_model.specs.Horizon.{frames_for}
use Rattle.page_model.specs.Time.{window_of}
use Rattle.cell_flags.specs.Flags.{AreAlikeCells, AreSeenAs, IsFlagOf}
use Rattle.cell_groups.specs.Groups.{AreGroups, Grouping, first_of}
use Rattle.cell_rows.specs.CellRows.{AreAllFree, AreRoomy}
use Rattle.cell_tints.specs.Tints.{AreStatesIn, AreTintsIn, cells_of}
use Rattle.flash_count.specs.declared.tracking.Flag.{Flag}
use Rattle.flash_count.specs.Rows.{StandsFor}
use Rattle.frame_state.specs.declared.types.LayerState.{LayerState}
use Rattle.region_split.specs.declared.types.Rect.{Rect}
use Rattle.region_split.specs.Cutting.{Edges, cell_of}
use Rattle.row_pool.specs.Pools.{row_of}
use Rattle.row_pool.specs.Rows.{Rows}
use Rattle.sweep.specs.declared.room.Room.{Room}
use Rattle.sweep.specs.declared.types.Reason.TheVariants as reason
use Rattle.sweep.specs.declared.types.Verdict.{Verdict}
use Rattle.sweep.specs.declared.types.Verdict.TheVariants.{Pass, Fail, Undecided}
use Rattle.sweep.specs.declared.windows.Found.{Found}
use Rattle.sweep.specs.declared.windows.Sort.{Sort}
use Rattle.sweep.specs.declared.windows.Sort.TheVariants.{Possible, Sure}
use Rattle.sweep.specs.Told.{AreFew, AreMany, unflagged}

-- flags are those of all cells in a window
abbrev pub AreFlagsIn : Scene → Setup → Edges → ℕ → List Flag → Type 0
AreFlagsIn scene setup edges start flags =
    (cell : ℕ) → cell < cells_of edges
    → IsFlagOf scene setup start (cell_of edges.xs edges.ys cell) (slice_index_or flags cell unflagged)

-- more than a quarter is flagged in a window, or at most that
pub record IsMany (sort : Sort) (scene : Scene) (setup : Setup) (edges : Edges) (start : ℕ) (x y : ℤ) : Type 0 where
  pub flags : List Flag
  pub are : AreFlagsIn scene setup edges start flags
  pub many : AreMany sort edges flags x y

pub record IsFew (sort : Sort) (scene : Scene) (setup : Setup) (edges : Edges) (start : ℕ) : Type 0 where
  pub flags : List Flag
  pub are : AreFlagsIn scene setup edges start flags
  pub few : AreFew sort edges flags

abbrev pub AreFewBefore : Sort → Scene → Setup → Edges → ℕ → Type 0
AreFewBefore sort scene setup edges end = (start : ℕ) → start < end → IsFew sort scene setup edges start

pub record IsFirstMany (sort : Sort) (scene : Scene) (setup : Setup) (edges : Edges) (end start : ℕ) (x y : ℤ)
    : Type 0 where
  pub before : start < end
  pub many : IsMany sort scene setup edges start x y
  pub least : AreFewBefore sort scene setup edges start

-- the first window with many, of those that start before a frame, or none
abbrev pub IsFoundBefore : Sort → Scene → Setup → Edges → ℕ → Option BadWindow → Type 0
IsFoundBefore sort scene setup edges end found =
    MatchOption found (AreFewBefore sort scene setup edges end)
    (λ window. IsFirstMany sort scene setup edges end window.start window.x window.y)

-- the first pixel of a rectangle was seen in the first frames, so many, and a row stands for its tints
pub record HasSeen (scene : Scene) (setup : Setup) (rect : Rect) (frames : ℕ) (row : List ℕ) : Type 0 where
  pub tints : List Tint
  pub long : length tints ≡ frames
  pub are : AreSeenAs scene setup rect tints
  pub stands : StandsFor (window_of setup) tints row

-- how many groups there are
abbrev pub groups_in : Grouping → ℕ
groups_in groups = length groups.firsts

-- In the first frames, so many, all groups were seen, each by its first cell and a row of a pool, and of the windows
-- that ended in them the first with many flags of each sort was found. The row of a group has the group's number.
pub record IsSwept (scene : Scene) (setup : Setup) (edges : Edges) (groups : Grouping) (frames : ℕ) (pool : Rows)
    (found : Found) : Type 0 where
  pub roomy : AreRoomy (window_of setup) (groups_in groups) pool
  pub seen : (group : ℕ) → group < groups_in groups
      → HasSeen scene setup (cell_of edges.xs edges.ys (first_of groups group)) frames (row_of pool group)
  pub sure : IsFoundBefore Sure scene setup edges (frames - window_of setup) found.sure
  pub possible : IsFoundBefore Possible scene setup edges (frames - window_of setup) found.possible

-- The first window with many sure flags was found, of so many windows. Where there is none, so was the first with
-- many possible ones.
abbrev pub IsFoundIn : Scene → Setup → Edges → ℕ → Found → Type 0
IsFoundIn scene setup edges windows found =
    MatchOption found.sure
    (AreFewBefore Sure scene setup edges windows × IsFoundBefore Possible scene setup edges windows found.possible)
    (λ window. IsFirstMany Sure scene setup edges windows window.start window.x window.y)

-- the verdict that the windows tell
pub record IsToldPass (scene : Scene) (setup : Setup) (edges : Edges) (windows frames : ℕ) : Type 0 where
  pub frames_are : frames ≡ windows
  pub surely : AreFewBefore Sure scene setup edges windows
  pub possibly : AreFewBefore Possible scene setup edges windows

pub record IsToldUndecided (scene : Scene) (setup : Setup) (edges : Edges) (windows start : ℕ) (x y : ℤ) : Type 0 where
  pub surely : AreFewBefore Sure scene setup edges windows
  pub first : IsFirstMany Possible scene setup edges windows start x y

abbrev pub IsTold : Scene → Setup → Edges → ℕ → Verdict → Type 0
IsTold scene setup edges windows (Pass frames apart) = IsToldPass scene setup edges windows frames × (apart ≡ false)
IsTold scene setup edges windows (Fail window) =
    IsFirstMany Sure scene setup edges windows window.start window.x window.y
IsTold scene setup edges windows (Undecided reason.Frames) = ⊥
IsTold scene setup edges windows (Undecided (reason.Work cells frames)) = ⊥
IsTold scene setup edges windows (Undecided (reason.Enclosure start x y)) =
    IsToldUndecided scene setup edges windows start x y

-- states are those of all layers in a frame, and tints those of all groups of cells
pub record ArePainted (scene : Scene) (setup : Setup) (edges : Edges) (groups : Grouping) (frame : ℕ)
    (states : List LayerState) (tints : List Tint) : Type 0 where
  pub states_are : AreStatesIn scene setup frame states
  pub tints_are : AreTintsIn scene setup edges frame groups.firsts (groups_in groups) tints

-- they are those in the frame before, where there is one
abbrev pub ArePaintedBefore : Scene → Setup → Edges → Grouping → ℕ → List LayerState → List Tint → Type 0
ArePaintedBefore scene setup edges groups frame states tints =
    0 < frame → ArePainted scene setup edges groups (frame - 1) states tints

-- each layer covers two pixels of one cell alike in some frames, and the cells of one group, and a frame is one of them
pub record AreAlikeAt (scene : Scene) (setup : Setup) (edges : Edges) (groups : Grouping) (frame : ℕ) : Type 0 where
  pub frames : ℕ
  pub cells : AreAlikeCells scene setup frames edges
  pub groups_are : AreGroups scene setup frames edges groups
  pub before : frame < frames

-- the first rows, so many, stand for no tints
abbrev pub AreAllBegun : ℕ → ℕ → Rows → Type 0
AreAllBegun rate cells pool = (cell : ℕ) → cell < cells → StandsFor rate [] (row_of pool cell)

-- a pool has a row for each of so many cells, which has the words of a window and is free
pub record HasRows (rate cells : ℕ) (pool : Rows) : Type 0 where
  pub all : length pool.rows ≡ cells
  pub wide : (cell : ℕ) → cell < cells → 9 * (rate + 1) ≤ length (row_of pool cell)
  pub free : AreAllFree cells pool

-- each list has a place for each of so many layers, cells or groups
pub record HasPlaces (layers cells groups : ℕ) (room : Room) : Type 0 where
  pub states : length room.states.items ≡ layers
  pub next : length room.next.items ≡ layers
  pub tints : length room.tints.items ≡ groups
  pub flags : length room.flags.items ≡ groups
  pub marks : length room.marks.items ≡ cells
  pub work : length room.work.items ≡ cells

-- there is room for so many layers and cells, in so many groups
pub record IsRoom (rate layers cells groups : ℕ) (room : Room) : Type 0 where
  pub rows : HasRows rate cells room.pool
  pub places : HasPlaces layers cells groups room

-- the cells are in groups, as they are where no region was judged by itself
abbrev pub AreGroupedBy : Bool → Scene → Setup → ℕ → Edges → Grouping → Type 0
AreGroupedBy false scene setup needed edges groups = AreGroups scene setup (frames_for setup needed) edges groups
AreGroupedBy true scene setup needed edges groups = Unit {0}

-- so it is with a room that is swept: there is a row for each cell
pub record IsSweeping (apart : Bool) (scene : Scene) (setup : Setup) (needed : ℕ) (edges : Edges) (groups : Grouping)
    (room : Room) : Type 0 where
  pub room_is : IsRoom (window_of setup) (length scene.layers) (length room.pool.rows) (groups_in groups) room
  pub grouped : AreGroupedBy apart scene setup needed edges groups
