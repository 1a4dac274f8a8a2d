-- Where each box is in the frames that are looked at, and what that tells of two pixels. This is the project's own.
use Rattle.std.specs.Prelude.{ℕ, pos, Bool, true, ◌≡◌, ◌+◌, ◌<◌, ◌||◌, int_le, int_lt, if◌then◌else◌, All, List, length, slice_get, Some}
use Rattle.page_model.specs.declared.scene.Layer.{Layer}
use Rattle.page_model.specs.declared.scene.Scene.{Scene}
use Rattle.page_model.specs.declared.setup.Setup.{Setup}
use Rattle.page_model.specs.Cells.{end_of}
use Rattle.page_model.specs.Enclosure.{IsLooseStateAt, Loose, LooseState, Sureness, maybe, own, surely, surely_not}
use Rattle.page_model.specs.TintOf.{both, spans_surely}
use Rattle.frame_state.specs.Places.{LoosePlace, place_in}
use Rattle.frame_state.specs.States.{loose_as}
use Rattle.cell_groups.specs.declared.homes.Area.{Area}
use Rattle.cell_groups.specs.declared.homes.Home.{Home}
use Rattle.cell_groups.specs.declared.homes.Home.TheVariants.{Fixed, Within}
use Rattle.cell_groups.specs.declared.homes.Side.{Side}

-- where a box may begin and end that begins and reaches so far
pub record IsSideOf (from extent : Loose) (side : Side) : Type 0 where
  pub begin : loose_as side.begin ≡ from
  pub end : loose_as side.end ≡ end_of from extent

-- how surely a box spans a place that may begin and end there
abbrev pub spans_by : Loose → Loose → ℕ → Sureness
spans_by begin end at =
    if int_lt (pos at) begin.lo then surely_not
    else (if int_le end.hi (pos at) then surely_not
    else (if int_le begin.hi (pos at) then (if int_lt (pos at) end.lo then surely else maybe) else maybe))

abbrev pub spans_side : Side → ℕ → Sureness
spans_side side at = spans_by (loose_as side.begin) (loose_as side.end) at

-- how surely it covers a pixel
abbrev pub covers_by : Side → Side → ℕ → ℕ → Sureness
covers_by across down column row = both (spans_side across column) (spans_side down row)

-- a pixel lies outside an area
abbrev pub is_outside : Area → ℕ → ℕ → Bool
is_outside area column row =
    int_lt (pos column) area.left
    || (int_le area.right (pos column) || (int_lt (pos row) area.top || int_le area.bottom (pos row)))

-- what lies outside one area lies outside another
abbrev pub HoldsArea : Area → Area → Type 0
HoldsArea area other = (column row : ℕ) → is_outside other column row ≡ true → is_outside area column row ≡ true

-- how surely a box in a place covers a pixel
abbrev pub place_covers : LoosePlace → ℕ → ℕ → Sureness
place_covers place column row = both (spans_surely place.left place.width column) (spans_surely place.top place.height row)

-- a box in this place is at home
abbrev pub IsAtHome : LoosePlace → Home → Type 0
IsAtHome place (Fixed across down) = (column row : ℕ) → place_covers place column row ≡ covers_by across down column row
IsAtHome place (Within area) =
    (column row : ℕ) → is_outside area column row ≡ true → place_covers place column row ≡ surely_not

-- a box is, in each of so many frames, whatever its states of the own kind are
abbrev pub IsHomeOf : Scene → Setup → ℕ → Layer → Home → Type 0
IsHomeOf scene setup frames layer home =
    (frame : ℕ) (state : LooseState) → frame < frames → IsLooseStateAt own scene setup frame layer state
    → IsAtHome (place_in state) home

-- these are the homes of the boxes before a number
pub record AreHomesBefore (scene : Scene) (setup : Setup) (frames number : ℕ) (homes : List Home) : Type 0 where
  pub one_each : length homes + 1 ≡ number
  pub each : (n : ℕ) (layer : Layer) (home : Home) → slice_get scene.layers (n + 1) ≡ Some layer
      → slice_get homes n ≡ Some home → IsHomeOf scene setup frames layer home

-- they are those of all boxes
abbrev pub AreHomes : Scene → Setup → ℕ → List Home → Type 0
AreHomes scene setup frames homes = AreHomesBefore scene setup frames (length scene.layers) homes

-- a home tells that a box covers two pixels alike
abbrev pub TellsAlike : Home → ℕ → ℕ → ℕ → ℕ → Type 0
TellsAlike (Fixed across down) column row other_column other_row =
    covers_by across down column row ≡ covers_by across down other_column other_row
TellsAlike (Within area) column row other_column other_row =
    (is_outside area column row ≡ true) × (is_outside area other_column other_row ≡ true)

-- all homes tell it
abbrev pub TellAlike : List Home → ℕ → ℕ → ℕ → ℕ → Type 0
TellAlike homes column row other_column other_row =
    All (λ home. TellsAlike home column row other_column other_row) homes
