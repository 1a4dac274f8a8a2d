-- Where a layer may be seen, and which cells it meets.
use Rattle.std.specs.Prelude.{ℕ, Bool, true, ◌≡◌, ◌≢◌, ◌⊎◌, ◌↔◌, ◌<◌, ◌≤◌, ◌&&◌, nat_le, nat_lt, List, Some, IsSome, slice_get}
use Rattle.std.specs.List.{list_any}
use Rattle.page_model.specs.declared.scene.Layer.{Layer}
use Rattle.page_model.specs.declared.scene.Scene.{Scene}
use Rattle.page_model.specs.declared.setup.Setup.{Setup}
use Rattle.page_model.specs.Colour.{body_colour}
use Rattle.page_model.specs.Enclosure.{IsLooseStateAt, Loose, LooseState, own, surely_not}
use Rattle.page_model.specs.TintOf.{covers_surely, spans_surely}
use Rattle.region_parts.specs.declared.areas.Area.{Area}

-- a layer of this state may be seen at a pixel
pub record IsSeenAt (state : LooseState) (column row : ℕ) : Type 0 where
  pub shown : state.shown ≢ surely_not
  pub covers : covers_surely state column row ≢ surely_not

-- a layer may be, in a frame
pub record IsSeenIn (scene : Scene) (setup : Setup) (frame number column row : ℕ) : Type 0 where
  pub layer : Layer
  pub state : LooseState
  pub is_there : slice_get scene.layers number ≡ Some layer
  pub is_own : IsLooseStateAt own scene setup frame layer state
  pub seen : IsSeenAt state column row

-- in one of so many frames
pub record IsSeenBelow (scene : Scene) (setup : Setup) (number frames column row : ℕ) : Type 0 where
  pub frame : ℕ
  pub before : frame < frames
  pub seen : IsSeenIn scene setup frame number column row

-- a layer meets the cell with this first pixel
abbrev pub MayMeet : Scene → Setup → ℕ → ℕ → ℕ → ℕ → Type 0
MayMeet scene setup number frames column row =
    ((number ≡ 0) × IsSome (body_colour scene)) ⊎ ((1 ≤ number) × IsSeenBelow scene setup number frames column row)

-- a pixel of the viewport
pub record IsPixel (setup : Setup) (column row : ℕ) : Type 0 where
  pub left_of : column < setup.width
  pub above : row < setup.height

-- a box may span the places of a side from one on, up to another
abbrev pub IsReach : ℕ → Loose → Loose → ℕ → ℕ → Type 0
IsReach size from extent start end =
    (at : ℕ) → at < size → ((spans_surely from extent at ≢ surely_not) ↔ ((start ≤ at) × (at < end)))

-- a pixel lies in an area
abbrev pub has_pixel : ℕ → ℕ → Area → Bool
has_pixel column row area =
    nat_le area.left column && (nat_lt column area.right && (nat_le area.top row && nat_lt row area.bottom))

-- at the pixels of the area a layer of this state may be seen, and at no others; or at none at all
abbrev pub IsAreaOf : Setup → LooseState → Area → Type 0
IsAreaOf setup state area =
    (column row : ℕ) → IsPixel setup column row → ((has_pixel column row area ≡ true) ↔ IsSeenAt state column row)

abbrev pub IsNowhere : Setup → LooseState → Type 0
IsNowhere setup state = (column row : ℕ) → IsPixel setup column row → IsSeenAt state column row → ⊥

-- at the pixels of the areas a layer may be seen in one of so many frames, and at no others
abbrev pub IsBoxAreasOf : Scene → Setup → ℕ → ℕ → List Area → Type 0
IsBoxAreasOf scene setup number frames areas =
    (column row : ℕ) → IsPixel setup column row
    → ((list_any (has_pixel column row) areas ≡ true) ↔ IsSeenBelow scene setup number frames column row)

-- the layer meets the cells whose first pixels lie in the areas, and no others
abbrev pub AreAreasOf : Scene → Setup → ℕ → ℕ → List Area → Type 0
AreAreasOf scene setup number frames areas =
    (column row : ℕ) → IsPixel setup column row
    → ((list_any (has_pixel column row) areas ≡ true) ↔ MayMeet scene setup number frames column row)
