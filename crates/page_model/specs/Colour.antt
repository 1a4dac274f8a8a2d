-- The colour of a pixel: the canvas is white, the body is painted on every pixel where it has a colour, and the boxes follow in
-- paint order, each blended over what is there in eight bits, by the cover of its colour and the alpha of its opacity together. Over the states of the layers, which are handed in: so what is said of
-- colours is said of the exact states, whatever they are, and nothing has to be found by search. The paint order is that of
-- CSS 2 (z-index, then document order); blending in eight bits with its rounding is the project's own.
use Rattle.std.specs.Prelude.{ℕ, ℤ, pos, Bool, Option, Some, ◌≡◌, ◌+◌, ◌-◌, ◌*◌, ◌/◌, ◌≤◌, ◌+ℤ◌, ◌&&◌, fold, slice_get, is_some, option_and_then, int_le, int_lt, if◌then◌else◌}
use Rattle.page_model.specs.declared.setup.Setup.{Setup}
use Rattle.page_model.specs.declared.colour.Rgb.{Rgb}
use Rattle.page_model.specs.declared.colour.Rgba.{Rgba}
use Rattle.page_model.specs.declared.scene.Layer.{Layer}
use Rattle.page_model.specs.declared.scene.Scene.{Scene}
use Rattle.page_model.specs.Flash.{Painting, IsBad}
use Rattle.page_model.specs.LayerAt.{State, IsStateAt}
use Rattle.page_model.specs.Red.{white}
use Rattle.page_model.specs.Time.{window_of}

-- one channel over another, by an alpha from 0 to 255, rounded half up
abbrev pub blended : ℕ → ℕ → ℕ → ℕ
blended source alpha backdrop = (source * alpha + backdrop * (255 - alpha) + 127) / 255

-- the cover of a colour and an alpha from 0 to 255 together, rounded half up
abbrev pub combined : ℕ → ℕ → ℕ
combined cover alpha = (cover * alpha + 127) / 255

-- a state's colour over a backdrop, by an alpha from 0 to 255 beside the colour's own cover
abbrev pub over : State → ℕ → Rgb → Rgb
over state alpha backdrop = record {
  r = blended state.red (combined state.cover alpha) backdrop.r;
  g = blended state.green (combined state.cover alpha) backdrop.g;
  b = blended state.blue (combined state.cover alpha) backdrop.b;
}

-- a box from an edge covers a column, or a row: its right edge is the left one and its width together, and isn't covered
abbrev pub spans : ℤ → ℤ → ℕ → Bool
spans from size at = int_le from (pos at) && int_lt (pos at) (from +ℤ size)

abbrev pub covers : State → ℕ → ℕ → Bool
covers state column row = spans state.left state.width column && spans state.top state.height row

-- the pixel after a box is painted, of which the state is known
abbrev pub paint_box : (ℕ → State) → ℕ → ℕ → Rgb → ℕ → Rgb
paint_box states column row backdrop box =
    if (states box).shown && covers (states box) column row then over (states box) (states box).alpha backdrop else backdrop

-- the declared colour of the body, if it has one
abbrev pub body_colour : Scene → Option Rgba
body_colour scene = option_and_then (λ (body : Layer). body.colour) (slice_get scene.layers 0)

-- the pixel before any box is painted: the body over white, whatever its opacity and whether it is shown
abbrev pub ground : Scene → (ℕ → State) → Rgb
ground scene states = if is_some (body_colour scene) then over (states 0) 255 white else white

-- the colour of a pixel, by the states of the layers
abbrev pub painted : Scene → (ℕ → State) → ℕ → ℕ → Rgb
painted scene states column row = fold (paint_box states column row) (ground scene states) scene.order

-- a run of states: of each frame and each layer, by number
abbrev pub Run : Type 0
Run = ℕ → ℕ → State

-- a run has the exact states of all layers in the frames of a window
abbrev pub IsRunIn : Scene → Setup → ℕ → Run → Type 0
IsRunIn scene setup start run =
    (frame number : ℕ) (layer : Layer) → start ≤ frame → frame ≤ start + window_of setup
    → slice_get scene.layers number ≡ Some layer → IsStateAt scene setup frame layer (run frame number)

-- what is seen in a run
abbrev pub painting_of : Scene → Run → Painting
painting_of scene run frame column row = painted scene (run frame) column row

-- with the exact states of its layers, whatever they are, the window is bad at the position
abbrev pub IsBadWindow : Scene → Setup → ℕ → ℤ → ℤ → Type 0
IsBadWindow scene setup start x y = (run : Run) → IsRunIn scene setup start run → IsBad (painting_of scene run) setup start x y

-- with the exact states of its layers, whatever they are, no window is bad at any position, from the first frame on for ever
abbrev pub IsSafeScene : Scene → Setup → Type 0
IsSafeScene scene setup =
    (start : ℕ) (x y : ℤ) (run : Run) → IsRunIn scene setup start run → IsBad (painting_of scene run) setup start x y → ⊥
