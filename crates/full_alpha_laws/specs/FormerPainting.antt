-- The former text of a pixel's colour: the body's colour was the ground itself, and a box was blended by the alpha of its opacity.
use Rattle.std.specs.Prelude.{ℕ, ◌&&◌, fold, is_some, if◌then◌else◌}
use Rattle.page_model.specs.declared.colour.Rgb.{Rgb}
use Rattle.page_model.specs.declared.scene.Scene.{Scene}
use Rattle.page_model.specs.Colour.{blended, body_colour, covers}
use Rattle.page_model.specs.LayerAt.{State}
use Rattle.page_model.specs.Red.{white}

abbrev pub former_over : State → Rgb → Rgb
former_over state backdrop = record {
  r = blended state.red state.alpha backdrop.r;
  g = blended state.green state.alpha backdrop.g;
  b = blended state.blue state.alpha backdrop.b;
}

abbrev pub former_colour : State → Rgb
former_colour state = record { r = state.red; g = state.green; b = state.blue }

abbrev pub former_box : (ℕ → State) → ℕ → ℕ → Rgb → ℕ → Rgb
former_box states column row backdrop box =
    if (states box).shown && covers (states box) column row then former_over (states box) backdrop else backdrop

abbrev pub former_ground : Scene → (ℕ → State) → Rgb
former_ground scene states = if is_some (body_colour scene) then former_colour (states 0) else white

abbrev pub former_painted : Scene → (ℕ → State) → ℕ → ℕ → Rgb
former_painted scene states column row = fold (former_box states column row) (former_ground scene states) scene.order
