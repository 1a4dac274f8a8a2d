-- A state where no layer is.
use Rattle.std.specs.Prelude.{pos, false}
use Rattle.page_model.specs.LayerAt.{State}

-- a state for a layer that isn't there
abbrev pub no_state : State
no_state = record {
  red = 0;
  green = 0;
  blue = 0;
  cover = 0;
  alpha = 0;
  shown = false;
  left = pos 0;
  top = pos 0;
  width = pos 0;
  height = pos 0;
}
