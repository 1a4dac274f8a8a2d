-- The edges of a box that slides from 0 to 4 pixels in 800 ms, in the four frames of that time at a rate of 5: it is at 0, 1, 2 and 3
-- pixels from the left, 20 wide, and lies in the rows 10 to 29.
use Rattle.std.specs.Prelude.{ℕ, zero, suc, pos, ◌≡◌, List, [], ◌∷◌}
use Rattle.page_model.specs.declared.animation.Count.TheVariants.{Times}
use Rattle.page_model.specs.declared.animation.Direction.TheVariants.{Normal}
use Rattle.page_model.specs.declared.animation.Fill.TheVariants.{Absent}
use Rattle.page_model.specs.declared.property.Prop.TheVariants as prop
use Rattle.page_model.specs.declared.property.Value.TheVariants as value
use Rattle.page_model.specs.declared.scene.Layer.{Layer}
use Rattle.page_model.specs.declared.scene.Scene.{Scene}
use Rattle.page_model.specs.Cells.{AreCuts, IsLooseRunBelow, cells_between}
use Rattle.page_model.specs.Enclosure.{LooseState, LooseRun, one_value, own, surely_not}
use Rattle.page_values.specs.CellValues.{box_at}
use Rattle.time_values.specs.Examples.{animation, at_rate}
use Rattle.page_values.specs.SceneValues.{black_box, keyframe, with_box}

abbrev pub slow_box : Layer
slow_box = black_box (pos 0) (pos 1000) 1000 (animation 800 (pos 0) (Times 1000) Normal Absent ∷ [])

abbrev pub slow_slide : Scene
slow_slide = with_box slow_box (record { frames = keyframe 10000 prop.Left (value.Length (pos 400)) ∷ [] } ∷ [])

-- the states of both layers: the body isn't shown, and the box is as far right as the frame's number
abbrev pub still_body : LooseState
still_body = record {
  red = one_value (pos 0);
  green = one_value (pos 0);
  blue = one_value (pos 0);
  cover = one_value (pos 0);
  alpha = one_value (pos 255);
  shown = surely_not;
  left = one_value (pos 0);
  top = one_value (pos 0);
  width = one_value (pos 0);
  height = one_value (pos 0);
}

abbrev pub slide_run : LooseRun
slide_run frame zero = still_body
slide_run frame (suc number) = box_at (pos frame) (pos 10) (pos 20) (pos 20)

abbrev pub slide_columns : List ℕ
slide_columns = 0 ∷ (1 ∷ (2 ∷ (3 ∷ (20 ∷ (21 ∷ (22 ∷ (23 ∷ (1024 ∷ []))))))))

abbrev pub slide_rows : List ℕ
slide_rows = 0 ∷ (10 ∷ (30 ∷ (768 ∷ [])))

pub record SlideValues : Type 0 where
  pub run : IsLooseRunBelow own slow_slide (at_rate 5) 4 slide_run
  pub cuts : AreCuts (at_rate 5) slow_slide (λ box. 4) slide_run slide_columns slide_rows
  pub cells : cells_between slide_columns slide_rows ≡ 24
