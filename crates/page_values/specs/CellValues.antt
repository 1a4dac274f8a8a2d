-- The edges of a page with three boxes in nine frames, at a viewport of 100 by 240 pixels. The first box lies at (99, 60), 6 wide and
-- 57 high, the second at (166, 59), 105 wide and 192 high; the third lies at (30, -2) and is 93 wide, and 4 high in its first two
-- frames and 72 high from then on. The edges and their number are those of an implementation that shares nothing with these
-- definitions.
use Rattle.std.specs.Prelude.{ℕ, zero, suc, ℤ, pos, neg_ℤ, false, None, ◌≡◌, ◌*◌, ◌<◌, List, [], ◌∷◌, length, nat_lt, if◌then◌else◌}
use Rattle.page_model.specs.declared.setup.Setup.{Setup}
use Rattle.page_model.specs.declared.scene.Scene.{Scene}
use Rattle.page_model.specs.Cells.{AreCuts, cells_between, work_limit}
use Rattle.page_model.specs.Enclosure.{LooseState, LooseRun, one_value, surely}
use Rattle.page_values.specs.SceneValues.{body, black_box}

-- a black box whose place and size are known
abbrev pub box_at : ℤ → ℤ → ℤ → ℤ → LooseState
box_at left top width height = record {
  red = one_value (pos 0);
  green = one_value (pos 0);
  blue = one_value (pos 0);
  cover = one_value (pos 255);
  alpha = one_value (pos 255);
  shown = surely;
  left = one_value left;
  top = one_value top;
  width = one_value width;
  height = one_value height;
}

-- the body and the three boxes, the last of which has a height of its own in each frame
abbrev pub boxes_with : ℤ → ℕ → LooseState
boxes_with height zero = box_at (pos 0) (pos 0) (pos 0) (pos 0)
boxes_with height (suc zero) = box_at (pos 99) (pos 60) (pos 6) (pos 57)
boxes_with height (suc (suc zero)) = box_at (pos 166) (pos 59) (pos 105) (pos 192)
boxes_with height (suc (suc (suc number))) = box_at (pos 30) (neg_ℤ (pos 2)) (pos 93) height

abbrev pub three_boxes : LooseRun
three_boxes frame number = boxes_with (if nat_lt frame 2 then pos 4 else pos 72) number

-- a page of four layers; where they lie is told by the run
abbrev pub four_layers : Scene
four_layers = record {
  layers =
      body None false []
      ∷ (black_box (pos 0) (pos 0) 1000 [] ∷ (black_box (pos 0) (pos 0) 1000 [] ∷ (black_box (pos 0) (pos 0) 1000 [] ∷ [])));
  order = 1 ∷ (2 ∷ (3 ∷ []));
  sets = [];
}

abbrev pub small_viewport : Setup
small_viewport = record { width = 100; height = 240; num = 5; den = 1 }

abbrev pub columns : List ℕ
columns = 0 ∷ (30 ∷ (99 ∷ (100 ∷ [])))

abbrev pub rows : List ℕ
rows = 0 ∷ (2 ∷ (59 ∷ (60 ∷ (70 ∷ (117 ∷ (240 ∷ []))))))

-- A long slide has 1,012 columns and two rows of edges, and so 1,011 cells: in 6,061 frames that is too much.
pub record CellValues : Type 0 where
  pub cuts : AreCuts small_viewport four_layers (λ box. 9) three_boxes columns rows
  pub cells : cells_between columns rows ≡ 18
  pub long_slide : (xs ys : List ℕ) → length xs ≡ 1012 → length ys ≡ 2 → cells_between xs ys ≡ 1011
  pub too_much : work_limit < 1011 * 6061
