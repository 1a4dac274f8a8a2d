-- A wrong count of marked pixels.
use Rattle.std.specs.Prelude.{◌+◌}
use Rattle.page_model.specs.Flash.{area}
use Rattle.flash_laws.specs.MarkLaws.{Counting, CountsAtMostAll, CountsRectangles}

-- each column is counted twice, as where the last one of a part is the first one of the next
abbrev pub area_twice : Counting
area_twice width height marks = area width height marks + area width height marks

-- it counts more than the viewport, and rectangles as larger than they are
pub record AreaTwiceBreaks : Type 0 where
  pub at_most_all : CountsAtMostAll area_twice → ⊥
  pub rectangles : CountsRectangles area_twice → ⊥
