-- What the code keeps of a curve's points, as they are written.
use Rattle.std.specs.Prelude.{ℕ, Bool}
use Rattle.css_easings.specs.declared.easings.Points.{Points as Kept}
use Rattle.css_easings.specs.declared.easings.Thousandths.{Thousandths}
use Rattle.css_easings.specs.Easings.{Points}

abbrev pub written : Thousandths → Bool × ℕ
written t = (t.negative, t.size)

abbrev pub pointed : Kept → Points
pointed p = record { x1 = written p.x1; y1 = written p.y1; x2 = written p.x2; y2 = written p.y2 }
