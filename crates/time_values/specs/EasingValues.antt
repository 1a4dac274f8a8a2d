-- Outputs of step easings and points of curves. The outputs of steps are those of an implementation that shares nothing with these
-- definitions; the points of curves are those that the halves of the control polygon give by hand.
use Rattle.std.specs.Prelude.{ℕ, pos, ◌≡◌}
use Rattle.page_model.specs.declared.easing.Jump.{Jump}
use Rattle.page_model.specs.declared.easing.Jump.TheVariants.{Start, End, Neither, Both}
use Rattle.page_model.specs.Curve.{stepped, column_at, height_at, curve_height, ReachesAt}
use Rattle.page_model.specs.Fraction.{Fraction, SameNumber}
use Rattle.time_values.specs.Examples.{fraction}

-- an output of so many steps is the number that is told
abbrev Gives : ℕ → Jump → Fraction → Fraction → Type 0
Gives count jump at told = SameNumber (stepped count jump at) told

-- jumps at the end of each step, and at its start
pub record StepsAtOneSide : Type 0 where
  pub end : Gives 60 End (fraction 139 240) (fraction 17 30)
  pub end_of_five : Gives 5 End (fraction 17 24) (fraction 3 5)
  pub end_at_a_jump : Gives 4 End (fraction 1 2) (fraction 1 2)
  pub end_first_step : Gives 10 End (fraction 69119 1000000) (fraction 0 1)
  pub start : Gives 3 Start (fraction 89 240) (fraction 2 3)
  pub start_second_step : Gives 5 Start (fraction 23 60) (fraction 2 5)
  pub start_last_step : Gives 4 Start (fraction 193 240) (fraction 1 1)

-- jumps at both ends, and at neither
pub record StepsAtBothOrNeither : Type 0 where
  pub both : Gives 5 Both (fraction 89 240) (fraction 1 3)
  pub both_of_one : Gives 1 Both (fraction 452909 500000) (fraction 1 2)
  pub both_last_step : Gives 10 Both (fraction 227 240) (fraction 10 11)
  pub neither : Gives 1000 Neither (fraction 3 20) (fraction 50 333)
  pub neither_first_step : Gives 2 Neither (fraction 19119 50000) (fraction 0 1)
  pub neither_last_step : Gives 10 Neither (fraction 945709 1000000) (fraction 1 1)
  pub neither_at_a_jump : Gives 3 Neither (fraction 18 54) (fraction 1 2)

-- the middle of `ease`, in parts of 8000, is at column 0.3125 and height 0.5375; its quarter, in parts of 64000, at 0.15625 and
-- 0.1984375. The middle of `ease-in-out` is half both ways, so at the input 1/2 the height is a half at each even scale, and twice
-- it reaches 1 there.
pub record CurvePoints : Type 0 where
  pub ease_column : column_at 250 250 1 1 ≡ 2500
  pub ease_height : height_at (pos 100) (pos 1000) 1 1 ≡ pos 4300
  pub ease_quarter_column : column_at 250 250 3 1 ≡ 10000
  pub ease_quarter_height : height_at (pos 100) (pos 1000) 3 1 ≡ pos 12700
  pub symmetric_column : column_at 420 580 1 1 ≡ 4000
  pub half_at_two : curve_height 420 (pos 0) 580 (pos 1000) (fraction 1 2) 2 ≡ pos 4000
  pub half_at_four : curve_height 420 (pos 0) 580 (pos 1000) (fraction 1 2) 4 ≡ pos 32000
  pub half_at_sixteen : curve_height 420 (pos 0) 580 (pos 1000) (fraction 1 2) 16 ≡ pos 2048000
  pub reaches_a_half : ReachesAt 420 (pos 0) 580 (pos 1000) (fraction 1 2) (pos 2) (pos 1) 16
