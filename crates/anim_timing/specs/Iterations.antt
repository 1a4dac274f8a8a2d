-- The code's numbers of iterations as the definitions have them.
use Rattle.page_model.specs.Fraction.{Fraction}
use Rattle.page_model.specs.Progress as definition
use Rattle.anim_timing.specs.declared.ratio.Ratio.{Ratio}
use Rattle.anim_timing.specs.declared.iterations.Iterations.{Iterations}
use Rattle.anim_timing.specs.declared.iterations.Iterations.TheVariants.{SoMany, Infinite}
use Rattle.anim_timing.specs.declared.iterations.Turn.{Turn}
use Rattle.anim_timing.specs.declared.iterations.Turn.TheVariants.{Number, NoLast}

abbrev pub ratio_as : Ratio → Fraction
ratio_as x = record { num = x.num; den = x.den }

abbrev pub iterations_as : Iterations → definition.Iterations
iterations_as (SoMany x) = definition.so_many (ratio_as x)
iterations_as Infinite = definition.infinite

abbrev pub turn_as : Turn → definition.Turn
turn_as (Number n) = definition.turn n
turn_as NoLast = definition.no_last
