-- The phases compute.
use Rattle.std.proofs.Common.{refl}
use Rattle.time_values.specs.Examples.{at_rate}
use Rattle.time_values.specs.PhaseLaws.{delayed_second}
use Rattle.time_values.proofs.phase_laws.wrong_phase_breaks.Goals as goal

pub returns : goal.returns
returns c = record {
  begins = refl;
  begins_late = refl;
  is_over = refl;
  is_over_late = refl;
  breaks = λ boundaries. boundaries.start (at_rate 60) delayed_second 60 refl refl;
}
