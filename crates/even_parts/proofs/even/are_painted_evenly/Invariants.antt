use Rattle.frame_state.specs.States.{states_as}
use Rattle.even_parts.specs.Even.{ArePaintedEvenly}
use Rattle.even_parts.proofs.even.are_painted_evenly.Given as goal

abbrev pub invariant-loop-number : goal.invariant-loop-number
invariant-loop-number l = ArePaintedEvenly (states_as l.states) l.number l.part
