-- A box that isn't shown, that misses the part, or that cuts it nowhere.
use Rattle.std.proofs.Common.{refl}
use Rattle.frame_state.specs.States.{state_as}
use Rattle.even_parts.proofs.EvenLemmas.{across-evenly, both-evenly, down-evenly}
use Rattle.even_parts.proofs.even.is_painted_evenly.Goals as goal

pub returns-then-misses : goal.returns-then-misses
returns-then-misses c so = across-evenly (state_as c.args.state.now) c.args.part.now (c.if-misses.ensures refl)

pub returns-then-misses-2 : goal.returns-then-misses-2
returns-then-misses-2 c so = down-evenly (state_as c.args.state.now) c.args.part.now (c.if-misses-2.ensures refl)

pub returns : goal.returns
returns c so =
    both-evenly (state_as c.args.state.now) c.args.part.now (c.if-not-cuts_nowhere.ensures refl) (c.cuts_nowhere-2.ensures so)
