-- By where the box spans both ways.
use Rattle.frame_state.specs.States.{state_as}
use Rattle.region_parts.proofs.AreaLemmas.{AreReaches, area-is, low-nowhere, narrow-nowhere}
use Rattle.region_parts.proofs.areas.area_of.Goals as goal
use Rattle.region_parts.proofs.areas.area_of.Goals.{then-across-via-then-across, then-across-via-else-across+then-down}

pub returns-then-across : goal.returns-then-across
returns-then-across c =
    let setup = c.args.setup.now in
    let state = state_as c.args.state.now in
    let reaches : AreReaches setup state c.reach_of-across.result.start c.reach_of-across.result.end c.reach_of-down.result.start c.reach_of-down.result.end =
    record { across = rw c.width.ensures.value at c.reach_of-across.ensures; down = rw c.height.ensures.value at c.reach_of-down.ensures } in
    elim c.then-across.branch [
      | then-across-via-then-across w ↦ narrow-nowhere setup state _ _ _ _ reaches w.if-across.true
      | then-across-via-else-across+then-down w ↦ low-nowhere setup state _ _ _ _ reaches w.if-down.true
    ]

pub returns : goal.returns
returns c =
    let setup = c.args.setup.now in
    let state = state_as c.args.state.now in
    let reaches : AreReaches setup state c.reach_of-across.result.start c.reach_of-across.result.end c.reach_of-down.result.start c.reach_of-down.result.end =
    record { across = rw c.width.ensures.value at c.reach_of-across.ensures; down = rw c.height.ensures.value at c.reach_of-down.ensures } in
    area-is setup state _ (λ same. let is = c.is_hidden.ensures.1 same in cc) reaches
