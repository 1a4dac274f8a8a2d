-- What testing a witness answers.
use Rattle.std.specs.Prelude.{◌≡◌, Result, Ok, Err}
use Rattle.page_model.specs.declared.scene.Scene.{Scene}
use Rattle.page_model.specs.declared.setup.Setup.{Setup}
use Rattle.page_model.specs.declared.witness.Witness.{Witness}
use Rattle.witness_laws.specs.Acceptance.{IsAccepted}
use Rattle.witness_checks.specs.Faults.{IsFirstFault, condition_of}
use Rattle.witness_checks.specs.declared.fault.WitnessFault.{WitnessFault}

-- all nine conditions hold, or this is the first that fails
abbrev pub IsTested : Scene → Setup → Witness → Result (Unit {0}) WitnessFault → Type 0
IsTested scene setup w (Ok nothing) = IsAccepted scene setup w
IsTested scene setup w (Err fault) = IsFirstFault scene setup w fault

-- some of the conditions hold, or a fault of theirs is the first, whatever the scene is
abbrev pub AreTested : (Setup → Witness → Type 0) → Setup → Witness → Result (Unit {0}) WitnessFault → Type 0
AreTested Hold setup w (Ok nothing) = Hold setup w
AreTested Hold setup w (Err fault) = (scene : Scene) → IsFirstFault scene setup w fault

-- all first faults of a witness are of one condition, at whatever place they are
abbrev pub OneCondition : Type 0
OneCondition =
    (scene : Scene) (setup : Setup) (w : Witness) (one other : WitnessFault) → IsFirstFault scene setup w one → IsFirstFault scene setup w other
    → condition_of one ≡ condition_of other
