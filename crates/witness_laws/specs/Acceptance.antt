-- When a witness is accepted: it meets all nine conditions by the tints of the own kind of enclosure, whatever these are.
use Rattle.page_model.specs.declared.scene.Scene.{Scene}
use Rattle.page_model.specs.declared.setup.Setup.{Setup}
use Rattle.page_model.specs.declared.witness.Witness.{Witness}
use Rattle.page_model.specs.Enclosure.{LooseRun, own}
use Rattle.page_model.specs.TintOf.{IsLooseRunIn, tints_of}
use Rattle.page_model.specs.WitnessConditions.{IsWitness}

abbrev pub IsAccepted : Scene → Setup → Witness → Type 0
IsAccepted scene setup w =
    (run : LooseRun) → IsLooseRunIn own scene setup w.start run → IsWitness setup (tints_of scene run) w
