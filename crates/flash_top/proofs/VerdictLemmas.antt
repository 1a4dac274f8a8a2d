-- What bytes come to: those that aren't loaded to the same by `verify`, whatever the witness is, and those of a scene by `check` to its
-- judgement.
use Rattle.std.proofs.Common.{ℕ, inl, inr, List, subst, sym}
use Rattle.page_judge.specs.Judgement.{IsJudgement}
use Rattle.page_judge.specs.declared.types.Judgement.{Judgement}
use Rattle.page_judge.specs.declared.types.Judgement.TheVariants.{Pass, Fail, Frames, Work, Enclosure}
use Rattle.page_model.specs.declared.scene.Scene.{Scene}
use Rattle.page_model.specs.Viewing.{Viewing}
use Rattle.flash_top.specs.Refusals.{IsLoadedAs}
use Rattle.flash_top.specs.Steps.{IsUnloaded, told}
use Rattle.flash_top.specs.Verdicts.{IsPageOf, IsVerdict, IsVerified}
use Rattle.flash_top.specs.declared.outcome.Outcome.{Outcome}

pub unloaded_verified : (setup : Viewing) (bytes text : List ℕ) (outcome : Outcome) → IsUnloaded bytes outcome → IsVerified setup bytes text outcome
unloaded_verified setup bytes text outcome (inl want) = subst (IsVerified setup bytes text) (sym want) tt
unloaded_verified setup bytes text outcome (inr is) = subst (IsVerified setup bytes text) (sym is.told) is.cause

pub judged_verdict : (setup : Viewing) (bytes : List ℕ) (scene : Scene) (judgement : Judgement) → IsLoadedAs bytes scene
    → IsJudgement scene setup judgement → IsVerdict setup bytes (told judgement)
judged_verdict setup bytes scene (Pass frames apart) loaded is = record { scene = scene; loaded = loaded; holds = is }
judged_verdict setup bytes scene (Fail witness) loaded is = record { scene = scene; loaded = loaded; holds = is }
judged_verdict setup bytes scene Frames loaded is = record { scene = scene; loaded = loaded; holds = is }
judged_verdict setup bytes scene (Work cells frames) loaded is = record { scene = scene; loaded = loaded; holds = is }
judged_verdict setup bytes scene (Enclosure start x y) loaded is = record { scene = scene; loaded = loaded; holds = is }

-- and what is told of them is such a judgement of their scene
pub judged_page : (setup : Viewing) (bytes : List ℕ) (judgement : Judgement) → IsVerdict setup bytes (told judgement)
    → IsPageOf bytes (λ scene. IsJudgement scene setup judgement)
judged_page setup bytes (Pass frames apart) is = is
judged_page setup bytes (Fail witness) is = is
judged_page setup bytes Frames is = is
judged_page setup bytes (Work cells frames) is = is
judged_page setup bytes (Enclosure start x y) is = is
