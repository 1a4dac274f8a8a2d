-- What the steps of a command come to, as it is told: a file that isn't read as a page or as a witness, and a scene that is judged.
use Rattle.std.specs.Prelude.{ℕ, ◌≡◌, ◌⊎◌, List}
use Rattle.page_judge.specs.declared.types.Judgement.{Judgement}
use Rattle.page_judge.specs.declared.types.Judgement.TheVariants.{Pass as Passed, Fail as Failed, Frames, Work, Enclosure}
use Rattle.flash_top.specs.Refusals.{IsRefusal}
use Rattle.flash_top.specs.Verdicts.{IsNoWitness}
use Rattle.flash_top.specs.declared.outcome.Outcome.{Outcome}
use Rattle.flash_top.specs.declared.outcome.Outcome.TheVariants.{Refused, Pass, Fail, TooManyFrames, TooMuchWork, Enclosed, NoWitness, NoMemory}
use Rattle.flash_top.specs.declared.refusal.PageRefusal.{PageRefusal}

-- the bytes are refused for a cause, and that is told
pub record IsRefusedAs (bytes : List ℕ) (outcome : Outcome) : Type 0 where
  pub refusal : PageRefusal
  pub cause : IsRefusal bytes refusal
  pub told : outcome ≡ Refused refusal

-- what comes of bytes that aren't loaded: they are refused, or memory is
abbrev pub IsUnloaded : List ℕ → Outcome → Type 0
IsUnloaded bytes outcome = (outcome ≡ NoMemory) ⊎ IsRefusedAs bytes outcome

-- what comes of bytes that aren't read as a witness: they are none, or memory is refused
pub record IsToldUnknown (bytes : List ℕ) (outcome : Outcome) : Type 0 where
  pub none : IsNoWitness bytes
  pub told : outcome ≡ NoWitness

abbrev pub IsUnknown : List ℕ → Outcome → Type 0
IsUnknown bytes outcome = (outcome ≡ NoMemory) ⊎ IsToldUnknown bytes outcome

-- a judgement as it is told
abbrev pub told : Judgement → Outcome
told (Passed frames apart) = Pass frames apart
told (Failed witness) = Fail witness
told Frames = TooManyFrames
told (Work cells frames) = TooMuchWork cells frames
told (Enclosure start x y) = Enclosed start x y
