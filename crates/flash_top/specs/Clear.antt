-- Which pages `check` decides: those that are loaded, within the counted bounds, and clear of the thresholds.
use Rattle.std.specs.Prelude.{ℕ, List, Some}
use Rattle.page_model.specs.Viewing.{Viewing}
use Rattle.page_model.specs.declared.scene.Scene.{Scene}
use Rattle.io_edge.specs.Faults.{Rose}
use Rattle.io_edge.specs.Files.{Files, bytes_of}
use Rattle.page_judge.specs.Clear.{IsClear, IsWithinCounts}
use Rattle.flash_words.specs.Words.{Spells, word_at}
use Rattle.flash_words.specs.declared.words.Command.TheVariants.{Check}
use Rattle.flash_top.specs.Outcomes.{IsOutcome}
use Rattle.flash_top.specs.Refusals.{IsLoadedAs}
use Rattle.flash_top.specs.Verdicts.{IsVerdict}
use Rattle.flash_top.specs.declared.outcome.Outcome.{Outcome}
use Rattle.flash_top.specs.declared.outcome.Outcome.TheVariants.{Pass, Fail, NoMemory}

-- the bytes are a page whose scene is within the counted bounds, and clear: by the wide kind, or since it is exact
pub record IsClearPage (setup : Viewing) (bytes : List ℕ) : Type 0 where
  pub scene : Scene
  pub loaded : IsLoadedAs bytes scene
  pub counts : IsWithinCounts scene setup
  pub clear : IsClear scene setup

-- an answer is pass or fail, or memory was refused
abbrev pub IsDecision : Outcome → Type 0
IsDecision (Pass frames apart) = Unit {0}
IsDecision (Fail witness) = Unit {0}
IsDecision NoMemory = Unit {0}
IsDecision other = ⊥

abbrev pub ClearPagesAreDecided : Type 0
ClearPagesAreDecided =
    (setup : Viewing) (bytes : List ℕ) (outcome : Outcome) → IsClearPage setup bytes → IsVerdict setup bytes outcome → IsDecision outcome

-- so the words of `check` come to such an answer where they name such a page, and the source counts no fault
abbrev pub CheckDecides : List (List ℕ) → Type 0
CheckDecides words =
    (files : Files) (before after page : ℕ) (setup : Viewing) (outcome : Outcome) → Spells words (Check page setup)
    → IsClearPage setup (bytes_of files (word_at words page)) → (Rose before after → ⊥) → IsOutcome words (Some files) before after outcome
    → IsDecision outcome
