-- The cause of each outcome of a run: what the words spell, and what the files come to that they name.
use Rattle.std.specs.Prelude.{ℕ, ◌≡◌, ◌⊎◌, List, Option}
use Rattle.io_edge.specs.Files.{Files}
use Rattle.flash_top.specs.Demos.{IsDemo}
use Rattle.flash_top.specs.Files.{HasFile, OrUnread}
use Rattle.flash_top.specs.Lighting.{IsLit}
use Rattle.flash_top.specs.Verdicts.{IsTinted, IsVerdict, IsVerified}
use Rattle.flash_words.specs.Words.{NamesFile, Spells, word_at}
use Rattle.flash_top.specs.declared.outcome.Outcome.{Outcome}
use Rattle.flash_top.specs.declared.outcome.Outcome.TheVariants.{WordsRefused}
use Rattle.flash_words.specs.declared.words.Command.{Command}
use Rattle.flash_words.specs.declared.words.Command.TheVariants.{Check, Verify, Tint, Light, Demo}

-- what a command comes to, by the files that its words name, where they name any
abbrev pub ComesTo : List (List ℕ) → Option Files → Command → Outcome → Type 0
ComesTo words files (Check page setup) outcome = HasFile files (word_at words page) (λ bytes. IsVerdict setup bytes outcome)
ComesTo words files (Verify page witness setup) outcome =
    HasFile files (word_at words page) (λ bytes. HasFile files (word_at words witness) (λ text. IsVerified setup bytes text outcome))
ComesTo words files (Tint page setup frame x y) outcome =
    HasFile files (word_at words page) (λ bytes. IsTinted setup (record { frame = frame; column = x; row = y }) bytes outcome)
ComesTo words files (Light colour) outcome = IsLit colour outcome
ComesTo words files (Demo number setup) outcome = IsDemo setup number outcome

-- the words spell a command, and it comes to the outcome, or a file couldn't be read
pub record IsObeyed (words : List (List ℕ)) (files : Option Files) (before after : ℕ) (outcome : Outcome) : Type 0 where
  pub command : Command
  pub spelled : Spells words command
  pub answered : OrUnread before after outcome (ComesTo words files command outcome)

-- the words spell no command, and that is told
pub record AreRefused (words : List (List ℕ)) (outcome : Outcome) : Type 0 where
  pub none : (command : Command) → Spells words command → ⊥
  pub told : outcome ≡ WordsRefused

-- what words come to, by the source's files, where it tells them, and its count of faults before and after
abbrev pub IsOutcome : List (List ℕ) → Option Files → ℕ → ℕ → Outcome → Type 0
IsOutcome words files before after outcome = AreRefused words outcome ⊎ IsObeyed words files before after outcome

-- the files that the words name may be opened: the page, and for `verify` the witness
abbrev pub MayOpenFiles : List (List ℕ) → (List ℕ → Type 0) → Type 0
MayOpenFiles words may_open = (command : Command) (place : ℕ) → Spells words command → NamesFile command place → may_open (word_at words place)
