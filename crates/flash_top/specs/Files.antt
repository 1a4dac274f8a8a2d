-- What comes of a file: a fault of the source, or what its bytes come to.
use Rattle.std.specs.Prelude.{ℕ, ◌≡◌, ◌⊎◌, List, Option}
use Rattle.io_edge.specs.Faults.{Rose}
use Rattle.io_edge.specs.Files.{Files}
use Rattle.io_edge.specs.Reading.{IsFile}
use Rattle.flash_top.specs.declared.outcome.Outcome.{Outcome}
use Rattle.flash_top.specs.declared.outcome.Outcome.TheVariants.{ReadFault}

-- a file has bytes of which something holds: those that the source tells for its name, where it tells its files
pub record HasFile (files : Option Files) (name : List ℕ) (Holds : List ℕ → Type 0) : Type 0 where
  pub bytes : List ℕ
  pub is_file : IsFile files name bytes
  pub holds : Holds bytes

-- a file couldn't be read, and the source counted a fault
pub record IsUnread (before after : ℕ) (outcome : Outcome) : Type 0 where
  pub told : outcome ≡ ReadFault
  pub counted : Rose before after

-- it couldn't, or this holds
abbrev pub OrUnread : ℕ → ℕ → Outcome → Type 0 → Type 0
OrUnread before after outcome Holds = IsUnread before after outcome ⊎ Holds
