-- That a fault is told only where it was counted.
use Rattle.std.specs.Prelude.{ℕ, ◌≡◌, List, Option}
use Rattle.io_edge.specs.Faults.{Rose}
use Rattle.io_edge.specs.Files.{Files}
use Rattle.flash_top.specs.Outcomes.{IsOutcome}
use Rattle.flash_top.specs.Telling.{Sunk, Tells}
use Rattle.flash_top.specs.Texts.{status_of, text_of}
use Rattle.flash_top.specs.declared.outcome.Outcome.{Outcome}
use Rattle.flash_top.specs.declared.status.Status.{Status}
use Rattle.flash_top.specs.declared.status.Status.TheVariants.{ReadFault, WriteFault}

-- a run ends with the status of a read fault only where the source's count of faults rose in it
abbrev pub ReadFaultsAreCounted : Type 0
ReadFaultsAreCounted =
    (words : List (List ℕ)) (files : Option Files) (before after : ℕ) (outcome : Outcome) (sunk : Sunk) (status : Status)
    → IsOutcome words files before after outcome → Tells sunk (text_of outcome) (status_of outcome) status → status ≡ ReadFault → Rose before after

-- and with that of a write fault only where the sink's rose
abbrev pub WriteFaultsAreCounted : Type 0
WriteFaultsAreCounted =
    (outcome : Outcome) (sunk : Sunk) (status : Status)
    → Tells sunk (text_of outcome) (status_of outcome) status → status ≡ WriteFault → Rose sunk.faults_before sunk.faults_after
