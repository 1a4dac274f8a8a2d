-- What a run writes and how it ends: the one text of its outcome, or the beginning of it at a fault of the sink.
use Rattle.std.specs.Prelude.{ℕ, ◌≡◌, ◌⊎◌, List, Option}
use Rattle.std.specs.Io.KnownBytes.{Appends}
use Rattle.io_edge.specs.Faults.{Rose}
use Rattle.io_edge.specs.Writing.{AppendsPrefix}
use Rattle.flash_top.specs.declared.status.Status.{Status}
use Rattle.flash_top.specs.declared.status.Status.TheVariants.{WriteFault}

-- the sink's bytes, where they are told, and its count of faults, before a run and after it
pub record Sunk : Type 0 where
  pub old : Option (List ℕ)
  pub new : Option (List ℕ)
  pub faults_before : ℕ
  pub faults_after : ℕ

-- the whole text was written, and the status is its own
pub record TellsAll (sunk : Sunk) (text : List ℕ) (own status : Status) : Type 0 where
  pub written : Appends sunk.old sunk.new text
  pub status_is : status ≡ own

-- the sink counted a fault, and some first bytes of the text were written
pub record BreaksOff (sunk : Sunk) (text : List ℕ) (status : Status) : Type 0 where
  pub written : AppendsPrefix sunk.old sunk.new text
  pub counted : Rose sunk.faults_before sunk.faults_after
  pub status_is : status ≡ WriteFault

abbrev pub Tells : Sunk → List ℕ → Status → Status → Type 0
Tells sunk text own status = TellsAll sunk text own status ⊎ BreaksOff sunk text status
