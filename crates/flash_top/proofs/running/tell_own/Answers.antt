-- Where memory is refused for the text, that is what is told.
use Rattle.std.proofs.Common.{refl, inr}
use Rattle.flash_top.specs.declared.outcome.Outcome.TheVariants.{NoMemory}
use Rattle.flash_top.proofs.running.tell_own.Goals as goal

pub returns-in-Err : goal.returns-in-Err
returns-in-Err g c =
    (NoMemory, inr refl, c.tell_no_memory.ensures)
