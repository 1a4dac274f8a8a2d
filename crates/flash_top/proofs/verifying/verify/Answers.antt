-- Where the page isn't loaded, any bytes of the witness do.
use Rattle.flash_top.proofs.FileLemmas.{any_file, still_file, still_unread}
use Rattle.flash_top.proofs.VerdictLemmas.{unloaded_verified}
use Rattle.flash_top.proofs.verifying.verify.Goals as goal

pub returns-in-Err : goal.returns-in-Err
returns-in-Err g c =
    still_unread _ _ _ c.in-Err.ensures.fault (λ has. still_file _ _ _ _ has (λ bytes is. any_file _ _ _ (λ text. unloaded_verified _ bytes text _ is)))
