-- Where a file is too long, or memory is refused, that is told of its bytes.
use Rattle.std.proofs.Common.{rules, refl, inl, inr}
use Rattle.flash_top.specs.Verdicts.{witness_limit}
use Rattle.flash_top.proofs.FileLemmas.{any_file, longer_file}
use Rattle.flash_top.proofs.opening.open_witness.Goals as goal

pub returns-in-Err-TooLong-clause-fault : goal.returns-in-Err-TooLong-clause-fault
returns-in-Err-TooLong-clause-fault g c =
    inr (longer_file _ _ witness_limit _ (c.in-Err-TooLong.ensures.longer (search rules)) (λ bytes long. inr (record { none = inl long; told = refl })))

pub returns-in-Err-NoMemory-clause-fault : goal.returns-in-Err-NoMemory-clause-fault
returns-in-Err-NoMemory-clause-fault g c = inr (any_file _ _ _ (λ bytes. inl refl))
