-- Where a pair writes no number, the word writes no colour.
use Rattle.std.proofs.Common.{◌≡◌}
use Rattle.flash_words.proofs.ColourWords.{digits_at}
use Rattle.flash_words.proofs.colours.colour.Goals as goal

pub returns-in_err-g-clause-read : goal.returns-in_err-g-clause-read
returns-in_err-g-clause-read c = λ d is.
    let digits = digits_at c.as_bytes.result.now d (rw c.as_bytes.ensures.value is) in
    absurd (let found = c.in_err-g.ensures.read d.g digits.1.0 in cc)

pub returns-in_err-b-clause-read : goal.returns-in_err-b-clause-read
returns-in_err-b-clause-read c = λ d is.
    let digits = digits_at c.as_bytes.result.now d (rw c.as_bytes.ensures.value is) in
    absurd (let found = c.in_err-b.ensures.read d.b digits.1.1 in cc)
