use Rattle.std.proofs.Common.{Some, None}
use Rattle.flash_words.proofs.Decimals.{split-size}
use Rattle.flash_words.proofs.numerals.width_and_height.Goals as goal

pub returns-in_err-width-clause-read : goal.returns-in_err-width-clause-read
returns-in_err-width-clause-read c = λ w h width_fits height_fits e.
    absurd (split-size w h c.args.size.now None c.in_err-width.ensures.cases width_fits e)

pub returns-in_err-small_number-clause-read : goal.returns-in_err-small_number-clause-read
returns-in_err-small_number-clause-read c = λ w h width_fits height_fits e.
    let halves = split-size w h c.args.size.now (Some (c.in_ok-width.width, c.in_ok-width.height)) c.in_ok-width.ensures.cases width_fits e in
    absurd (cc (c.in_err-small_number.ensures.read w width_fits halves.0))

pub returns-in_err-small_number-2-clause-read : goal.returns-in_err-small_number-2-clause-read
returns-in_err-small_number-2-clause-read c = λ w h width_fits height_fits e.
    let halves = split-size w h c.args.size.now (Some (c.in_ok-width.width, c.in_ok-width.height)) c.in_ok-width.ensures.cases width_fits e in
    absurd (cc (c.in_err-small_number-2.ensures.read h height_fits halves.1))

pub returns-clause-read : goal.returns-clause-read
returns-clause-read c = λ w h width_fits height_fits e.
    let halves = split-size w h c.args.size.now (Some (c.in_ok-width.width, c.in_ok-width.height)) c.in_ok-width.ensures.cases width_fits e in
    cc (c.in_ok-small_number.ensures.read w width_fits halves.0, c.in_ok-small_number-2.ensures.read h height_fits halves.1)
