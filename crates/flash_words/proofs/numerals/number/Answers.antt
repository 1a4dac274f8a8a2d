use Rattle.std.proofs.Common.{◌≡◌, decimal, length, get_or, arith, ◌∙◌, ap}
use Rattle.flash_words.proofs.Decimals.{has_no_plus, has_no_leading_zero, parsed-written, parsed-read}
use Rattle.std.proofs.lemmas.Fmt.{decimal_nonempty}
use Rattle.flash_words.proofs.numerals.number.Goals as goal
use Rattle.flash_words.proofs.numerals.number.Goals.{else-first-eq48-via-then-first-eq48+else-text-gt1, else-first-eq48-via-else-first-eq48}

pub returns-in_err-first-clause-read : goal.returns-in_err-first-clause-read
returns-in_err-first-clause-read c = λ n small e.
    absurd (omega (arith, decimal_nonempty n (omega arith), ap length e, c.in_err-first.ensures.item.3, c.as_bytes.ensures.len))

pub returns-then-first-eq43-clause-read : goal.returns-then-first-eq43-clause-read
returns-then-first-eq43-clause-read c = λ n small e.
    let first = c.in_ok-first.ensures.item.4 (omega arith) 0 in
    let plus : get_or (decimal n) 0 0 ≡ 43 = cc in
    absurd (has_no_plus n (omega arith) plus)

pub returns-then-text-gt1-clause-read : goal.returns-then-text-gt1-clause-read
returns-then-text-gt1-clause-read c = λ n small e.
    let first = c.in_ok-first.ensures.item.4 (omega arith) 0 in
    let zero_first : get_or (decimal n) 0 0 ≡ 48 = cc in
    absurd (omega (arith, has_no_leading_zero n (omega arith) zero_first, ap length e))

pub returns-clause-written : goal.returns-clause-written
returns-clause-written c =
    let first = c.in_ok-first.ensures.item.4 (omega arith) 0 in
    let begins : get_or c.args.text.now 0 0 ≡ c.in_ok-first.field-0.now = cc in
    rw c.ok.ensures.value (parsed-written c.args.text.now c.parse.result c.parse.ensures.value.0
    (λ plus. c.if-first-eq43.false (cc))
    (λ zero_first. elim c.else-first-eq48.branch [
      | else-first-eq48-via-then-first-eq48+else-text-gt1 w ↦ omega (arith, c.in_ok-first.ensures.item.3.0, c.as_bytes.ensures.len)
      | else-first-eq48-via-else-first-eq48 w ↦ absurd (w.if-first-eq48.false (cc))
    ]))

pub returns-clause-read : goal.returns-clause-read
returns-clause-read c = λ n small e. c.ok.ensures.value ∙ parsed-read c.args.text.now c.parse.result n c.parse.ensures.value.0 small e
