use Rattle.std.proofs.Common.{◌≡◌, ◌≤◌, ◌*◌, ◌+◌, ◌^◌, ◌-◌, suc, ◌∙◌, subst, length, arith, ℕ}
use Rattle.css_words.proofs.DigitLemmas.{one_more, next_digit}
use Rattle.css_words.proofs.digits.digits_value.Goals as goal

pub digits-preserved : goal.digits-preserved
digits-preserved c =
    let front = c.in-Some.ensures.cases in
    let is = c.digits.invariant in
    let length_is : length c.digits.rest.now ≡ suc (length c.in-Some.more.now) = omega (arith, front.1) in
    let P : ℕ → Type 0 = λ n. c.digits.value + 4 ≤ 4 * 10 ^ (length c.args.digits.now - n) in
    let few : c.from.result ≤ 36 = omega arith in
    record {
      value = next_digit c.digits.value c.from.result c.in-Some.first.now _ c.in-Some.more.now _ front.0 is.value (c.from.ensures ∙ c.digit_value.ensures.value);
      small = one_more c.digits.value c.from.result (length c.args.digits.now) (length c.in-Some.more.now) (subst P length_is is.small) few (omega (arith, is.shorter));
      shorter = omega (arith, is.shorter);
    }
