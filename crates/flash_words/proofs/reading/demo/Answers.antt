use Rattle.std.proofs.Common.{◌≡◌, ◌∙◌, codes, rules, sym, arith}
use Rattle.std.specs.Prelude.{string_bytes}
use Rattle.flash_words.proofs.CheckWords.{map-four}
use Rattle.flash_words.proofs.ShownWords.{demo_read, demo_spelled}
use Rattle.flash_words.proofs.reading.demo.Goals as goal

pub returns-in_err-setup-clause-spelled : goal.returns-in_err-setup-clause-spelled
returns-in_err-setup-clause-spelled c = λ n s w.
    let words_are = map-four string_bytes c.args.words.now _ _ _ _ _ _ _ c.in-len4.len_at_least c.in-len4.len_below
    c.name-item.is c.number_word-item.is c.size-item.is c.rate-item.is c.as_str.ensures.value c.as_str-3.ensures.value c.as_str-4.ensures.value in
    let was = demo_spelled _ _ _ _ _ n s words_are w in
    absurd (let found = c.in_err-setup.ensures.spelled s was.2 in cc)

pub returns-clause-ok : goal.returns-clause-ok
returns-clause-ok c =
    let words_are = map-four string_bytes c.args.words.now _ _ _ _ _ _ _ c.in-len4.len_at_least c.in-len4.len_below
    c.name-item.is c.number_word-item.is c.size-item.is c.rate-item.is c.as_str.ensures.value c.as_str-3.ensures.value c.as_str-4.ensures.value in
    let named : c.as_str.result.now ≡ codes "demo" = search rules in
    demo_read _ _ _ _ _ c.in_ok-number.number c.in_ok-setup.setup words_are named (sym c.as_str-2.ensures.value ∙ c.in_ok-number.ensures.written)
    (omega arith) c.in_ok-setup.ensures.ok

pub returns-clause-spelled : goal.returns-clause-spelled
returns-clause-spelled c = λ n s w.
    let words_are = map-four string_bytes c.args.words.now _ _ _ _ _ _ _ c.in-len4.len_at_least c.in-len4.len_below
    c.name-item.is c.number_word-item.is c.size-item.is c.rate-item.is c.as_str.ensures.value c.as_str-3.ensures.value c.as_str-4.ensures.value in
    let was = demo_spelled _ _ _ _ _ n s words_are w in
    let number_is = c.in_ok-number.ensures.read n was.1 (c.as_str-2.ensures.value ∙ was.0) in
    let setup_is = c.in_ok-setup.ensures.spelled s was.2 in
    cc
