use Rattle.std.proofs.Common.{◌≡◌, codes, rules}
use Rattle.std.specs.Prelude.{string_bytes}
use Rattle.flash_words.proofs.CheckWords.{map-four, check_read, check_spelled}
use Rattle.flash_words.proofs.reading.check.Goals as goal

pub returns-clause-ok : goal.returns-clause-ok
returns-clause-ok c =
    let words_are = map-four string_bytes c.args.words.now _ _ _ _ _ _ _ c.in-len4.len_at_least c.in-len4.len_below
    c.name-item.is c._page-item.is c.size-item.is c.rate-item.is c.as_str.ensures.value c.as_str-2.ensures.value c.as_str-3.ensures.value in
    let named : c.as_str.result.now ≡ codes "check" = search rules in
    check_read _ _ _ _ _ c.setup.result words_are named c.setup.ensures.ok

pub returns-clause-spelled : goal.returns-clause-spelled
returns-clause-spelled c = λ page s w.
    let words_are = map-four string_bytes c.args.words.now _ _ _ _ _ _ _ c.in-len4.len_at_least c.in-len4.len_below
    c.name-item.is c._page-item.is c.size-item.is c.rate-item.is c.as_str.ensures.value c.as_str-2.ensures.value c.as_str-3.ensures.value in
    let was = check_spelled _ _ _ _ _ page s words_are w in
    (was.0, c.setup.ensures.spelled s was.1)
