use Rattle.std.proofs.Common.{◌≡◌, codes, rules}
use Rattle.std.specs.Prelude.{string_bytes}
use Rattle.flash_words.proofs.CheckWords.{map-five, verify_read, verify_spelled}
use Rattle.flash_words.proofs.reading.verify.Goals as goal

pub returns-clause-ok : goal.returns-clause-ok
returns-clause-ok c =
    let words_are = map-five string_bytes c.args.words.now _ _ _ _ _ _ _ _ c.in-len5.len_at_least c.in-len5.len_below
    c.name-item.is c._page-item.is c._witness-item.is c.size-item.is c.rate-item.is c.as_str.ensures.value c.as_str-2.ensures.value c.as_str-3.ensures.value in
    let named : c.as_str.result.now ≡ codes "verify" = search rules in
    verify_read _ _ _ _ _ _ c.setup.result words_are named c.setup.ensures.ok

pub returns-clause-spelled : goal.returns-clause-spelled
returns-clause-spelled c = λ page witness s w.
    let words_are = map-five string_bytes c.args.words.now _ _ _ _ _ _ _ _ c.in-len5.len_at_least c.in-len5.len_below
    c.name-item.is c._page-item.is c._witness-item.is c.size-item.is c.rate-item.is c.as_str.ensures.value c.as_str-2.ensures.value c.as_str-3.ensures.value in
    let was = verify_spelled _ _ _ _ _ _ page witness s words_are w in
    (was.0, was.1, c.setup.ensures.spelled s was.2)
