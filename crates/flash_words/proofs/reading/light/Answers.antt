use Rattle.std.proofs.Common.{◌≡◌, codes, rules}
use Rattle.std.specs.Prelude.{string_bytes}
use Rattle.flash_words.proofs.ShownWords.{light_read, map-two}
use Rattle.flash_words.proofs.reading.light.Goals as goal

pub returns-clause-ok : goal.returns-clause-ok
returns-clause-ok c =
    let words_are = map-two string_bytes c.args.words.now _ _ _ _ c.in-len2.len_at_least c.in-len2.len_below c.name-item.is c.word-item.is
    c.as_str.ensures.value c.as_str-2.ensures.value in
    let named : c.as_str.result.now ≡ codes "light" = search rules in
    light_read _ _ _ c.colour.result words_are named c.colour.ensures.written
