use Rattle.std.proofs.Common.{◌≡◌, codes, rules, arith, refl}
use Rattle.std.specs.Prelude.{string_bytes}
use Rattle.flash_words.proofs.CheckWords.{map-seven, spells_tint, tint_spelled}
use Rattle.flash_words.proofs.reading.tint.Goals as goal

pub returns-in_err-setup-clause-spelled : goal.returns-in_err-setup-clause-spelled
returns-in_err-setup-clause-spelled c = λ page s spot w.
    let words_are = map-seven string_bytes c.args.words.now _ _ _ _ _ _ _ _ _ _ _ _ _ c.in-len7.len_at_least c.in-len7.len_below
    c.name-item.is c._page-item.is c.size-item.is c.rate-item.is c.frame-item.is c.x-item.is c.y-item.is c.as_str.ensures.value c.as_str-2.ensures.value c.as_str-3.ensures.value
    refl refl refl in
    let was = tint_spelled _ _ _ _ _ _ _ _ page s spot words_are w in
    absurd (let found = c.in_err-setup.ensures.spelled s was.1.setup_is in cc)

pub returns-in_err-frame-clause-spelled : goal.returns-in_err-frame-clause-spelled
returns-in_err-frame-clause-spelled c = λ page s spot w.
    let words_are = map-seven string_bytes c.args.words.now _ _ _ _ _ _ _ _ _ _ _ _ _ c.in-len7.len_at_least c.in-len7.len_below
    c.name-item.is c._page-item.is c.size-item.is c.rate-item.is c.frame-item.is c.x-item.is c.y-item.is c.as_str.ensures.value c.as_str-2.ensures.value c.as_str-3.ensures.value
    c.as_str-4.ensures.value refl refl in
    let was = tint_spelled _ _ _ _ _ _ _ _ page s spot words_are w in
    absurd (let found = c.in_err-frame.ensures.read spot.frame was.1.spot_is.frame_limit was.1.frame_is in cc)

pub returns-in_err-x-clause-spelled : goal.returns-in_err-x-clause-spelled
returns-in_err-x-clause-spelled c = λ page s spot w.
    let words_are = map-seven string_bytes c.args.words.now _ _ _ _ _ _ _ _ _ _ _ _ _ c.in-len7.len_at_least c.in-len7.len_below
    c.name-item.is c._page-item.is c.size-item.is c.rate-item.is c.frame-item.is c.x-item.is c.y-item.is c.as_str.ensures.value c.as_str-2.ensures.value c.as_str-3.ensures.value
    c.as_str-4.ensures.value c.as_str-5.ensures.value refl in
    let was = tint_spelled _ _ _ _ _ _ _ _ page s spot words_are w in
    let setup_is : c.in_ok-setup.setup ≡ s = (let found = c.in_ok-setup.ensures.spelled s was.1.setup_is in cc) in
    let limit = was.1.spot_is.left_of in
    absurd (let found = c.in_err-x.ensures.spelled spot.column (rw (c.width.ensures.value, setup_is) limit) was.1.column_is in cc)

pub returns-in_err-y-clause-spelled : goal.returns-in_err-y-clause-spelled
returns-in_err-y-clause-spelled c = λ page s spot w.
    let words_are = map-seven string_bytes c.args.words.now _ _ _ _ _ _ _ _ _ _ _ _ _ c.in-len7.len_at_least c.in-len7.len_below
    c.name-item.is c._page-item.is c.size-item.is c.rate-item.is c.frame-item.is c.x-item.is c.y-item.is c.as_str.ensures.value c.as_str-2.ensures.value c.as_str-3.ensures.value
    c.as_str-4.ensures.value c.as_str-5.ensures.value c.as_str-6.ensures.value in
    let was = tint_spelled _ _ _ _ _ _ _ _ page s spot words_are w in
    let setup_is : c.in_ok-setup.setup ≡ s = (let found = c.in_ok-setup.ensures.spelled s was.1.setup_is in cc) in
    let limit = was.1.spot_is.above in
    absurd (let found = c.in_err-y.ensures.spelled spot.row (rw (c.height.ensures.value, setup_is) limit) was.1.row_is in cc)

pub returns-clause-ok : goal.returns-clause-ok
returns-clause-ok c =
    let words_are = map-seven string_bytes c.args.words.now _ _ _ _ _ _ _ _ _ _ _ _ _ c.in-len7.len_at_least c.in-len7.len_below
    c.name-item.is c._page-item.is c.size-item.is c.rate-item.is c.frame-item.is c.x-item.is c.y-item.is c.as_str.ensures.value c.as_str-2.ensures.value c.as_str-3.ensures.value
    c.as_str-4.ensures.value c.as_str-5.ensures.value c.as_str-6.ensures.value in
    let named : c.as_str.result.now ≡ codes "tint" = search rules in
    spells_tint _ _ _ _ _ _ _ _ c.in_ok-setup.setup _ words_are named (record {
      setup_is = c.in_ok-setup.ensures.ok;
      frame_is = c.in_ok-frame.ensures.written;
      column_is = c.in_ok-x.ensures.ok;
      row_is = c.in_ok-y.ensures.ok;
      spot_is = record { frame_limit = omega arith; left_of = omega (arith, c.in_ok-x.ensures.within, c.width.ensures.value); above = omega (arith, c.in_ok-y.ensures.within, c.height.ensures.value) };
    })

pub returns-clause-spelled : goal.returns-clause-spelled
returns-clause-spelled c = λ page s spot w.
    let words_are = map-seven string_bytes c.args.words.now _ _ _ _ _ _ _ _ _ _ _ _ _ c.in-len7.len_at_least c.in-len7.len_below
    c.name-item.is c._page-item.is c.size-item.is c.rate-item.is c.frame-item.is c.x-item.is c.y-item.is c.as_str.ensures.value c.as_str-2.ensures.value c.as_str-3.ensures.value
    c.as_str-4.ensures.value c.as_str-5.ensures.value c.as_str-6.ensures.value in
    let was = tint_spelled _ _ _ _ _ _ _ _ page s spot words_are w in
    let setup_is : c.in_ok-setup.setup ≡ s = (let found = c.in_ok-setup.ensures.spelled s was.1.setup_is in cc) in
    let frame_is = c.in_ok-frame.ensures.read spot.frame was.1.spot_is.frame_limit was.1.frame_is in
    let column_is = c.in_ok-x.ensures.spelled spot.column (rw (c.width.ensures.value, setup_is) was.1.spot_is.left_of) was.1.column_is in
    let row_is = c.in_ok-y.ensures.spelled spot.row (rw (c.height.ensures.value, setup_is) was.1.spot_is.above) was.1.row_is in
    let page_is = was.0 in
    cc
