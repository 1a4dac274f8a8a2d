-- A command may open the files that it names, and comes to what they do.
use Rattle.std.specs.Prelude.{string_bytes}
use Rattle.flash_top.proofs.NamedWords.{check_named, page_named, tint_named, verify_comes, witness_named, word_named}
use Rattle.flash_top.proofs.obeying.obey.Goals as goal

pub check-requires : goal.check-requires
check-requires g c =
    let named = check_named _ _ _ c.in-Check.is in
    rw (word_named string_bytes c.args.words.now c.args.command.now _ _ _ c.requires.spelled named c.index-words-page.is c.as_str.ensures.value)
    at (c.requires.may_open c.args.command.now _ c.requires.spelled named)

pub verify-requires-clause-page : goal.verify-requires-clause-page
verify-requires-clause-page g c =
    let named = page_named _ _ _ _ c.in-Verify.is in
    rw (word_named string_bytes c.args.words.now c.args.command.now _ _ _ c.requires.spelled named c.index-words-page-in-Verify.is c.as_str-in-Verify.ensures.value)
    at (c.requires.may_open c.args.command.now _ c.requires.spelled named)

pub verify-requires-clause-witness : goal.verify-requires-clause-witness
verify-requires-clause-witness g c =
    let named = witness_named _ _ _ _ c.in-Verify.is in
    rw (word_named string_bytes c.args.words.now c.args.command.now _ _ _ c.requires.spelled named c.index-words-witness.is c.as_str-in-Verify-2.ensures.value)
    at (c.requires.may_open c.args.command.now _ c.requires.spelled named)

pub tint-requires : goal.tint-requires
tint-requires g c =
    let named = tint_named _ _ _ _ _ _ c.in-Tint.is in
    rw (word_named string_bytes c.args.words.now c.args.command.now _ _ _ c.requires.spelled named c.index-words-page-in-Tint.is c.as_str-in-Tint.ensures.value)
    at (c.requires.may_open c.args.command.now _ c.requires.spelled named)

pub returns-in-Verify : goal.returns-in-Verify
returns-in-Verify g c =
    let page = word_named string_bytes c.args.words.now c.args.command.now _ _ _ c.requires.spelled (page_named _ _ _ _ c.in-Verify.is) c.index-words-page-in-Verify.is c.as_str-in-Verify.ensures.value in
    let witness = word_named string_bytes c.args.words.now c.args.command.now _ _ _ c.requires.spelled (witness_named _ _ _ _ c.in-Verify.is) c.index-words-witness.is c.as_str-in-Verify-2.ensures.value in
    verify_comes _ _ _ _ _ _ _ _ _ _ _ c.in-Verify.is page witness c.verify.ensures
