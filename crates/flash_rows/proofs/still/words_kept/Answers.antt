-- What the frame before tells, one frame later.
use Rattle.std.proofs.Common.{ℕ, ◌∙◌, Some, ap, subst, sym, ◌-◌, ◌<◌, [], ◌∷◌, ◌++◌, arith}
use Rattle.page_model.specs.declared.colour.Tint.{Tint}
use Rattle.tint_changes.specs.declared.changes.Change.TheVariants.{PossibleRise, PossibleFall, SureRise, SureFall, PossiblyIntoRed, PossiblyOutOfRed, SurelyIntoRed, SurelyOutOfRed}
use Rattle.flash_rows.proofs.RowLemmas.{ChangeWords, last-is, words-tell}
use Rattle.flash_rows.specs.Rows.{HasRun}
use Rattle.flash_rows.proofs.StillLemmas.{StaysAt, word-kept}
use Rattle.flash_rows.proofs.still.words_kept.Goals as goal

pub returns : goal.returns
returns c tints count stands =
    let rate : ℕ = c.args.rate in
    let turn : ℕ = c.args.turn in
    let tint : Tint = c.args.tint in
    let some : 0 < turn = c.requires.still.some in
    let tells = stands.tells (turn - 1) (omega arith) (omega arith) in
    let stays : StaysAt tints tint (turn - 1) turn = record {
      next = omega arith;
      count = count;
      before = tells.tint ∙ ap Some c.requires.still.before;
      never = c.requires.still.never;
    } in
    let at = c.last_place-place.ensures.value in
    let words : ChangeWords = record {
      rise = c.later_word.result;
      fall = c.later_word-2.result;
      sure_rise = c.later_word-3.result;
      sure_fall = c.later_word-4.result;
      into = c.later_word-5.result;
      out = c.later_word-6.result;
      sure_into = c.later_word-7.result;
      sure_out = c.later_word-8.result;
    } in
    words-tell rate turn (tints ++ tint ∷ []) tint c.first_word.result words (record {
      last = last-is tints tint turn count;
      holds = c.first_word.ensures.tint;
      rises = word-kept rate (turn - 1) turn c.last_place-place.result c.args.row.now tints tint PossibleRise words.rise at tells stays
          c.later_word.ensures;
      falls = word-kept rate (turn - 1) turn c.last_place-place.result c.args.row.now tints tint PossibleFall words.fall at tells stays
          c.later_word-2.ensures;
      sure_rises = word-kept rate (turn - 1) turn c.last_place-place.result c.args.row.now tints tint SureRise words.sure_rise at tells stays
          c.later_word-3.ensures;
      sure_falls = word-kept rate (turn - 1) turn c.last_place-place.result c.args.row.now tints tint SureFall words.sure_fall at tells stays
          c.later_word-4.ensures;
      goes_in = word-kept rate (turn - 1) turn c.last_place-place.result c.args.row.now tints tint PossiblyIntoRed words.into at tells stays
          c.later_word-5.ensures;
      goes_out = word-kept rate (turn - 1) turn c.last_place-place.result c.args.row.now tints tint PossiblyOutOfRed words.out at tells stays
          c.later_word-6.ensures;
      surely_in = word-kept rate (turn - 1) turn c.last_place-place.result c.args.row.now tints tint SurelyIntoRed words.sure_into at tells stays
          c.later_word-7.ensures;
      surely_out = word-kept rate (turn - 1) turn c.last_place-place.result c.args.row.now tints tint SurelyOutOfRed words.sure_out at tells stays
          c.later_word-8.ensures;
      run = subst (HasRun (tints ++ tint ∷ []) turn) (sym c.first_word.ensures.run) (c.requires.run tints count stands);
    })
