-- Each word has the numbers of its change.
use Rattle.std.proofs.Common.{ℕ, ◌≡◌, ◌<◌, get_or}
use Rattle.tint_changes.specs.declared.changes.Change.{Change}
use Rattle.tint_changes.specs.declared.changes.Change.TheVariants.{PossibleRise, PossibleFall, SureRise, SureFall, PossiblyIntoRed, PossiblyOutOfRed, SurelyIntoRed, SurelyOutOfRed}
use Rattle.flash_rows.specs.Pushing.{latest_of}
use Rattle.flash_rows.specs.Rows.{byte, column_of}
use Rattle.flash_rows.proofs.RowLemmas.{words_in}
use Rattle.flash_rows.proofs.next.words_of.Goals as goal

pub returns : goal.returns
returns c = record {
  tint_is = c.first_word.ensures.tint;
  run_is = c.first_word.ensures.run;
  starts = starts;
} where
  starts : (change : Change) (n : ℕ) → n < 8 → byte (get_or (words_in c.first_word.result (record {
    rise = c.word.result;
    fall = c.word-2.result;
    sure_rise = c.word-3.result;
    sure_fall = c.word-4.result;
    into = c.word-5.result;
    out = c.word-6.result;
    sure_into = c.word-7.result;
    sure_out = c.word-8.result;
  })) (column_of change) 0) n ≡ get_or (latest_of change c.args.latest.now) n 0
  starts PossibleRise = c.word.ensures
  starts PossibleFall = c.word-2.ensures
  starts SureRise = c.word-3.ensures
  starts SureFall = c.word-4.ensures
  starts PossiblyIntoRed = c.word-5.ensures
  starts PossiblyOutOfRed = c.word-6.ensures
  starts SurelyIntoRed = c.word-7.ensures
  starts SurelyOutOfRed = c.word-8.ensures
