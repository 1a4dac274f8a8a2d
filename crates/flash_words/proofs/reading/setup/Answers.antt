-- A rate over 1,001 isn't a number alone.
use Rattle.std.proofs.Common.{◌≡◌, ◌∙◌, ℕ, Ok, Some, ap, inl, inr}
use Rattle.std.specs.Result.{result_ok}
use Rattle.flash_words.proofs.RateLemmas.{over-fits, over-read, whole-fits, no_slash}
use Rattle.flash_words.proofs.reading.setup.Goals as goal

pub returns-in-Some-clause-spelled : goal.returns-in-Some-clause-spelled
returns-in-Some-clause-spelled c = λ s w.
    elim w.rate_is [
      | inl whole ↦
          absurd (no_slash whole.num c.in-Some.num (whole-fits w.width w.height whole.num s whole.setup_is) c.args.rate.now whole.rate_is
          c.in-Some.ensures.written)
      | inr over ↦
          let fits = over-fits w.width w.height over.num s over.setup_is in
          let size = c.in_ok-width.ensures.read w.width w.height fits.0 fits.1 w.size_is in
          let rate = c.in-Some.ensures.read over.num fits.2 over.rate_is in
          c.ok.ensures.value
          ∙ ap result_ok
          (c.over_1001.ensures
          ∙ over-read w.width w.height over.num c.in_ok-width.width c.in_ok-width.height c.in-Some.num s size rate over.setup_is)
    ]
