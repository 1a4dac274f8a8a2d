-- What the page that is made from a number comes to by `demo`, and why: what its bytes come to by `check`, told in sum.
use Rattle.std.specs.Prelude.{ℕ, ◌≡◌, ⊤}
use Rattle.page_gen.specs.GeneratedPage.{generated_page}
use Rattle.page_judge.specs.declared.types.Judgement.{Judgement}
use Rattle.page_model.specs.Viewing.{Viewing}
use Rattle.flash_top.specs.Refusals.{IsRefusal}
use Rattle.flash_top.specs.Steps.{told}
use Rattle.flash_top.specs.Verdicts.{IsVerdict}
use Rattle.flash_top.specs.declared.outcome.Outcome.{Outcome}
use Rattle.flash_top.specs.declared.outcome.Outcome.TheVariants.{Refused, Shown, NoMemory}

-- it is the page of this number, and it comes to this judgement by `check`
pub record IsShown (setup : Viewing) (number shown : ℕ) (judgement : Judgement) : Type 0 where
  pub number_is : shown ≡ number
  pub verdict : IsVerdict setup (generated_page number) (told judgement)

-- a page that is refused is told as it is by `check`
abbrev pub IsDemo : Viewing → ℕ → Outcome → Type 0
IsDemo setup number (Refused refusal) = IsRefusal (generated_page number) refusal
IsDemo setup number (Shown shown judgement) = IsShown setup number shown judgement
IsDemo setup number NoMemory = ⊤
IsDemo setup number other = ⊥
